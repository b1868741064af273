use Rattle.std.proofs.Common.{rules}
use Rattle.csicodec_lines.specs.Stream.{Passes}
use Rattle.csicodec_lines.proofs.Common.{adds_all, adds_none, adds_on}
use Rattle.csicodec_lines.proofs.lines.LinesTransform.take.Goals as goal

pub loop-rest-init : goal.loop-rest-init
loop-rest-init g c = adds_none (Passes g.R.Anew.begins g.R.Rule.gives g.R.Rule.closes) c.args.self.now c.args.bytes.now c.args.out.now.items

pub loop-rest-preserved : goal.loop-rest-preserved
loop-rest-preserved g c = adds_on (Passes g.R.Anew.begins g.R.Rule.gives g.R.Rule.closes) _ _ _ _ _ _ _ _ _ c.loop-rest.invariant c.in_ok-rest.ensures.taken

pub returns-clause-passes : goal.returns-clause-passes
returns-clause-passes g c = adds_all (Passes g.R.Anew.begins g.R.Rule.gives g.R.Rule.closes) _ _ _ _ _ _ c.loop-rest.invariant (search rules)
