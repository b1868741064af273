use Rattle.std.proofs.Common.{[], sym, append-nil}
use Rattle.csicodec_transform.proofs.Sent.{goes_none}
use Rattle.csicodec_lines.specs.Stream.{Passes}
use Rattle.csicodec_lines.proofs.lines.LinesTransform.pause.Goals as goal

pub returns-clause-passes : goal.returns-clause-passes
returns-clause-passes g c = ([], goes_none (Passes g.R.Anew.begins g.R.Rule.gives g.R.Rule.closes) c.args.self.now, sym (append-nil c.args._out.now.items))
