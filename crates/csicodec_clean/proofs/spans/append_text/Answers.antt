use Rattle.std.proofs.Common.{rules}
use Rattle.csicodec_clean.proofs.Drawn.{none_behind, to_none, to_on}
use Rattle.csicodec_clean.proofs.spans.append_text.Goals as goal

pub loop-rest-init : goal.loop-rest-init
loop-rest-init g c = record {
  draws = to_none g.T.Rule.gives.writing c.args.sets.now c.args.held.now.items c.args.bytes.now c.args.out.now.items;
  short = λ h. h;
}

pub loop-rest-preserved : goal.loop-rest-preserved
loop-rest-preserved g c = record {
  draws = to_on g.T.Rule.gives.writing _ _ _ _ _ _ _ _ _ _ _ _ c.loop-rest.invariant.draws c.in_ok-rest.ensures.draws;
  short = λ h. c.in_ok-rest.ensures.short (c.loop-rest.invariant.short h);
}

pub returns-clause-draws : goal.returns-clause-draws
returns-clause-draws g c = none_behind g.T.Rule.gives.writing _ _ _ _ _ _ _ _ (search rules) c.loop-rest.invariant.draws
