use Rattle.csicodec_overwrite.proofs.{Common.rules, Drawn.none_behind, Drawn.to_none, Drawn.to_on}
use Rattle.csicodec_overwrite.proofs.text.append_text.Goals as goal

pub loop-rest-init : goal.loop-rest-init
loop-rest-init c = record { draws = to_none c.args.sets.now c.args.held.now.items c.args.bytes.now c.args.steps.now.items; short = λ h. h }

pub loop-rest-preserved : goal.loop-rest-preserved
loop-rest-preserved c = record {
  draws = to_on _ _ _ _ _ _ _ _ _ _ _ _ c.loop-rest.invariant.draws c.in_ok-rest.ensures.draws;
  short = λ h. c.in_ok-rest.ensures.short (c.loop-rest.invariant.short h);
}

pub returns-clause-draws : goal.returns-clause-draws
returns-clause-draws c = none_behind _ _ _ _ _ _ _ _ (search rules) c.loop-rest.invariant.draws
