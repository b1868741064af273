use Rattle.csicodec_looks.proofs.Common.{length, StillDoes}
use Rattle.csicodec_looks.proofs.row.Row.take_all.Given as goal

-- the steps up to here are done
abbrev pub invariant-loop-step : goal.invariant-loop-step
invariant-loop-step l = record {
  still : StillDoes l.marking l.steps l.rest l.initial.pen l.pen l.initial.self l.self l.initial.out.items l.out.items;
}

abbrev pub decreases-loop-step : goal.decreases-loop-step
decreases-loop-step l = length l.rest
