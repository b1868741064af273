use Rattle.csicodec_overwrite.proofs.Common.{length, Look, AreLooks}
use Rattle.csicodec_overwrite.proofs.front.turn_all.Given as goal

-- the steps up to here are told
abbrev pub invariant-loop-step : goal.invariant-loop-step
invariant-loop-step l = record { looks : (after : Look) → AreLooks l.look l.rest after → AreLooks l.fn.look l.steps after }

abbrev pub decreases-loop-step : goal.decreases-loop-step
decreases-loop-step l = length l.rest
