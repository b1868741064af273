use Rattle.std.proofs.Common.{◌<◌}
use Rattle.csicodec_events.specs.Events.{IsMet, left}
use Rattle.example_callers.proofs.emulator.Screen.play.Given as goal

abbrev pub invariant-loop-params : goal.invariant-loop-params
invariant-loop-params l = record { limit : 0 < l.events.limit; met : IsMet l.events l.rest }

abbrev pub decreases-loop-params : goal.decreases-loop-params
decreases-loop-params l = left l.events l.rest
