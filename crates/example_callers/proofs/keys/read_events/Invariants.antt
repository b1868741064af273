use Rattle.std.proofs.Common.{◌≡◌, ◌<◌, ℕ, List, ◌++◌}
use Rattle.csicodec_events.specs.Events.{IsMet, left}
use Rattle.example_callers.proofs.keys.read_events.Given as goal

-- what is left is an end of the bytes
abbrev pub invariant-loop-params : goal.invariant-loop-params
invariant-loop-params l = record { limit : 0 < l.events.limit; met : IsMet l.events l.rest; ends : (front : List ℕ) × (l.bytes ≡ front ++ l.rest) }

abbrev pub decreases-loop-params : goal.decreases-loop-params
decreases-loop-params l = left l.events l.rest
