use Rattle.std.proofs.Common.{◌<◌, ◌≤◌, length}
use Rattle.csicodec_events.specs.Events.{IsMet, left}
use Rattle.csicodec_explain.proofs.input.tell_all.Given as goal

-- what is left is a part of the bytes
abbrev pub invariant-loop-sent : goal.invariant-loop-sent
invariant-loop-sent l = record { limit : 0 < l.events.limit; met : IsMet l.events l.rest; within : length l.rest ≤ length l.bytes }

abbrev pub decreases-loop-sent : goal.decreases-loop-sent
decreases-loop-sent l = left l.events l.rest
