use Rattle.std.proofs.Common.{◌≡◌, ◌+◌, ◌-◌, ◌≤◌, length, drop, max}
use Rattle.std.specs.List.{prefix_len}
use Rattle.csicodec_events.specs.Events.{is_passed, stop}
use Rattle.csicodec_events.proofs.sequence.stop.Given as goal

-- what was passed is no place to stop
abbrev pub invariant-loop-at : goal.invariant-loop-at
invariant-loop-at l = record {
  within : l.at ≤ length l.fn.front.bytes;
  behind : max 2 l.fn.looked ≤ l.at;
  bytes : l.front.bytes ≡ l.fn.front.bytes;
  looks : l.front.looks + max 2 l.fn.looked ≡ l.fn.front.looks + l.at;
  place : stop l.fn.looked l.fn.front.bytes ≡ l.at + prefix_len is_passed (drop l.at l.fn.front.bytes);
}

abbrev pub decreases-loop-at : goal.decreases-loop-at
decreases-loop-at l = length l.fn.front.bytes - l.at
