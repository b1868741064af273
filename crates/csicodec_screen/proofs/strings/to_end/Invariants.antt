use Rattle.std.proofs.Common.{◌≡◌, ◌+◌, ◌≤◌, length}
use Rattle.csicodec_screen.specs.Feeds.{to_end}
use Rattle.csicodec_screen.proofs.strings.to_end.Given as goal

abbrev pub invariant-loop-byte : goal.invariant-loop-byte
invariant-loop-byte l = record { is : l.count + to_end l.rest ≡ to_end l.bytes; within : l.count + length l.rest ≤ length l.bytes }

abbrev pub decreases-loop-byte : goal.decreases-loop-byte
decreases-loop-byte l = length l.rest
