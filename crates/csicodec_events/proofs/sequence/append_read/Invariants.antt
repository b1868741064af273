use Rattle.std.proofs.Common.{◌≡◌, ◌++◌, take}
use Rattle.csicodec_events.specs.Events.{without_controls}
use Rattle.csicodec_events.proofs.sequence.append_read.Given as goal

abbrev pub invariant-loop-byte : goal.invariant-loop-byte
invariant-loop-byte l = l.out.items ≡ l.fn.out.items ++ without_controls (take l.byte-index l.bytes)
