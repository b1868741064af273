use Rattle.std.proofs.Common.{◌≡◌, length}
use Rattle.csicodec_screen.specs.Feeds.{numbered}
use Rattle.csicodec_screen.proofs.strings.numbered.Given as goal

abbrev pub invariant-loop-byte : goal.invariant-loop-byte
invariant-loop-byte l = numbered l.number l.rest ≡ numbered 0 l.bytes

abbrev pub decreases-loop-byte : goal.decreases-loop-byte
decreases-loop-byte l = length l.rest
