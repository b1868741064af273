use Rattle.std.proofs.Common.{◌≡◌, length}
use Rattle.std.specs.List.{flat_map}
use Rattle.csicodec_screen.specs.{Feeds.of_control, Steps.carry}
use Rattle.csicodec_screen.proofs.receiver.take_wrong.Given as goal

abbrev pub invariant-loop-byte : goal.invariant-loop-byte
invariant-loop-byte l = carry (flat_map of_control l.rest) l.screen ≡ carry (flat_map of_control l.bytes) l.fn.screen

abbrev pub decreases-loop-byte : goal.decreases-loop-byte
decreases-loop-byte l = length l.rest
