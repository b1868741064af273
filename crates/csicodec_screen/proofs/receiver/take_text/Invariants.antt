use Rattle.std.proofs.Common.{◌≡◌, length}
use Rattle.std.specs.List.{flat_map}
use Rattle.csicodec_screen.specs.{Feeds.of_char, Feeds.of_text, Steps.carry}
use Rattle.csicodec_screen.proofs.receiver.take_text.Given as goal

abbrev pub invariant-loop-char : goal.invariant-loop-char
invariant-loop-char l = carry (flat_map of_char l.chars) l.screen ≡ carry (of_text l.fn.bytes) l.fn.screen

abbrev pub decreases-loop-char : goal.decreases-loop-char
decreases-loop-char l = length l.chars
