use Rattle.std.proofs.Common.{rules}
use Rattle.csicodec_screen.specs.{Feeds.of_char, Feeds.of_text, Steps.carry}
use Rattle.csicodec_screen.proofs.Fed.{carry_on}
use Rattle.csicodec_screen.proofs.receiver.take_text.Goals as goal

pub loop-char-preserved : goal.loop-char-preserved
loop-char-preserved c =
    carry_on of_char c.loop-char.chars c.in-Some.char c.next.new.self c.loop-char.screen c.take_char.new.screen (carry (of_text c.args.bytes.now) c.args.screen.now) (search rules) c.in_ok-take_char.ensures c.loop-char.invariant
