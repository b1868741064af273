use Rattle.std.proofs.Common.{◌∙◌}
use Rattle.csicodec_screen.specs.Draws.{placed}
use Rattle.csicodec_screen.proofs.Times.{times_more}
use Rattle.csicodec_screen.proofs.screen.Screen.repeat.Goals as goal

pub loop-i-preserved : goal.loop-i-preserved
loop-i-preserved c =
    times_more (placed c.columns_of-width.result c.args.char) c.min-most.result c.loop-i._i c.loop-i.self c.place_char.new.self c.loop-i-test.true c.place_char.ensures ∙ c.loop-i.invariant
