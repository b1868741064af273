use Rattle.std.proofs.Common.{◌∙◌, ap}
use Rattle.csicodec_screen.specs.Draws.{placed, roomy}
use Rattle.csicodec_screen.proofs.screen.Screen.put.Goals as goal

pub returns : goal.returns
returns c = c.place_char.ensures ∙ ap (placed c.args.width c.args.char) (c.in_ok-turn.ensures ∙ ap (roomy c.args.width) c.in_ok-enter.ensures)
