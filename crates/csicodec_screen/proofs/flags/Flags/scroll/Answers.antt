use Rattle.std.proofs.Common.{◌∙◌, false}
use Rattle.csicodec_screen.proofs.flags.Flags.scroll.Goals as goal

pub returns : goal.returns
returns c = rw (← c.self.view_is) (c.fill.ensures ∙ c.shift-start.ensures false)
