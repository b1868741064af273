use Rattle.csicodec_screen.proofs.Shown.{view_shown}
use Rattle.csicodec_screen.proofs.laws.plain.Goals as goal

pub returns : goal.returns
returns c = view_shown
