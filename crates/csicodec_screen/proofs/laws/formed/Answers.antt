use Rattle.csicodec_screen.proofs.Formed.{fresh_formed}
use Rattle.csicodec_screen.proofs.laws.formed.Goals as goal

pub returns : goal.returns
returns c = fresh_formed
