use Rattle.csicodec_clean.proofs.Again.{one_styled}
use Rattle.csicodec_clean.proofs.laws.one_styled.Goals as goal

pub returns : goal.returns
returns c = one_styled
