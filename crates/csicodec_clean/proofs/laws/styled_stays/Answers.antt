use Rattle.csicodec_clean.proofs.Again.{styled_stays}
use Rattle.csicodec_clean.proofs.laws.styled_stays.Goals as goal

pub returns : goal.returns
returns c = styled_stays
