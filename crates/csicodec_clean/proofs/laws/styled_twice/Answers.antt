use Rattle.csicodec_clean.proofs.Again.{styled_twice}
use Rattle.csicodec_clean.proofs.laws.styled_twice.Goals as goal

pub returns : goal.returns
returns c = styled_twice
