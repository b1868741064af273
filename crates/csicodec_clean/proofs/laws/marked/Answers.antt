use Rattle.csicodec_clean.proofs.Styled.{cleaned_marked, styled_marked}
use Rattle.csicodec_clean.proofs.laws.marked.Goals as goal

pub returns : goal.returns
returns c = record { text = styled_marked; cleaned = cleaned_marked }
