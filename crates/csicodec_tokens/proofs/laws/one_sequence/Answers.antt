use Rattle.csicodec_tokens.proofs.Reading.{one_seq}
use Rattle.csicodec_tokens.proofs.laws.one_sequence.Goals as goal

pub returns : goal.returns
returns c = λ a b x y l m f g s t e. one_seq a b x y l m f g s t e
