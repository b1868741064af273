use Rattle.csicodec_overwrite.proofs.Same.{same_text}
use Rattle.csicodec_overwrite.proofs.laws.same_text.Goals as goal

pub returns : goal.returns
returns c = same_text
