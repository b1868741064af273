use Rattle.csicodec_overwrite.proofs.Written.{one_text}
use Rattle.csicodec_overwrite.proofs.laws.one_text.Goals as goal

pub returns : goal.returns
returns c = one_text
