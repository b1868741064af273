use Rattle.csicodec_overwrite.proofs.Kept.{overwritten_plain}
use Rattle.csicodec_overwrite.proofs.laws.plain.Goals as goal

pub returns : goal.returns
returns c = overwritten_plain
