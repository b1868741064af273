use Rattle.csicodec_overwrite.proofs.Stays.{plain_stays}
use Rattle.csicodec_overwrite.proofs.laws.plain_stays.Goals as goal

pub returns : goal.returns
returns c = plain_stays
