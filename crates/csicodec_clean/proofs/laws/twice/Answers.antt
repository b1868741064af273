use Rattle.csicodec_clean.proofs.{Common.longest, Told.twice}
use Rattle.csicodec_clean.proofs.laws.twice.Goals as goal

pub returns : goal.returns
returns c = twice longest
