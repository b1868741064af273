use Rattle.csicodec_clean.proofs.{Common.longest, Told.plain_stays}
use Rattle.csicodec_clean.proofs.laws.plain_stays.Goals as goal

pub returns : goal.returns
returns c = plain_stays longest
