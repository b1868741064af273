use Rattle.csicodec_clean.proofs.{Common.longest, Told.one_text}
use Rattle.csicodec_clean.proofs.laws.one_text.Goals as goal

pub returns : goal.returns
returns c = one_text longest
