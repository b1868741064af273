use Rattle.csicodec_clean.proofs.Again.{strip_cleaned}
use Rattle.csicodec_clean.proofs.laws.strip_cleaned.Goals as goal

pub returns : goal.returns
returns c = strip_cleaned
