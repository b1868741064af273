use Rattle.csicodec_clean.proofs.Titles.{kept}
use Rattle.csicodec_clean.proofs.laws.titles.Goals as goal

pub returns-clause-kept : goal.returns-clause-kept
returns-clause-kept c = kept
