use Rattle.csicodec_listing.proofs.Joined.{passes_then}
use Rattle.csicodec_listing.proofs.laws.goes_on.Goals as goal

pub returns-clause-text : goal.returns-clause-text
returns-clause-text c = passes_then
