use Rattle.csicodec_listing.proofs.Joined.{refused}
use Rattle.csicodec_listing.proofs.laws.refused.Goals as goal

pub returns : goal.returns
returns c = refused
