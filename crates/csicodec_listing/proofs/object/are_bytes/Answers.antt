use Rattle.csicodec_listing.proofs.Common.{arith}
use Rattle.csicodec_listing.proofs.object.are_bytes.Goals as goal

pub returns : goal.returns
returns c = λ i. let fits = c.type_inv.bytes i in omega arith
