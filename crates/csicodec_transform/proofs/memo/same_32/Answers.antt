use Rattle.std.proofs.Common.{arith}
use Rattle.csicodec_transform.proofs.Slots.{same_lanes, differing_mask}
use Rattle.csicodec_transform.proofs.memo.same_32.Goals as goal

pub returns-clause-same : goal.returns-clause-same
returns-clause-same c = same_lanes c.args.a c.args.b 32 (omega arith) c.fits-a.0 c.fits-b.0 _ (differing_mask c.args.a c.args.b 32 (omega arith) c.fits-a.0 c.fits-b.0)
