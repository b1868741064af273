use Rattle.csicodec_streams.proofs.Exactly.{normalise_twice_lem}
use Rattle.csicodec.proofs.laws.normalise_twice.Goals as goal

pub returns : goal.returns
returns c = normalise_twice_lem c.args.bytes.now
