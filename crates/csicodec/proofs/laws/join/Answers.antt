use Rattle.csicodec_streams.proofs.Exactly.{join_lem}
use Rattle.csicodec.proofs.laws.join.Goals as goal

pub returns : goal.returns
returns c = join_lem c.args.front.now c.args.back.now c.args.parameters_truncated
