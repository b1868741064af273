use Rattle.csicodec_terminal.proofs.Unique.{one_reading}
use Rattle.csicodec_terminal.proofs.laws.one_reading.Goals as goal

pub returns : goal.returns
returns c = one_reading c.args.params.now c.args.parameters_truncated c.args.control
