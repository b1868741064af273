use Rattle.csicodec_terminal.proofs.Unique.{agree}
use Rattle.csicodec_terminal.proofs.laws.agreement.Goals as goal

pub returns : goal.returns
returns c = agree c.args.params.now c.args.parameters_truncated c.args.control
