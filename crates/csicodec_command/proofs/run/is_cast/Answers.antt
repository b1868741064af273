use Rattle.csicodec_command.proofs.Common.{codes, ends_text}
use Rattle.csicodec_command.proofs.run.is_cast.Goals as goal

pub returns : goal.returns
returns c = ends_text c.ends_with.result (codes ".cast") c.args.name.now c.ends_with.ensures.cases
