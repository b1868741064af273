use Rattle.csicodec_base.proofs.Table.{short}
use Rattle.csicodec_base.proofs.ready.entry_at.Goals as goal

pub returns-clause-short : goal.returns-clause-short
returns-clause-short c = short c.args.place
