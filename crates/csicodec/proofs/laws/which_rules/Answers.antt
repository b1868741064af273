use Rattle.csicodec_streams.proofs.RowGroups.{which_rules_lem}
use Rattle.csicodec.proofs.laws.which_rules.Goals as goal

pub returns : goal.returns
returns c = which_rules_lem c.args.params.now c.args.control
