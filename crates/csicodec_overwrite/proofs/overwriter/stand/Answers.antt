use Rattle.std.proofs.Common.{rules}
use Rattle.csicodec_overwrite.proofs.Equal.{same_sets}
use Rattle.csicodec_overwrite.proofs.overwriter.stand.Goals as goal

pub returns-else-ne-clause-sets : goal.returns-else-ne-clause-sets
returns-else-ne-clause-sets c = same_sets c.args.of.now c.args.sets (search rules)
