use Rattle.std.proofs.Common.{length}
use Rattle.csicodec_compact.proofs.spell.append_styles.Given as goal

abbrev pub decreases-loop-rest : goal.decreases-loop-rest
decreases-loop-rest l = length l.rest
