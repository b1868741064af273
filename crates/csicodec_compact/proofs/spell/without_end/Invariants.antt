use Rattle.std.proofs.Common.{length}
use Rattle.csicodec_compact.proofs.spell.without_end.Given as goal

abbrev pub decreases-loop-last : goal.decreases-loop-last
decreases-loop-last l = length l.front
