use Rattle.std.proofs.Common.{length}
use Rattle.example_callers.proofs.sequences.without_blink.Given as goal

abbrev pub decreases-sequences : goal.decreases-sequences
decreases-sequences l = length l.rest
