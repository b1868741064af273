use Rattle.std.proofs.Common.{length}
use Rattle.csicodec_clean.proofs.Common.{Tells}
use Rattle.csicodec_clean.proofs.text.append_told.Given as goal

-- some text was told
abbrev pub invariant-loop-behind : goal.invariant-loop-behind
invariant-loop-behind g l = record { tells : Tells g.T.Rule.gives.writing l.bytes l.rest l.initial.out.items l.out.items }

abbrev pub decreases-loop-behind : goal.decreases-loop-behind
decreases-loop-behind g l = length l.rest
