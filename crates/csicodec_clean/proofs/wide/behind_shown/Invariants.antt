use Rattle.std.proofs.Common.{length}
use Rattle.csicodec_clean.proofs.Common.{IsBehind, shown}
use Rattle.csicodec_clean.proofs.wide.behind_shown.Given as goal

-- some characters were passed
abbrev pub invariant-loop-rest : goal.invariant-loop-rest
invariant-loop-rest l = record { shown : IsBehind shown l.bytes l.rest }

abbrev pub decreases-loop-rest : goal.decreases-loop-rest
decreases-loop-rest l = length l.rest
