use Rattle.std.proofs.Common.{length}
use Rattle.csicodec_clean.proofs.Common.{IsBehind}
use Rattle.csicodec_clean.proofs.check.behind_text.Given as goal

-- some characters were passed
abbrev pub invariant-loop-rest : goal.invariant-loop-rest
invariant-loop-rest g l = record { text : IsBehind g.C.CharClass.class l.bytes l.rest }

abbrev pub decreases-loop-rest : goal.decreases-loop-rest
decreases-loop-rest g l = length l.rest
