use Rattle.std.proofs.Common.{length}
use Rattle.csicodec_overwrite.specs.Private.Front.{line_char}
use Rattle.csicodec_clean.specs.Shown.{IsBehind}
use Rattle.csicodec_overwrite.proofs.line_text.behind_beyond.Given as goal

-- some characters were passed
abbrev pub invariant-loop-rest : goal.invariant-loop-rest
invariant-loop-rest l = record { passed : IsBehind line_char l.bytes l.rest }

abbrev pub decreases-loop-rest : goal.decreases-loop-rest
decreases-loop-rest l = length l.rest
