use Rattle.std.proofs.Common.{◌≤◌}
use Rattle.csicodec_tokens.proofs.body.whole_len.Given as goal

abbrev pub invariant-loop-len : goal.invariant-loop-len
invariant-loop-len l = record { within : l.len ≤ 16 }

abbrev pub decreases-loop-len : goal.decreases-loop-len
decreases-loop-len l = l.len
