use Rattle.std.proofs.Common.{◌≤◌, ◌-◌, length, take}
use Rattle.csicodec_tokens.specs.Digits.{AreDigits}
use Rattle.csicodec_streams.proofs.position.more_len.Given as goal

-- some digits were passed
abbrev pub invariant-loop-len : goal.invariant-loop-len
invariant-loop-len l = record { digits : AreDigits (take l.len l.bytes); within : l.len ≤ length l.bytes; few : l.len ≤ 5 }

abbrev pub decreases-loop-len : goal.decreases-loop-len
decreases-loop-len l = 5 - l.len
