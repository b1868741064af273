use Rattle.std.proofs.Common.{◌≡◌, ◌++◌, ◌≤◌, ◌-◌, length, take, drop}
use Rattle.std.specs.List.{flat_map}
use Rattle.csicodec_osc.specs.Escaped.{escaped}
use Rattle.csicodec_osc.proofs.escape.plain_len.Given as goal

-- the bytes so far are shown as themselves
abbrev pub invariant-loop-len : goal.invariant-loop-len
invariant-loop-len l = (l.len ≤ length l.bytes) × (flat_map escaped l.bytes ≡ take l.len l.bytes ++ flat_map escaped (drop l.len l.bytes))

abbrev pub decreases-loop-len : goal.decreases-loop-len
decreases-loop-len l = length l.bytes - l.len
