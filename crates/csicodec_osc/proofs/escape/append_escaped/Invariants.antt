use Rattle.std.proofs.Common.{◌≡◌, ◌++◌, length}
use Rattle.std.specs.List.{flat_map}
use Rattle.csicodec_osc.specs.Escaped.{escaped}
use Rattle.csicodec_osc.proofs.escape.append_escaped.Given as goal

-- what is appended, and then the rest as it is shown, are all the bytes as they are shown
abbrev pub invariant-loop-byte : goal.invariant-loop-byte
invariant-loop-byte l = l.out.items ++ flat_map escaped l.rest ≡ l.initial.out.items ++ flat_map escaped l.bytes

abbrev pub decreases-loop-byte : goal.decreases-loop-byte
decreases-loop-byte l = length l.rest
