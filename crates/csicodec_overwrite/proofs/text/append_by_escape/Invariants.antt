use Rattle.csicodec_overwrite.proofs.Common.{◌≡◌, ◌++◌, take, flat_map, by_escape}
use Rattle.csicodec_overwrite.proofs.text.append_by_escape.Given as goal

-- the steps of the bytes up to here
abbrev pub invariant-loop-byte : goal.invariant-loop-byte
invariant-loop-byte l = record { steps : l.steps.items ≡ l.initial.steps.items ++ flat_map (by_escape l.step) (take l.byte-index l.bytes) }
