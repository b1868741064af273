use Rattle.std.proofs.Common.{◌≡◌, ◌≤◌, take}
use Rattle.csicodec_clean.specs.Check.{line_ends}
use Rattle.csicodec_clean.proofs.check.line_ends.Given as goal

-- those up to here are counted
abbrev pub invariant-loop-byte : goal.invariant-loop-byte
invariant-loop-byte l = record { count : l.count ≡ line_ends (take l.byte-index l.text); few : l.count ≤ l.byte-index }
