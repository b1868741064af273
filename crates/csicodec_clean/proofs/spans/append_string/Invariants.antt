use Rattle.std.proofs.Common.{◌≡◌, ◌++◌, ℕ, List, take}
use Rattle.csicodec_clean.proofs.Common.{AreGiven}
use Rattle.csicodec_clean.proofs.spans.append_string.Given as goal

-- what the bytes up to here give is appended
abbrev pub invariant-loop-byte : goal.invariant-loop-byte
invariant-loop-byte g l = (text : List ℕ) × AreGiven g.T.Rule.gives l.initial.rule (take l.byte-index l.bytes) text l.rule × (l.out.items ≡ l.initial.out.items ++ text)
