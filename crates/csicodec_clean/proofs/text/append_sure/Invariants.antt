use Rattle.std.proofs.Common.{◌≡◌, ◌++◌, ℕ, List, length}
use Rattle.csicodec_clean.proofs.Common.{chars_as, ReadsTo}
use Rattle.csicodec_clean.proofs.text.append_sure.Given as goal

-- some characters were read, and what is shown of them was appended
abbrev pub invariant-loop-char : goal.invariant-loop-char
invariant-loop-char g l = (chars : List ℕ) × ReadsTo l.bytes chars l.rest × (l.out.items ≡ l.fn.out.items ++ chars_as g.T.Rule.gives.writing chars)

abbrev pub decreases-loop-char : goal.decreases-loop-char
decreases-loop-char g l = length l.rest
