use Rattle.std.proofs.Common.{◌≡◌, ◌++◌, ℕ, List, length}
use Rattle.csicodec_tool.specs.Spelled.{Spells}
use Rattle.csicodec_tool.proofs.spelled.append_sure.Given as goal

-- some characters were read, and what is written of them was appended
abbrev pub invariant-loop-char : goal.invariant-loop-char
invariant-loop-char l = ((more : List ℕ) × Spells l.text more l.rest × (l.out.items ≡ l.fn.out.items ++ more))
    × ((front : List ℕ) × (l.text ≡ front ++ l.rest))

abbrev pub decreases-loop-char : goal.decreases-loop-char
decreases-loop-char l = length l.rest
