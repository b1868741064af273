use Rattle.csicodec_overwrite.proofs.Common.{◌≡◌, ◌++◌, ℕ, List, length, IsRead, of_chars}
use Rattle.csicodec_overwrite.proofs.text.append_sure.Given as goal

-- some characters were read, and their steps appended
abbrev pub invariant-loop-char : goal.invariant-loop-char
invariant-loop-char l = record {
  parts : (front : List ℕ) × (l.bytes ≡ front ++ l.rest);
  chars : (chars : List ℕ) × IsRead l.bytes chars l.rest × (l.steps.items ≡ l.fn.steps.items ++ of_chars chars);
}

abbrev pub decreases-loop-char : goal.decreases-loop-char
decreases-loop-char l = length l.rest
