use Rattle.std.proofs.Common.{◌≡◌, take}
use Rattle.csicodec_c.proofs.key.numbers_of.Given as goal

-- the numbers of the characters up to here
abbrev pub invariant-loop-character : goal.invariant-loop-character
invariant-loop-character l = l.numbers.items ≡ take l.character-index l.text
