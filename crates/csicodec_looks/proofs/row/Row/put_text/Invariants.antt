use Rattle.csicodec_looks.proofs.Common.{length, AllByRecursion, IsLineByte, StillDoes, of_chars}
use Rattle.csicodec_looks.proofs.row.Row.put_text.Given as goal

-- the characters up to here are put
abbrev pub invariant-loop-byte : goal.invariant-loop-byte
invariant-loop-byte l = record {
  plain : AllByRecursion IsLineByte l.rest;
  still : StillDoes l.marking (of_chars l.text) (of_chars l.rest) l.fn.pen l.pen l.fn.self l.self l.fn.out.items l.out.items;
}

abbrev pub decreases-loop-byte : goal.decreases-loop-byte
decreases-loop-byte l = length l.rest
