use Rattle.csicodec_looks.proofs.Common.{◌≡◌, ◌++◌, encode_utf8_all, length, flat_map, chars_of}
use Rattle.csicodec_looks.proofs.paint.append_plain.Given as goal

-- the characters of some are appended
abbrev pub invariant-loop-cell : goal.invariant-loop-cell
invariant-loop-cell l = record {
  text : l.out.items ++ encode_utf8_all (flat_map chars_of l.rest) ≡ l.initial.out.items ++ encode_utf8_all (flat_map chars_of l.cells);
}

abbrev pub decreases-loop-cell : goal.decreases-loop-cell
decreases-loop-cell l = length l.rest
