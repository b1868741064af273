use Rattle.csicodec_looks.proofs.Common.{◌≡◌, ◌≤◌, ◌+◌, ◌++◌, encode_utf8_all, length, vec_capacity, vec_len, flat_map, chars_of}
use Rattle.csicodec_looks.proofs.paint.append_ascii_front.Given as goal

-- the characters of some are appended, and there is room for the others
abbrev pub invariant-loop-cell : goal.invariant-loop-cell
invariant-loop-cell l = record {
  text : l.out.items ++ encode_utf8_all (flat_map chars_of l.rest) ≡ l.fn.out.items ++ encode_utf8_all (flat_map chars_of l.cells);
  room : vec_len l.out + length l.rest ≤ vec_capacity l.out;
  fewer : length l.rest ≤ length l.cells;
}

abbrev pub decreases-loop-cell : goal.decreases-loop-cell
decreases-loop-cell l = length l.rest
