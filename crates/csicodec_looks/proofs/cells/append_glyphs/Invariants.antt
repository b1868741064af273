use Rattle.csicodec_looks.proofs.Common.{◌≡◌, ◌≤◌, ◌+◌, ◌-◌, ◌++◌, length, take, vec_capacity, vec_len, glyphs}
use Rattle.csicodec_looks.proofs.cells.append_glyphs.Given as goal

-- some have come, and there is room for the others
abbrev pub invariant-loop-byte : goal.invariant-loop-byte
invariant-loop-byte l = record {
  come : l.cells.items ≡ l.initial.cells.items ++ glyphs l.look (take l.byte-index l.run);
  room : vec_len l.cells + (length l.run - l.byte-index) ≤ vec_capacity l.cells;
}
