use Rattle.csicodec_looks.proofs.Common.{◌≡◌, ◌≤◌, ◌+◌, ◌-◌, ◌*◌, reverse, vec_capacity, vec_len, put_many}
use Rattle.csicodec_looks.proofs.cells.append_wide.Given as goal

-- some have come, and there is room for the others
abbrev pub invariant-loop-i : goal.invariant-loop-i
invariant-loop-i l = record {
  come : reverse l.cells.items ≡ put_many l.glyph 2 l._i (reverse l.initial.cells.items);
  room : vec_len l.cells + 2 * (l.count - l._i) ≤ vec_capacity l.cells;
}
