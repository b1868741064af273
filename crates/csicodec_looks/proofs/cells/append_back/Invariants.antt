use Rattle.csicodec_looks.proofs.Common.{◌≡◌, ◌≤◌, ◌+◌, ◌++◌, length, reverse, vec_capacity, vec_len}
use Rattle.csicodec_looks.proofs.cells.append_back.Given as goal

-- some have come, and there is room for the others
abbrev pub invariant-loop-cell : goal.invariant-loop-cell
invariant-loop-cell l = record {
  come : l.cells.items ++ reverse l.rest ≡ l.fn.cells.items ++ reverse l.near;
  room : vec_len l.cells + length l.rest ≤ vec_capacity l.cells;
}

abbrev pub decreases-loop-cell : goal.decreases-loop-cell
decreases-loop-cell l = length l.rest
