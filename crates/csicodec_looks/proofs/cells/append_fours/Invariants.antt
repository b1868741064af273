use Rattle.csicodec_looks.proofs.Common.{◌≡◌, ◌≤◌, ◌+◌, ◌++◌, length, reverse, vec_capacity, vec_len}
use Rattle.csicodec_looks.proofs.cells.append_fours.Given as goal

-- some have come, and there is room for the others
abbrev pub invariant-loop-front : goal.invariant-loop-front
invariant-loop-front l = record {
  come : l.cells.items ++ reverse l.rest ≡ l.initial.cells.items ++ reverse l.near;
  room : vec_len l.cells + length l.rest ≤ vec_capacity l.cells;
}

abbrev pub decreases-loop-front : goal.decreases-loop-front
decreases-loop-front l = length l.rest
