use Rattle.csicodec_looks.proofs.Common.{◌≡◌, ◌≤◌, ◌-◌, ◌++◌, length, replicate, Empty}
use Rattle.csicodec_looks.proofs.paint.behind_empty.Given as goal

-- those up to here are empty
abbrev pub invariant-loop-cell : goal.invariant-loop-cell
invariant-loop-cell l = record {
  split : l.cells ≡ replicate (length l.cells - length l.rest) Empty ++ l.rest;
  fewer : length l.rest ≤ length l.cells;
}

abbrev pub decreases-loop-cell : goal.decreases-loop-cell
decreases-loop-cell l = length l.rest
