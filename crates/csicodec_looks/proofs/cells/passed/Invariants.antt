use Rattle.csicodec_looks.proofs.Common.{◌≡◌, ◌≤◌, ◌+◌, length, reverse, passed}
use Rattle.csicodec_looks.proofs.cells.passed.Given as goal

-- some are passed
abbrev pub invariant-loop-cell : goal.invariant-loop-cell
invariant-loop-cell l = record {
  passed : passed l.marks l.count (reverse l.cells) + length l.rest ≡ length l.cells + passed l.marks l.left (reverse l.rest);
  fewer : length l.rest ≤ length l.cells;
}

abbrev pub decreases-loop-cell : goal.decreases-loop-cell
decreases-loop-cell l = length l.rest
