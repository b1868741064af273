use Rattle.csicodec_looks.proofs.Common.{◌≡◌, ◌≤◌, ◌++◌, length, paint}
use Rattle.csicodec_looks.proofs.paint.append_same_look.Given as goal

-- some that look so are painted
abbrev pub invariant-loop-cell : goal.invariant-loop-cell
invariant-loop-cell l = record {
  text : l.out.items ++ paint l.marking l.look l.rest ≡ l.fn.out.items ++ paint l.marking l.look l.cells;
  fewer : length l.rest ≤ length l.cells;
}

abbrev pub decreases-loop-cell : goal.decreases-loop-cell
decreases-loop-cell l = length l.rest
