use Rattle.csicodec_looks.proofs.Common.{◌≡◌, ◌++◌, length, paint, text_of}
use Rattle.csicodec_looks.proofs.paint.append_cells.Given as goal

-- some are painted
abbrev pub invariant-loop-cell : goal.invariant-loop-cell
invariant-loop-cell l = record { text : l.out.items ++ paint l.marking l.now l.rest ≡ l.initial.out.items ++ text_of l.marking l.cells }

abbrev pub decreases-loop-cell : goal.decreases-loop-cell
decreases-loop-cell l = length l.rest
