use Rattle.csicodec_looks.proofs.Common.{◌≡◌, length, outside}
use Rattle.csicodec_looks.proofs.cells.Side.take_belonging.Given as goal

-- some that belong are taken
abbrev pub invariant-loop-cell : goal.invariant-loop-cell
invariant-loop-cell l = record { left : outside l.self ≡ outside l.initial.self }

abbrev pub decreases-loop-cell : goal.decreases-loop-cell
decreases-loop-cell l = length l.self
