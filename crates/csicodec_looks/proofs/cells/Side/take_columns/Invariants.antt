use Rattle.csicodec_looks.proofs.Common.{◌≡◌, length, without}
use Rattle.csicodec_looks.proofs.cells.Side.take_columns.Given as goal

-- what is left to take of the others
abbrev pub invariant-loop-left : goal.invariant-loop-left
invariant-loop-left l = record { left : without l.left l.self ≡ without l.fn.count l.initial.self }

abbrev pub decreases-loop-left : goal.decreases-loop-left
decreases-loop-left l = length l.self
