use Rattle.csicodec_looks.proofs.Common.{◌≡◌, length, trimmed}
use Rattle.csicodec_looks.proofs.cells.Side.trim.Given as goal

-- some that are empty are taken
abbrev pub invariant-loop-cell : goal.invariant-loop-cell
invariant-loop-cell l = record { left : trimmed l.self ≡ trimmed l.initial.self }

abbrev pub decreases-loop-cell : goal.decreases-loop-cell
decreases-loop-cell l = length l.self
