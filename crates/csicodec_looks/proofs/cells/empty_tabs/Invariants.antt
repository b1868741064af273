use Rattle.csicodec_looks.proofs.Rows.{Shifts}
use Rattle.csicodec_looks.proofs.cells.empty_tabs.Given as goal

-- from here on they are shifted
abbrev pub invariant-loop-at : goal.invariant-loop-at
invariant-loop-at l = record { shifts : Shifts l.initial.cells.items l.at l.tab l.cells.items }

abbrev pub decreases-loop-at : goal.decreases-loop-at
decreases-loop-at l = l.at
