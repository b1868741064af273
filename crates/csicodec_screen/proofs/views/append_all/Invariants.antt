use Rattle.std.proofs.Common.{◌≡◌, ◌++◌, flat_map, length}
use Rattle.csicodec_screen.specs.Views.{cell_cells}
use Rattle.csicodec_screen.proofs.views.append_all.Given as goal

abbrev pub invariant-loop-cell : goal.invariant-loop-cell
invariant-loop-cell l = l.out.items ++ flat_map cell_cells l.rest ≡ l.initial.out.items ++ flat_map cell_cells l.cells

abbrev pub decreases-loop-cell : goal.decreases-loop-cell
decreases-loop-cell l = length l.rest
