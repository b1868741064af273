use Rattle.std.proofs.Common.{◌≡◌, ◌++◌, flat_map, length}
use Rattle.csicodec_screen.specs.Views.{mark_cells}
use Rattle.csicodec_screen.proofs.views.append_marks.Given as goal

abbrev pub invariant-loop-mark : goal.invariant-loop-mark
invariant-loop-mark l = l.out.items ++ flat_map mark_cells l.rest ≡ l.initial.out.items ++ flat_map mark_cells l.marks

abbrev pub decreases-loop-mark : goal.decreases-loop-mark
decreases-loop-mark l = length l.rest
