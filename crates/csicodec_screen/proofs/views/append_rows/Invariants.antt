use Rattle.std.proofs.Common.{◌≡◌, ◌++◌, length}
use Rattle.csicodec_screen.specs.Views.{rows_text}
use Rattle.csicodec_screen.proofs.views.append_rows.Given as goal

abbrev pub invariant-loop-row : goal.invariant-loop-row
invariant-loop-row l = l.out.items ++ rows_text l.marking l.rest ≡ l.initial.out.items ++ rows_text l.marking l.rows

abbrev pub decreases-loop-row : goal.decreases-loop-row
decreases-loop-row l = length l.rest
