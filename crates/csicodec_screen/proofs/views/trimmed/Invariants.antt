use Rattle.std.proofs.Common.{◌≡◌, length}
use Rattle.csicodec_screen.specs.Views.{is_blank, trimmed}
use Rattle.csicodec_screen.proofs.views.trimmed.Given as goal

abbrev pub invariant-loop-last : goal.invariant-loop-last
invariant-loop-last l = trimmed is_blank l.rest ≡ trimmed is_blank l.cells

abbrev pub decreases-loop-last : goal.decreases-loop-last
decreases-loop-last l = length l.rest
