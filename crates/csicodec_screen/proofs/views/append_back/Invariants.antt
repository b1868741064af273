use Rattle.std.proofs.Common.{◌≡◌, ◌≤◌, ◌++◌, length, reverse, take}
use Rattle.csicodec_screen.specs.Views.{rows_text}
use Rattle.csicodec_screen.proofs.views.append_back.Given as goal

abbrev pub invariant-loop-at : goal.invariant-loop-at
invariant-loop-at l = (l.at ≤ length l.back.items) × (l.out.items ++ rows_text l.marking (reverse (take l.at l.back.items)) ≡ l.initial.out.items ++ rows_text l.marking (reverse l.back.items))

abbrev pub decreases-loop-at : goal.decreases-loop-at
decreases-loop-at l = l.at
