use Rattle.std.proofs.Common.{◌≡◌, ◌++◌, false, length}
use Rattle.csicodec_looks.proofs.Common.{names}
use Rattle.csicodec_looks.proofs.classes.append_classes.Given as goal

-- what is appended, and what the other places are appended as, is what all of them are
abbrev pub invariant-loop-slot : goal.invariant-loop-slot
invariant-loop-slot l = l.out.items ++ names l.came l.rest ≡ l.initial.out.items ++ names false l.slots

abbrev pub decreases-loop-slot : goal.decreases-loop-slot
decreases-loop-slot l = length l.rest
