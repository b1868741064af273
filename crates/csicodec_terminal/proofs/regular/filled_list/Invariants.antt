use Rattle.std.proofs.Common.{◌≡◌, ◌++◌, length}
use Rattle.csicodec_terminal.specs.Regular.{fill, filled}
use Rattle.csicodec_terminal.proofs.regular.filled_list.Given as goal

-- what is there, and the rest filled, are the list filled
abbrev pub invariant-loop-rest : goal.invariant-loop-rest
invariant-loop-rest l = l.list.items ++ fill l.left_out l.rest ≡ filled l.params

abbrev pub decreases-loop-rest : goal.decreases-loop-rest
decreases-loop-rest l = length l.rest
