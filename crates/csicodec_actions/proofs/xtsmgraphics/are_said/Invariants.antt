use Rattle.csicodec_actions.proofs.Common.{◌↔◌, length, AllGood, any_number, listed}
use Rattle.csicodec_actions.proofs.xtsmgraphics.are_said.Given as goal

-- what decides is left
abbrev pub invariant-loop-rest : goal.invariant-loop-rest
invariant-loop-rest l = AllGood (listed any_number l.rest) ↔ AllGood (listed any_number l.numbers)

abbrev pub decreases-loop-rest : goal.decreases-loop-rest
decreases-loop-rest l = length l.rest
