use Rattle.csicodec_actions.proofs.Common.{◌↔◌, length, AllGood, Attribute, listed}
use Rattle.csicodec_actions.proofs.device.are_attributes.Given as goal

-- what decides is left
abbrev pub invariant-loop-rest : goal.invariant-loop-rest
invariant-loop-rest l = AllGood (listed Attribute l.rest) ↔ AllGood (listed Attribute l.attributes)

abbrev pub decreases-loop-rest : goal.decreases-loop-rest
decreases-loop-rest l = length l.rest
