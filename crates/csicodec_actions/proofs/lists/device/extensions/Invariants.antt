use Rattle.csicodec_actions.proofs.Common.{◌≡◌, take, listed_attributes}
use Rattle.csicodec_actions.proofs.lists.device.extensions.Given as goal

abbrev pub invariant-loop-token : goal.invariant-loop-token
invariant-loop-token l = l.attributes.items ≡ listed_attributes (take l.token-index l.list)
