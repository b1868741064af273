use Rattle.csicodec_actions.proofs.Common.{◌≡◌, take, integers}
use Rattle.csicodec_actions.proofs.fields.integers_in.Given as goal

abbrev pub invariant-loop-token : goal.invariant-loop-token
invariant-loop-token l = l.values.items ≡ integers (take l.token-index l.tokens)
