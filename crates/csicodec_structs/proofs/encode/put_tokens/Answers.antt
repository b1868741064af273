use Rattle.csicodec_structs.specs.Structs.{param_of, TokenInRange}
use Rattle.csicodec_structs.proofs.Tokens.{none_crosses}
use Rattle.csicodec_structs.proofs.encode.put_tokens.Goals as goal

pub returns-in_default : goal.returns-in_default
returns-in_default c = λ all held same. none_crosses param_of TokenInRange c.args.params.now c.loop-param.param-index _ c.loop-param-test.true c.in_default.ensures all held same
