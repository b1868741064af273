use Rattle.csicodec_structs.proofs.Tokens.{none_crosses}
use Rattle.csicodec_structs.proofs.token.tokens.Goals as goal

pub returns-in_default : goal.returns-in_default
returns-in_default g c all held same = none_crosses g.T.Token.crosses g.T.Token.in_range c.args.params.now c.loop-param.param-index _ c.loop-param-test.true c.in_default.ensures all held same
