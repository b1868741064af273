use Rattle.std.proofs.Common.{map, take}
use Rattle.csicodec_structs.specs.Private.Steps.{PutsBehind}
use Rattle.csicodec_structs.proofs.token.put_all.Given as goal

-- the tokens up to here are put
abbrev pub invariant-loop-token : goal.invariant-loop-token
invariant-loop-token g l = PutsBehind l.fn.room l.room l.place (map g.T.Token.crosses (take l.token-index l.tokens)) l.end
