use Rattle.std.proofs.Common.{◌≡◌, ◌++◌, take}
use Rattle.csicodec_tokens.specs.Param.{spells}
use Rattle.csicodec_keys.proofs.writing.append_tokens.Given as goal

-- the texts of the tokens up to here are appended
abbrev pub invariant-loop-token : goal.invariant-loop-token
invariant-loop-token l = l.out.items ≡ l.fn.out.items ++ spells (take l.token-index l.tokens)
