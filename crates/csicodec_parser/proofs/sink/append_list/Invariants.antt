use Rattle.csicodec_parser.proofs.Common.{◌≡◌, ◌++◌, take, spells}
use Rattle.csicodec_parser.proofs.sink.append_list.Given as goal

-- the texts of the tokens up to here are appended
abbrev pub invariant-loop-param : goal.invariant-loop-param
invariant-loop-param l = l.out ≡ l.initial.out ++ spells (take l.param-index l.params)
