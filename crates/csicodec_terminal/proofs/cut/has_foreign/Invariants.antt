use Rattle.std.proofs.Common.{◌≡◌, drop}
use Rattle.std.specs.List.{list_any}
use Rattle.csicodec_terminal.specs.Terminal.{is_foreign}
use Rattle.csicodec_terminal.proofs.cut.has_foreign.Given as goal

-- it is so of all tokens if it is of the others
abbrev pub invariant-loop-token : goal.invariant-loop-token
invariant-loop-token l = list_any (is_foreign l.group) l.list ≡ list_any (is_foreign l.group) (drop l.token-index l.list)
