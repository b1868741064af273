use Rattle.std.proofs.Common.{◌≡◌, map, take}
use Rattle.std.specs.List.{All}
use Rattle.csicodec_structs.proofs.token.tokens.Given as goal

-- the tokens up to here, by their names
abbrev pub invariant-loop-param : goal.invariant-loop-param
invariant-loop-param g l = All g.T.Token.in_range l.all.items × (map g.T.Token.crosses l.all.items ≡ take l.param-index l.params) × All g.T.Token.named l.all.items
