use Rattle.std.proofs.Common.{◌≡◌, ◌≤◌, length, map, take}
use Rattle.std.specs.List.{All}
use Rattle.csicodec_structs.specs.Structs.{param_of, TokenInRange}
use Rattle.csicodec_structs.proofs.encode.put_tokens.Given as goal

-- the tokens up to here
abbrev pub invariant-loop-param : goal.invariant-loop-param
invariant-loop-param l = record {
  count : l.place ≡ l.param-index;
  few : length l.params ≤ length l.room;
  are : All TokenInRange (take l.param-index l.room) × (map param_of (take l.param-index l.room) ≡ take l.param-index l.params);
}
