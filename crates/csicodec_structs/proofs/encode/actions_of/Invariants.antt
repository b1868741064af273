use Rattle.std.proofs.Common.{◌≡◌, map, take}
use Rattle.csicodec_parser.specs.ActionOf.{action_of}
use Rattle.csicodec_structs.specs.Encode.{AllStand}
use Rattle.csicodec_structs.proofs.encode.actions_of.Given as goal

-- the actions up to here
abbrev pub invariant-loop-given : goal.invariant-loop-given
invariant-loop-given l = AllStand (take l.given-index l.structs) l.params (map action_of l.actions.items) × (l.at ≡ l.given-index)
