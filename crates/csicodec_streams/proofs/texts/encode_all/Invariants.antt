use Rattle.std.proofs.Common.{◌≡◌, map, take}
use Rattle.csicodec_parser.specs.ActionOf.{action_of}
use Rattle.csicodec_actions.specs.Table.{texts}
use Rattle.csicodec_streams.proofs.texts.encode_all.Given as goal

-- the texts of the actions up to here
abbrev pub invariant-loop-action : goal.invariant-loop-action
invariant-loop-action l = l.all ≡ texts (map action_of (take l.action-index l.actions))
