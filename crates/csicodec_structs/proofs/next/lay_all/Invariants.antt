use Rattle.std.proofs.Common.{map, take}
use Rattle.csicodec_parser.specs.ActionOf.{action_of}
use Rattle.csicodec_structs.specs.Next.{Lays}
use Rattle.csicodec_structs.proofs.next.lay_all.Given as goal

-- the actions up to here are put
abbrev pub invariant-loop-action : goal.invariant-loop-action
invariant-loop-action l = Lays l.fn.actions l.actions l.fn.params l.params l.count (map action_of (take l.action-index l.all))
