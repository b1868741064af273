use Rattle.std.proofs.Common.{List, ◌++◌, map, length}
use Rattle.csicodec_actions.specs.Actions.{Action}
use Rattle.csicodec_parser.specs.ActionOf.{action_of}
use Rattle.csicodec_terminal.specs.Terminal.{Steps}
use Rattle.csicodec_terminal.proofs.cut.steps.Given as goal

-- whatever steps the rest has complete the list
abbrev pub invariant-loop-rest : goal.invariant-loop-rest
invariant-loop-rest l = (others : List Action) → Steps l.group l.end.truncated l.end.control l.rest others
    → Steps l.group l.end.truncated l.end.control l.list (map action_of l.actions.items ++ others)

abbrev pub decreases-loop-rest : goal.decreases-loop-rest
decreases-loop-rest l = length l.rest
