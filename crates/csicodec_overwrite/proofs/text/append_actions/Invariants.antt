use Rattle.csicodec_overwrite.proofs.Common.{◌≡◌, ◌++◌, map, take, of_actions}
use Rattle.csicodec_parser.specs.ActionOf.{action_of}
use Rattle.csicodec_overwrite.proofs.text.append_actions.Given as goal

-- the steps of the actions up to here
abbrev pub invariant-loop-action : goal.invariant-loop-action
invariant-loop-action l = record { steps : l.steps.items ≡ l.initial.steps.items ++ of_actions (map action_of (take l.action-index l.actions)) }
