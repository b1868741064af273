use Rattle.std.proofs.Common.{◌≡◌, map, drop}
use Rattle.csicodec_html.proofs.Common.{action_of, sets_any}
use Rattle.csicodec_html.proofs.rule.sets_any.Given as goal

-- none of the actions so far is an attribute
abbrev pub invariant-loop-action : goal.invariant-loop-action
invariant-loop-action l = sets_any (map action_of (drop l.action-index l.actions)) ≡ sets_any (map action_of l.actions)
