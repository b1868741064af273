use Rattle.std.proofs.Common.{◌≡◌, map, drop}
use Rattle.csicodec_html.proofs.Common.{action_of, behind_all}
use Rattle.csicodec_html.proofs.rule.behind_each.Given as goal

-- behind the other actions it looks as behind all
abbrev pub invariant-loop-action : goal.invariant-loop-action
invariant-loop-action l = behind_all l.now (map action_of (drop l.action-index l.actions)) ≡ behind_all l.fn.looks (map action_of l.actions)
