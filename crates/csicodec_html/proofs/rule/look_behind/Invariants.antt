use Rattle.std.proofs.Common.{◌≡◌, map, drop}
use Rattle.csicodec_html.proofs.Common.{action_of}
use Rattle.csicodec_html.specs.Rule.{set_all}
use Rattle.csicodec_html.proofs.rule.look_behind.Given as goal

-- behind the other actions it looks as behind all
abbrev pub invariant-loop-action : goal.invariant-loop-action
invariant-loop-action l = set_all l.now (map action_of (drop l.action-index l.actions)) ≡ set_all l.fn.look (map action_of l.actions)
