use Rattle.std.proofs.Common.{◌≡◌, map, drop}
use Rattle.csicodec_html.proofs.Common.{action_of, are_lasting}
use Rattle.csicodec_html.proofs.rule.are_lasting.Given as goal

-- each of the actions so far lasts
abbrev pub invariant-loop-action : goal.invariant-loop-action
invariant-loop-action l = are_lasting (map action_of (drop l.action-index l.actions)) ≡ are_lasting (map action_of l.actions)
