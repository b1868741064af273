use Rattle.std.proofs.Common.{◌≡◌, length, map}
use Rattle.csicodec_parser.specs.ActionOf.{action_of}
use Rattle.csicodec_terminal.specs.Terminal.{has_unknown}
use Rattle.csicodec_terminal.proofs.terminal.has_unknown.Given as goal

-- no action up to here is unknown
abbrev pub invariant-loop-rest : goal.invariant-loop-rest
invariant-loop-rest l = has_unknown (map action_of l.rest) ≡ has_unknown (map action_of l.actions)

abbrev pub decreases-loop-rest : goal.decreases-loop-rest
decreases-loop-rest l = length l.rest
