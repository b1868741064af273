use Rattle.std.proofs.Common.{◌≡◌, length}
use Rattle.std.specs.Prelude.{map}
use Rattle.csicodec_parser.specs.ActionOf.{action_of}
use Rattle.csicodec_screen.specs.Steps.{Csi, carry}
use Rattle.csicodec_screen.proofs.receiver.take_actions.Given as goal

abbrev pub invariant-loop-action : goal.invariant-loop-action
invariant-loop-action l = carry (map Csi (map action_of l.rest)) l.screen ≡ carry (map Csi (map action_of l.actions)) l.fn.screen

abbrev pub decreases-loop-action : goal.decreases-loop-action
decreases-loop-action l = length l.rest
