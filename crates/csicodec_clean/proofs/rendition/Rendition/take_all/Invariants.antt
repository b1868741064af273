use Rattle.std.proofs.Common.{◌≡◌, ◌++◌, List, length, map}
use Rattle.csicodec_actions.specs.Actions.{Action}
use Rattle.csicodec_parser.specs.ActionOf.{action_of}
use Rattle.csicodec_clean.specs.{Private.Notes.Adds, Styled.rendition_in, Styled.styles_in}
use Rattle.csicodec_clean.proofs.rendition.Rendition.take_all.Given as goal

-- some actions came, and others are to come
abbrev pub invariant-loop-action : goal.invariant-loop-action
invariant-loop-action l = (done : List Action) × (map action_of l.actions ≡ done ++ map action_of l.rest)
    × Adds l.initial.self l.self l.initial.out.items l.out.items (λ r. styles_in l.passing r done) (λ r. rendition_in l.passing r done)

abbrev pub decreases-loop-action : goal.decreases-loop-action
decreases-loop-action l = length l.rest
