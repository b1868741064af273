use Rattle.std.proofs.Common.{◌≡◌, ◌++◌, List, length, map}
use Rattle.csicodec_actions.specs.Actions.{Action}
use Rattle.csicodec_parser.specs.ActionOf.{action_of}
use Rattle.csicodec_clean.specs.{Styled.style_texts, Private.Notes.HasPlaces, Private.Notes.kept}
use Rattle.csicodec_clean.proofs.notes.Places.append_all.Given as goal

-- some actions came, and others are to come
abbrev pub invariant-loop-action : goal.invariant-loop-action
invariant-loop-action l = record {
  start : l.start ≡ length l.initial.out.items;
  came : (done : List Action) × (map action_of l.actions ≡ done ++ map action_of l.rest)
      × (l.out.items ≡ l.initial.out.items ++ style_texts (kept l.depth done)) × HasPlaces (kept l.depth done) l.self.front l.self.since.items;
}

abbrev pub decreases-loop-action : goal.decreases-loop-action
decreases-loop-action l = length l.rest
