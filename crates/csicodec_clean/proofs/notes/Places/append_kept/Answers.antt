use Rattle.std.proofs.Common.{◌≡◌, ◌∙◌, ◌++◌, List, Some, false, sym, ap, subst}
use Rattle.csicodec_base.specs.declared.sgr.Sgr.{Sgr}
use Rattle.csicodec_clean.specs.{declared.saving.Effect.Effect, Saving.effect_of, Styled.hides, Private.Notes.HasPlaces}
use Rattle.csicodec_parser.specs.ActionOf.{action_of}
use Rattle.csicodec_clean.proofs.Rendered.{stays_one}
use Rattle.csicodec_clean.proofs.notes.Places.append_kept.Goals as goal

pub returns-clause-places : goal.returns-clause-places
returns-clause-places c = λ styles size has.
    let e = effect_of (action_of c.args.action.now) in
    let shown : hides c.in-Some-Sets.style ≡ false = sym c.hides.ensures ∙ c.if-hides.false in
    let one = stays_one c.args.depth c.in-Some-Sets.style c.reduced.result e (sym c.action_effect.ensures ∙ c.in-Some-Sets.is ∙ ap (λ (x : Effect). Some x) c.in-Some-Sets.field-0-is) shown c.reduced.ensures in
    subst (λ (l : List Sgr). HasPlaces (styles ++ l) c.append.new.self.front c.append.new.self.since.items) (sym one) (c.in_ok-append.ensures.places styles size has)
