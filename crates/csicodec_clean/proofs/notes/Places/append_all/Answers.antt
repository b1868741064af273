use Rattle.std.proofs.Common.{◌+◌, ◌≡◌, ◌∙◌, ◌++◌, ◌∷◌, [], List, ℕ, ap, sym, subst, map, length, length-append, append_assoc, arith}
use Rattle.csicodec_base.specs.declared.sgr.Sgr.{Sgr}
use Rattle.csicodec_actions.specs.Actions.{Action}
use Rattle.csicodec_parser.specs.ActionOf.{action_of}
use Rattle.csicodec_clean.specs.{Saving.effect_of, Styled.style_texts, Private.Notes.HasPlaces, Private.Notes.kept, Private.Notes.stays}
use Rattle.csicodec_clean.proofs.Rendered.{kept_on, style_texts_on}
use Rattle.csicodec_clean.proofs.notes.Places.append_all.Goals as goal

pub loop-action-preserved : goal.loop-action-preserved
loop-action-preserved c =
    let d = c.args.depth in
    let a = action_of c.in-Some.action.now in
    let own = stays d (effect_of a) in
    let old = c.args.out.now.items in
    let (done, all, out, has) = c.loop-action.invariant.came in
    let text = style_texts (kept d done) in
    let size : length c.loop-action.out.items ≡ c.len-start.result + length text = omega (arith, c.loop-action.invariant.start, ap length out, length-append old text) in
    record {
      start = c.loop-action.invariant.start;
      came = (
        done ++ a ∷ [],
        all ∙ ap (λ (l : List Action). done ++ l) (ap (map action_of) c.in-Some.ensures.cases.0) ∙ sym (append_assoc done (a ∷ []) (map action_of c.in-Some.others.now)),
        c.in_ok-append_kept.ensures.text ∙ ap (λ (l : List ℕ). l ++ style_texts own) out ∙ append_assoc old text (style_texts own)
            ∙ ap (λ (l : List ℕ). old ++ l) (sym (style_texts_on (kept d done) own) ∙ ap style_texts (sym (kept_on d done a))),
        subst (λ (l : List Sgr). HasPlaces l c.append_kept.new.self.front c.append_kept.new.self.since.items) (sym (kept_on d done a)) (c.in_ok-append_kept.ensures.places (kept d done) size has),
      );
    }
