use Rattle.std.proofs.{Common.◌≡◌, Common.◌∙◌, Common.List, Common.ℕ, Common.Bool, Common.true, Common.false, Common.not, Common.sym, Common.ap, Common.take}
use Rattle.std.proofs.{Common.length, Common.slice_set, Math.Seq.take-length}
use Rattle.csicodec_clean.specs.Styled.{attribute, is_reset}
use Rattle.csicodec_clean.proofs.Rendered.{kept_by, one_set, spelling}
use Rattle.csicodec_clean.proofs.rendition.Rendition.set.Goals as goal

pub returns : goal.returns
returns c = λ r begins.
    let v = c.self.inside in
    let s = c.args.style.now in
    let text = c.args.text.now in
    let sets : is_reset s ≡ false = sym c.is_reset-reset.ensures ∙ c.if-reset.false in
    ap (λ (b : Bool). spelling (not b) c.set.new.self v.saved) c.if-reset.false
    ∙ ap (λ (x : List (List ℕ)). spelling true x v.saved)
    (c.set.ensures ∙ ap (λ (n : ℕ). slice_set v.since n (take (length text) text)) (c.from.ensures ∙ c.attribute.ensures)
    ∙ ap (λ (t : List ℕ). slice_set v.since (attribute s) t) (take-length text ∙ c.requires.0))
    ∙ one_set c.args.passing r s (spelling v.styled v.since v.saved) (c.self.view_is ∙ begins) (kept_by c.args.passing.restores c.if-not-passing.false) sets
