use Rattle.std.proofs.Common.{◌∙◌, [], List, ℕ, Bool, Some, if◌then◌else◌, refl, sym, ap, subst, append-nil}
use Rattle.csicodec_clean.specs.Styled.{Spelled, brought_back, is_open, rendition, rendition_by, spelled, styles_by}
use Rattle.csicodec_clean.specs.{Private.Notes.Adds, declared.saving.Effect.Effect}
use Rattle.csicodec_clean.proofs.Rendered.{adds_none, spelling}
use Rattle.csicodec_clean.proofs.rendition.Rendition.take_effect.Goals as goal

pub returns-then-passing : goal.returns-then-passing
returns-then-passing c =
    let p = c.args.passing in
    let v = c.self.inside in
    let old = c.args.out.now.items in
    subst (λ (e : Effect). Adds c.args.self.now (spelling v.styled v.since c.copy.new.self) old old (λ r. styles_by p r (Some e)) (λ r. rendition_by p r (Some e))) (sym c.in-Saves.is) (
      [],
      sym (append-nil old),
      λ r begins. (
        refl,
        ap (λ (x : List (List ℕ)). spelling v.styled v.since x) c.copy.ensures ∙ ap (λ (x : Spelled). spelling x.styled x.since x.since) (c.self.view_is ∙ begins)
            ∙ ap (λ (b : Bool). spelled (if b then rendition r.styled r.since r.since else r)) (sym c.if-passing.true),
      ),
    )

pub returns-else-passing : goal.returns-else-passing
returns-else-passing c =
    let p = c.args.passing in
    let k = c.args.self.now in
    let old = c.args.out.now.items in
    subst (λ (e : Effect). Adds k k old old (λ r. styles_by p r (Some e)) (λ r. rendition_by p r (Some e))) (sym c.in-Saves.is)
    (adds_none k old _ _ (λ r. refl) (λ r. ap (λ (b : Bool). if b then rendition r.styled r.since r.since else r) c.if-passing.false))

pub returns-else-passing-2 : goal.returns-else-passing-2
returns-else-passing-2 c =
    let p = c.args.passing in
    let k = c.args.self.now in
    let old = c.args.out.now.items in
    subst (λ (e : Effect). Adds k k old old (λ r. styles_by p r (Some e)) (λ r. rendition_by p r (Some e))) (sym c.in-Restores.is)
    (adds_none k old _ _ (λ r. ap (λ (b : Bool). if b then brought_back r else []) c.if-passing-2.false)
    (λ r. ap (λ (b : Bool). if b then rendition (is_open r.styled (brought_back r)) r.saved r.saved else r) c.if-passing-2.false))
