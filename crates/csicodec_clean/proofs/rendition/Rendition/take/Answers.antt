use Rattle.std.proofs.Common.{Option, refl, sym, subst}
use Rattle.csicodec_clean.specs.{Styled.rendition_by, Styled.styles_by, Private.Notes.Adds, declared.saving.Effect.Effect}
use Rattle.csicodec_clean.proofs.Rendered.{adds_none, behind_none}
use Rattle.csicodec_clean.proofs.rendition.Rendition.take.Goals as goal

pub returns-in_default : goal.returns-in_default
returns-in_default c =
    let p = c.args.passing in
    let k = c.args.self.now in
    let old = c.args.out.now.items in
    subst (λ (e : Option Effect). Adds k k old old (λ r. styles_by p r e) (λ r. rendition_by p r e)) (sym c.in_default.is) (adds_none k old _ _ (λ r. refl) (λ r. sym (behind_none p r)))
