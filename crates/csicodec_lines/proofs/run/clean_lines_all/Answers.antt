use Rattle.std.proofs.Common.{refl}
use Rattle.csicodec_clean.specs.Styled.{IsStyledIn, first_kept, keeps, resets}
use Rattle.csicodec_clean.proofs.{Again.one_styled, Again.clean_front, Styled.styles}
use Rattle.csicodec_lines.proofs.{Fronts.lines_ran, Taken.passes_none, Texts.styled_lines, Common.StylesIn, Common.begun}
use Rattle.csicodec_lines.proofs.run.clean_lines_all.Goals as goal

pub transform_all-requires-clause-begun : goal.transform_all-requires-clause-begun
transform_all-requires-clause-begun g c = rw c.cleaned.ensures (passes_none first_kept keeps resets c.args.passing)

pub returns : goal.returns
returns g c =
    let d = c.args.passing in
    lines_ran first_kept keeps resets (begun first_kept d) refl (StylesIn d) (λ line text. styles d _ line text refl) (one_styled d)
    (clean_front d) (λ after. (_, refl)) (IsStyledIn d) (styled_lines d)
    c.transform_all.result _ _ _ _ (rw c.cleaned.ensures at c.transform_all.ensures.ok) (rw c.cleaned.ensures at c.transform_all.ensures.front)
