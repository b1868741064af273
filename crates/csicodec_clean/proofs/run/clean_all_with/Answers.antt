use Rattle.std.proofs.Common.{refl}
use Rattle.csicodec_clean.proofs.{Common.IsStyledIn, Common.StylesIn, Common.first_kept, Common.keeps, Common.resets, Again.one_styled, Again.clean_front}
use Rattle.csicodec_clean.proofs.{Again.rule_ran, Styled.styled, Styled.styles}
use Rattle.csicodec_clean.proofs.run.clean_all_with.Goals as goal

pub returns : goal.returns
returns g c =
    let d = c.args.passing in
    rule_ran keeps resets (first_kept d) (StylesIn d) (IsStyledIn d) (λ bytes text. styles d _ bytes text refl) (λ after. (_, refl)) (styled d) (one_styled d)
    (clean_front d) c.clean_run.result _ _ _ _ (rw c.letting.ensures at c.clean_run.ensures.ok) (rw c.letting.ensures at c.clean_run.ensures.front)
