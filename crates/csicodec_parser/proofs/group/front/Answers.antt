use mir.{Syntax.w64, Val.SFits}
use Rattle.csicodec_parser.proofs.{Fronts.number_same, Common.refl, Common.rules, Common.to_z-of_z}
use Rattle.csicodec_parser.proofs.group.front.Goals as goal

pub returns-in_err-sgr-in-Styles-clause-answer : goal.returns-in_err-sgr-in-Styles-clause-answer
returns-in_err-sgr-in-Styles-clause-answer c = λ list same. rw (c.in-Styles.is, c.from_residual.ensures) (c.in_err-sgr-in-Styles.ensures.answer list same)

pub returns-in_ok-sgr-in-Styles-clause-answer : goal.returns-in_ok-sgr-in-Styles-clause-answer
returns-in_ok-sgr-in-Styles-clause-answer c = λ list same. rw c.in-Styles.is (c.in_ok-sgr-in-Styles.ensures.answer list same)

pub returns-in_ok-mode-in-DecModes-clause-answer : goal.returns-in_ok-mode-in-DecModes-clause-answer
returns-in_ok-mode-in-DecModes-clause-answer c = λ list same.
    let number = c.in_ok-number_at-in-DecModes in
    let fits : SFits w64 number.field-0 = search rules in
    let found = rw (to_z-of_z w64 number.field-0 fits) at c.in_ok-mode-in-DecModes.ensures in
    rw (c.in-DecModes.is, c.of-in-DecModes.ensures, number_same list c.args.rest.now same, ← number.ensures.is, ← found) refl
