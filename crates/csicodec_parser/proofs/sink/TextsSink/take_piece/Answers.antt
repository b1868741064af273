use Rattle.csicodec_parser.proofs.{Fronts.front_piece, Fronts.front_stuck, Cuts.texts_last, Common.◌++◌, Common.◌∙◌, Common.ap, Common.refl, Common.sym}
use Rattle.csicodec_parser.proofs.{Common.Sgr, Common.text, Common.action_of, Common.found, Common.styled}
use Rattle.csicodec_parser.proofs.sink.TextsSink.take_piece.Goals as goal

pub returns-in_default-style_front-clause-none : goal.returns-in_default-style_front-clause-none
returns-in_default-style_front-clause-none c =
    λ _. (front_stuck c.args.group c.args.rest.now (rw c.in-Styles.is (sym (c.style_front.ensures.answer c.args.rest.now refl) ∙ ap styled c.in_default-style_front.is)), refl)

pub returns-in_default-front-clause-none : goal.returns-in_default-front-clause-none
returns-in_default-front-clause-none c = λ _. (front_stuck c.args.group c.args.rest.now (sym (c.front.ensures.answer c.args.rest.now refl) ∙ ap found c.in_default-front.is), refl)

pub returns-in-Styles-clause-some : goal.returns-in-Styles-clause-some
returns-in-Styles-clause-some c =
    let sgr = Sgr c.in-Some.sgr in (
      sgr,
      front_piece c.args.group c.args.rest.now _ _ (rw c.in-Styles.is (sym (c.in-Some.ensures.answer c.args.rest.now refl))),
      λ before held. c.in_ok-append_style.ensures ∙ ap (λ l. l ++ text sgr) held ∙ sym (texts_last before sgr),
    )

pub returns-clause-some : goal.returns-clause-some
returns-clause-some c = (action_of c.in-Some-front.action, front_piece c.args.group c.args.rest.now _ _ (sym (c.in-Some-front.ensures.answer c.args.rest.now refl)), c.in_ok-take.ensures)
