use Rattle.csicodec_parser.proofs.{Fronts.front_piece, Fronts.front_stuck, Common.◌∙◌, Common.ap, Common.refl, Common.sym, Common.action_of, Common.found}
use Rattle.csicodec_parser.proofs.sink.VecCSISink.take_piece.Goals as goal

pub returns-in_default-clause-none : goal.returns-in_default-clause-none
returns-in_default-clause-none c = λ _. (front_stuck c.args.group c.args.rest.now (sym (c.front.ensures.answer c.args.rest.now refl) ∙ ap found c.in_default.is), refl)

pub returns-clause-some : goal.returns-clause-some
returns-clause-some c = (action_of c.in-Some.action, front_piece c.args.group c.args.rest.now _ _ (sym (c.in-Some.ensures.answer c.args.rest.now refl)), c.in_ok-take.ensures)
