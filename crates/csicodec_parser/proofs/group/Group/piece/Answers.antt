use Rattle.csicodec_parser.proofs.{Fronts.found_piece, Fronts.found_none, Common.refl}
use Rattle.csicodec_parser.proofs.group.Group.piece.Goals as goal

pub returns-clause-piece : goal.returns-clause-piece
returns-clause-piece c = found_piece c.args.self c.args.rest.now c.front.result (c.front.ensures.answer c.args.rest.now refl)

pub returns-clause-none : goal.returns-clause-none
returns-clause-none c = found_none c.args.self c.args.rest.now c.front.result (c.front.ensures.answer c.args.rest.now refl)
