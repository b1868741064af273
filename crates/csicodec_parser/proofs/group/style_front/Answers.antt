use Rattle.csicodec_parser.proofs.{Fronts.piece_of_front, Common.sym, Common.ap, Common.styled}
use Rattle.csicodec_parser.proofs.group.style_front.Goals as goal

pub returns-clause-answer : goal.returns-clause-answer
returns-clause-answer c = λ list same. sym (ap styled (piece_of_front list c.sgr_front.result (c.sgr_front.ensures.near list same)))
