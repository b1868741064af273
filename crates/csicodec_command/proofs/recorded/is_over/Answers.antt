use Rattle.csicodec_command.proofs.{Common.ap, Common.sym, Common.◌∙◌, Common.is_over, Left.over_behind}
use Rattle.csicodec_command.proofs.recorded.is_over.Goals as goal

pub returns-in-Some : goal.returns-in-Some
returns-in-Some c = sym (ap is_over c.in-Some.ensures.cases.0 ∙ over_behind c.in-Some.field-0-1.now c.in-Some.last.now)
