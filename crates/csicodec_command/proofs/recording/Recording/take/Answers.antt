use Rattle.csicodec_command.proofs.{Common.Some, Common.ap, Common.refl, Common.sym, Common.◌∙◌, Left.no_text, Left.text_says}
use Rattle.csicodec_command.proofs.recording.Recording.take.Goals as goal

pub returns-in_default-clause-refused : goal.returns-in_default-clause-refused
returns-in_default-clause-refused c = λ other. no_text c.args.line.now _ _ refl c.in_default.ensures.cases.0

pub returns-clause-ok : goal.returns-clause-ok
returns-clause-ok c =
    text_says c.args.self.now.version c.args.line.now c.in-Ok.text.now _ c.in-Ok.ensures.cases.1 c.in-Ok.ensures.cases.0 c.in_ok-event.ensures.ok
    ∙ ap Some (sym c.data_of.ensures)
