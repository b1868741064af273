use Rattle.std.proofs.{Common.◌≡◌, Common.◌++◌, Common.◌∙◌, Common.ap, Common.sym, lemmas.Result.on_ok_weaker}
use Rattle.csicodec_spans.proofs.Told.{held_is}
use Rattle.csicodec_spans.proofs.driver.Driver.append_collected.Goals as goal

pub returns : goal.returns
returns g c =
    let now = c.self.inside.waiting in
    let own = held_is now.limit now.mode now.bytes c.end.ensures.unsure.0 c.end.ensures.unsure.1 in
    rw (← c.self.view_is) (on_ok_weaker c.end.result (λ is. is ∙ ap (λ l. c.args.out.now.items ++ l) (sym own.0)) c.end.ensures.appended)
