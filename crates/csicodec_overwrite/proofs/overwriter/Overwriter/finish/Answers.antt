use Rattle.csicodec_overwrite.proofs.Common.{◌≡◌, ◌++◌, ◌∙◌, ap, append_assoc, refl, do_all, most, shown_by, of_run}
use Rattle.csicodec_overwrite.proofs.overwriter.Overwriter.finish.Goals as goal

pub returns-clause-text : goal.returns-clause-text
returns-clause-text c =
    let now = c.self.inside in
    let held = of_run now.reader.held in
    let same : c.deref.result.now ≡ held = c.deref.ensures.value ∙ c.in_ok-finish.ensures ∙ ap (λ x. x ++ held) c.clear.ensures.items in
    let all = rw same at c.in_ok-take_all.ensures in
    rw (← c.self.view_is)
    (shown_by now.marking (do_all most now.pen held now.line), refl, rw (c.in_ok-take_text.ensures.text, all.text, append_assoc, all.line) refl)
