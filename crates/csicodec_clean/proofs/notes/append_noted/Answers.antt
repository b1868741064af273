use Rattle.std.proofs.Common.{◌∙◌, ◌++◌, List, ℕ, take, sym, ap, subst}
use Rattle.csicodec_clean.specs.Private.Notes.{IsNoted}
use Rattle.csicodec_clean.proofs.Coded.{recalled}
use Rattle.csicodec_clean.proofs.notes.append_noted.Goals as goal

pub returns-clause-left : goal.returns-clause-left
returns-clause-left c = λ yes bytes noted.
    let note = c.noted-note.result.now in
    let old = c.args.out.now.items in
    let (more, wide) = c.wide-2.ensures in
    recalled c.args.passing bytes note c.wide-2.result.now more old c.append_front.new.out.items c.text_of-start.result.0 c.text_of-start.result.1 c.args.rendition.now c.take_note.new.self
    (subst (IsNoted bytes) (sym c.noted-note.ensures) noted) (c.if-note-depth_byte.false ∙ c.depth_byte.ensures) c.text_of-start.ensures.within c.text_of-start.ensures.text
    (wide ∙ ap (λ (l : List ℕ). l ++ more) (sym c.noted-note.ensures))
    (c.in_ok-append_front.ensures ∙ ap (λ (l : List ℕ). old ++ take c.text_of-start.result.1 l) c.split_at.ensures.back) c.take_note.ensures
