use Rattle.std.proofs.Common.{◌++◌, ◌≤◌, ℕ, List, length, subst, ap, sym, ◌∙◌}
use Rattle.csicodec_compact.proofs.{Beside.free_by, Beside.note_of, Beside.own_long, Common.Compacts, Common.IsOwn}
use Rattle.csicodec_compact.proofs.notes.Notes.find.Goals as goal

pub write_note-requires : goal.write_note-requires
write_note-requires c = λ joined.
    let same = c.deref-2.ensures.value ∙ sym c.deref.ensures.value in
    own_long c.in_ok-form.form c.deref-2.result.now (subst (IsOwn c.in_ok-form.form) (sym same) c.in_ok-form.ensures.own) joined

pub returns : goal.returns
returns c =
    let same = c.deref-2.ensures.value ∙ sym c.deref.ensures.value in
    let (text, made, out) = c.in_ok-rewrite.ensures.text in
    let all = c.deref-2.ensures.value ∙ out ∙ ap (λ t. t ++ text) c.clear.ensures.items in
    note_of c.args.bytes.now c.deref-2.result.now c.write_note.new.note c.in_ok-form.form (c.args.params.now, c.args.control, c.requires) (subst (Compacts c.args.bytes.now) (sym all) made)
    (subst (IsOwn c.in_ok-form.form) (sym same) c.in_ok-form.ensures.own)
    (λ joined. free_by c.args.bytes.now c.args.params.now c.args.control c.requires (c.in_ok-form.ensures.free joined))
    (λ joined. subst (λ (l : List ℕ). length l ≤ 256) (sym same) (c.in_ok-form.ensures.few joined)) c.in_ok-write_note.ensures.whole c.in_ok-write_note.ensures.list
