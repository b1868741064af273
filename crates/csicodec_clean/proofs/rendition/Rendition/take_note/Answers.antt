use Rattle.std.proofs.Common.{◌-◌, ◌∙◌, List, ℕ, true, false, ap, take, drop, length, refl, slice_set, get_or}
use Rattle.csicodec_clean.proofs.Rendered.{note_long, spelling, taken_one, taken_reset, taken_reset_open, wide_text}
use Rattle.csicodec_clean.proofs.rendition.Rendition.take_note.Goals as goal

pub returns-then-passing : goal.returns-then-passing
returns-then-passing c =
    let v = c.self.inside in
    let note = c.args.note.now in
    let (of, front, since, styles, split, noted) = c.requires.note in
    let (more, wide) = c.requires.wide in
    let text = ap (take (length note - 2)) c.split_at.ensures.back ∙ wide_text note c.args.wide.now more wide (note_long note of front since noted) in
    let taken = taken_one c.args.passing note (drop 2 note) (spelling v.styled v.since v.saved) c.if-passing.true c.if-code-lt-RESET.true refl in
    λ d before later all noted split r begins.
    ap (λ (x : List (List ℕ)). spelling true x v.saved)
    (c.set.ensures ∙ ap (λ (n : ℕ). slice_set v.since n (take (length note - 2) c.split_at.result.1.now)) c.from.ensures ∙ ap (λ (t : List ℕ). slice_set v.since (get_or note 1 0) t) text)
    ∙ taken d before later all noted split r (c.self.view_is ∙ begins)

pub returns-then-passing-2 : goal.returns-then-passing-2
returns-then-passing-2 c =
    let v = c.self.inside in
    let taken = taken_reset c.args.passing c.args.note.now (spelling v.styled v.since v.saved) c.if-passing-2.true c.if-code-eq-RESET.true in
    λ d before later all noted split r begins.
    ap (λ (x : List (List ℕ)). spelling false x v.saved) c.clear.ensures ∙ taken d before later all noted split r (c.self.view_is ∙ begins)

pub returns-else-passing-2 : goal.returns-else-passing-2
returns-else-passing-2 c =
    let v = c.self.inside in
    let taken = taken_reset_open c.args.passing c.args.note.now (spelling v.styled v.since v.saved) c.if-passing-2.false c.if-code-eq-RESET.true in
    λ d before later all noted split r begins. taken d before later all noted split r (c.self.view_is ∙ begins)
