use Rattle.std.proofs.Common.{◌+◌, ◌-◌, ◌≤◌, ◌++◌, ◌∙◌, List, ℕ, length, take, refl, ap, arith}
use Rattle.csicodec_clean.proofs.Coded.{color_left, color_noted, color_place, color_taken}
use Rattle.csicodec_clean.proofs.notes.SequenceNotes.take_color.Goals as goal

pub take_note-requires-clause-note : goal.take_note-requires-clause-note
take_note-requires-clause-note c =
    let bytes = c.args.bytes.now in
    let rest = c.in-Some.rest.now in
    let len = length bytes - length rest in
    let colored = c.in-Some.ensures.spelled in
    let (list, reads, are) = c.in-Some.ensures.read in
    let short : len ≤ 19 = omega (arith, c.in-Some.ensures.short.0, c.in-Some.ensures.short.1) in
    let (is, noted, few) = color_noted bytes rest (take len bytes) c.in-Some-color_text.text c.split_at.result.0.now c.in-Some.style len colored (color_taken len bytes rest c.in-Some.style list colored reads are refl)
    (c.in-Some-color_text.ensures c.in-Some.style rest colored) short (c.split_at.ensures.front ∙ ap (take (len + 3)) c.color_note-wide.ensures) in
    color_place bytes rest c.in-Some.style colored few c.split_at.result.0.now is

pub keep-requires-clause-noted : goal.keep-requires-clause-noted
keep-requires-clause-noted c =
    let bytes = c.args.bytes.now in
    let rest = c.in-Some.rest.now in
    let len = length bytes - length rest in
    let colored = c.in-Some.ensures.spelled in
    let (list, reads, are) = c.in-Some.ensures.read in
    let short : len ≤ 19 = omega (arith, c.in-Some.ensures.short.0, c.in-Some.ensures.short.1) in
    let (is, noted, few) = color_noted bytes rest (take len bytes) c.in-Some-color_text.text c.split_at.result.0.now c.in-Some.style len colored (color_taken len bytes rest c.in-Some.style list colored reads are refl)
    (c.in-Some-color_text.ensures c.in-Some.style rest colored) short (c.split_at.ensures.front ∙ ap (take (len + 3)) c.color_note-wide.ensures) in
    noted

pub returns-clause-left : goal.returns-clause-left
returns-clause-left c = λ some.
    let bytes = c.args.bytes.now in
    let rest = c.in-Some.rest.now in
    let len = length bytes - length rest in
    let old = c.args.out.now.items in
    let colored = c.in-Some.ensures.spelled in
    let (list, reads, are) = c.in-Some.ensures.read in
    let short : len ≤ 19 = omega (arith, c.in-Some.ensures.short.0, c.in-Some.ensures.short.1) in
    let taken = color_taken len bytes rest c.in-Some.style list colored reads are refl in
    let text = c.in-Some-color_text.ensures c.in-Some.style rest colored in
    let (is, noted, few) = color_noted bytes rest (take len bytes) c.in-Some-color_text.text c.split_at.result.0.now c.in-Some.style len colored taken text short (c.split_at.ensures.front ∙ ap (take (len + 3)) c.color_note-wide.ensures) in
    color_left c.args.passing bytes rest (take len bytes) c.split_at.result.0.now old c.append_front.new.out.items c.in-Some.style c.args.rendition.now c.take_note.new.self c.in-Full.is colored taken
    (c.in_ok-append_front.ensures ∙ ap (λ (l : List ℕ). old ++ l) text) is few c.take_note.ensures
