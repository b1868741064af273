use Rattle.std.proofs.Common.{◌≡◌, ◌∙◌, ◌++◌, ◌≤◌, ◌<◌, ℕ, List, true, length, map, take, drop, length-take-le, ap, sym, subst, arith}
use Rattle.std.proofs.{Math.Seq.take-append_seam, lemmas.List.length-map}
use Rattle.csicodec_parser.specs.{ActionOf.action_of, declared.actions.CSI.CSI}
use Rattle.csicodec_clean.specs.{Private.Notes.IsLeft, Private.Notes.kept, Saving.are_lasting, Styled.Spelled}
use Rattle.csicodec_terminal.specs.Terminal.{IsTakenFor}
use Rattle.csicodec_clean.proofs.{Coded.left_noted, Coded.noted_now, Coded.position_left, Rendered.kept_few, Rendered.places_fit}
use Rattle.csicodec_clean.proofs.notes.SequenceNotes.take_new.Goals as goal

pub returns-then-moved-gt3-clause-left : goal.returns-then-moved-gt3-clause-left
returns-then-moved-gt3-clause-left c = λ some.
    let bytes = c.args.bytes.now in
    let moved = c.position_len-moved.result in
    let (list, final, to, seq, are, is) = c.position_len-moved.ensures.own some in
    let long : 3 < length (take moved bytes) = omega (arith, c.if-moved-gt3.true, length-take-le moved bytes c.position_len-moved.ensures.within) in
    position_left c.args.passing (take moved bytes) c.args.rendition.now c.args.out.now.items list final to seq are is long

pub returns-in_err-append_all-clause-known : goal.returns-in_err-append_all-clause-known
returns-in_err-append_all-clause-known c = rw c.read.ensures.known c.take_color.ensures.known

pub returns-in_err-write_note-clause-known : goal.returns-in_err-write_note-clause-known
returns-in_err-write_note-clause-known c = rw c.read.ensures.known c.take_color.ensures.known

pub returns-in_err-extend_from_slice-clause-known : goal.returns-in_err-extend_from_slice-clause-known
returns-in_err-extend_from_slice-clause-known c = rw c.read.ensures.known c.take_color.ensures.known

pub write_note-requires-clause-front : goal.write_note-requires-clause-front
write_note-requires-clause-front c =
    let d = c.args.passing.depth in
    let actions = map action_of c.deref-2.result.now in
    let few : length (kept d actions) ≤ 7 =
    omega (arith, kept_few d actions, length-map c.deref-2.result.now action_of, ap length c.deref-2.ensures.value, ap length c.deref.ensures.value, (c.is_noted.ensures c.if-not-is_noted.false).0) in
    (places_fit (kept d actions) _ _ c.in_ok-append_all.ensures.places few).0

pub write_note-requires-clause-since : goal.write_note-requires-clause-since
write_note-requires-clause-since c =
    let d = c.args.passing.depth in
    let actions = map action_of c.deref-2.result.now in
    let few : length (kept d actions) ≤ 7 =
    omega (arith, kept_few d actions, length-map c.deref-2.result.now action_of, ap length c.deref-2.ensures.value, ap length c.deref.ensures.value, (c.is_noted.ensures c.if-not-is_noted.false).0) in
    (places_fit (kept d actions) _ _ c.in_ok-append_all.ensures.places few).1

-- the bytes in front of those that are written behind a note
front_is : (front whole note more : List ℕ) (n : ℕ) → front ≡ take n whole → whole ≡ note ++ more → n ≡ length note → front ≡ note
front_is front whole note more n e f g = e ∙ ap (take n) f ∙ ap (λ (k : ℕ). take k (note ++ more)) g ∙ take-append_seam note more

pub take_note-requires-clause-note : goal.take_note-requires-clause-note
take_note-requires-clause-note c =
    let d = c.args.passing.depth in
    let items = c.deref-2.result.now in
    let size : c.len-before.result ≡ length c.take_color.new.out.items = omega (arith, c.len-before.ensures) in
    let count : c.len-note_len.result ≡ length c.write_note.new.note.items = omega (arith, c.len-note_len.ensures) in
    let (front, since, split, is) =
    noted_now d (map action_of items) c.take_color.new.out.items c.append_all.new.out.items c.split_at.result.1.now c.write_note.new.note.items c.append_all.new.self.since.items c.append_all.new.self.front
    c.in_ok-append_all.ensures.text c.in_ok-append_all.ensures.places (c.split_at.ensures.back ∙ ap (drop c.len-before.result) c.deref-3.ensures.value ∙ ap (λ (n : ℕ). drop n c.append_all.new.out.items) size)
    c.in_ok-write_note.ensures in
    let note = front_is c.split_at-2.result.0.now c.deref-4.result.now c.write_note.new.note.items _ c.len-note_len.result c.split_at-2.ensures.front (c.deref-4.ensures.value ∙ c.in_ok-extend_from_slice.ensures.items) count ∙ is in
    (d, front, since, kept d (map action_of items), split, note)

pub keep-requires-clause-known : goal.keep-requires-clause-known
keep-requires-clause-known c = rw c.read.ensures.known c.take_color.ensures.known

pub keep-requires-clause-noted : goal.keep-requires-clause-noted
keep-requires-clause-noted c =
    let d = c.args.passing.depth in
    let items = c.deref-2.result.now in
    let size : c.len-before.result ≡ length c.take_color.new.out.items = omega (arith, c.len-before.ensures) in
    let count : c.len-note_len.result ≡ length c.write_note.new.note.items = omega (arith, c.len-note_len.ensures) in
    let (front, since, split, is) =
    noted_now d (map action_of items) c.take_color.new.out.items c.append_all.new.out.items c.split_at.result.1.now c.write_note.new.note.items c.append_all.new.self.since.items c.append_all.new.self.front
    c.in_ok-append_all.ensures.text c.in_ok-append_all.ensures.places (c.split_at.ensures.back ∙ ap (drop c.len-before.result) c.deref-3.ensures.value ∙ ap (λ (n : ℕ). drop n c.append_all.new.out.items) size)
    c.in_ok-write_note.ensures in
    let note = front_is c.split_at-2.result.0.now c.deref-4.result.now c.write_note.new.note.items _ c.len-note_len.result c.split_at-2.ensures.front (c.deref-4.ensures.value ∙ c.in_ok-extend_from_slice.ensures.items) count ∙ is in
    let same = c.deref-2.ensures.value in
    let taken = subst (λ (x : List CSI). IsTakenFor (take c.in_ok-len.len c.args.bytes.now) (map action_of x)) (sym same) (c.in_ok-len.ensures.read (omega (arith, c.if-len-eq0.false))) in
    let lasts = subst (λ (x : List CSI). are_lasting (map action_of x) ≡ true) (c.deref.ensures.value ∙ sym same) (c.is_noted.ensures c.if-not-is_noted.false).1 in
    (d, map action_of items, front, since, taken, lasts, split, note)

pub returns-clause-left : goal.returns-clause-left
returns-clause-left c = λ some.
    let d = c.args.passing.depth in
    let items = c.deref-2.result.now in
    let size : c.len-before.result ≡ length c.take_color.new.out.items = omega (arith, c.len-before.ensures) in
    let count : c.len-note_len.result ≡ length c.write_note.new.note.items = omega (arith, c.len-note_len.ensures) in
    let (front, since, split, is) =
    noted_now d (map action_of items) c.take_color.new.out.items c.append_all.new.out.items c.split_at.result.1.now c.write_note.new.note.items c.append_all.new.self.since.items c.append_all.new.self.front
    c.in_ok-append_all.ensures.text c.in_ok-append_all.ensures.places (c.split_at.ensures.back ∙ ap (drop c.len-before.result) c.deref-3.ensures.value ∙ ap (λ (n : ℕ). drop n c.append_all.new.out.items) size)
    c.in_ok-write_note.ensures in
    let note = front_is c.split_at-2.result.0.now c.deref-4.result.now c.write_note.new.note.items _ c.len-note_len.result c.split_at-2.ensures.front (c.deref-4.ensures.value ∙ c.in_ok-extend_from_slice.ensures.items) count ∙ is in
    let same = c.deref-2.ensures.value in
    let taken = subst (λ (x : List CSI). IsTakenFor (take c.in_ok-len.len c.args.bytes.now) (map action_of x)) (sym same) (c.in_ok-len.ensures.read (omega (arith, c.if-len-eq0.false))) in
    let lasts = subst (λ (x : List CSI). are_lasting (map action_of x) ≡ true) (c.deref.ensures.value ∙ sym same) (c.is_noted.ensures c.if-not-is_noted.false).1 in
    let p = c.args.passing in
    let own = take c.in_ok-len.len c.args.bytes.now in
    let after = c.take_note.new.self in
    let new = c.append_all.new.out.items in
    let left =
    left_noted p own c.split_at-2.result.0.now c.take_color.new.out.items new (map action_of items) front since c.take_color.new.rendition after taken lasts split note c.in_ok-append_all.ensures.text c.take_note.ensures in
    let (unchanged, still) = c.in_ok-colored.ensures.none (omega (arith, c.if-colored-gt0.false)) in
    subst (λ (k : Spelled). IsLeft p own k after c.args.out.now.items new) unchanged (subst (λ (o : List ℕ). IsLeft p own c.take_color.new.rendition after o new) still left)
