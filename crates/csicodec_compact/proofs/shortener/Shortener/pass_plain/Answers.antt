use Rattle.std.proofs.Common.{◌≡◌, [], take-append-drop, ◌-◌, drop, length, refl, sym, ap, take, arith}
use Rattle.csicodec_compact.proofs.{Beside.csi_writes, Beside.none_writes, Beside.note_long, Beside.own_writes, Told.color_note, Common.Does}
use Rattle.csicodec_compact.proofs.shortener.Shortener.pass_plain.Goals as goal

pub returns-in_default-clause-none : goal.returns-in_default-clause-none
returns-in_default-clause-none c = λ none. none_writes c.args.self.now c.args.out.now

pub returns-then-len-limit-clause-none : goal.returns-then-len-limit-clause-none
returns-then-len-limit-clause-none c = λ none. none_writes c.args.self.now c.args.out.now

pub take-requires-clause-long : goal.take-requires-clause-long
take-requires-clause-long c =
    note_long _ _ (color_note c.args.bytes.now c.in-Some.rest.now c.open_note-wide.result c.in-Some.field-0-0 c.numbers.result _ c.numbers.ensures
    c.in-Some.ensures.spelled refl c.open_note-wide.ensures)

pub take-requires-clause-wide : goal.take-requires-clause-wide
take-requires-clause-wide c =
    let len = length c.args.bytes.now - length c.in-Some.rest.now in
    record { more = drop len c.open_note-wide.result; whole = sym (take-append-drop len c.open_note-wide.result) }

pub keep-requires-clause-noted : goal.keep-requires-clause-noted
keep-requires-clause-noted c =
    color_note c.args.bytes.now c.in-Some.rest.now c.open_note-wide.result c.in-Some.field-0-0 c.numbers.result _ c.numbers.ensures c.in-Some.ensures.spelled refl
    c.open_note-wide.ensures

pub returns-clause-known : goal.returns-clause-known
returns-clause-known c = λ some.
    let bytes = c.args.bytes.now in
    let len = length bytes - length c.in-Some.rest.now in
    let note = color_note bytes c.in-Some.rest.now c.open_note-wide.result c.in-Some.field-0-0 c.numbers.result len c.numbers.ensures c.in-Some.ensures.spelled
    refl c.open_note-wide.ensures in
    (note.4, csi_writes c.args.self.now (record c.args.self.now { written = c.take.new.self }) (take len bytes) c.args.out.now c.take.new.out (c.in_ok-take.ensures (take len bytes) note))

pub returns-clause-none : goal.returns-clause-none
returns-clause-none c = λ none.
    let bytes = c.args.bytes.now in
    let len = length bytes - length c.in-Some.rest.now in
    let note = color_note bytes c.in-Some.rest.now c.open_note-wide.result c.in-Some.field-0-0 c.numbers.result len c.numbers.ensures c.in-Some.ensures.spelled
    refl c.open_note-wide.ensures in
    let (list, final, seq) = note.4 in
    let empty : take len bytes ≡ [] = ap (λ n. take n bytes) none in
    absurd (omega (arith, ap length empty, ap length seq.whole))

pub returns-then-moved-limit-clause-known : goal.returns-then-moved-limit-clause-known
returns-then-moved-limit-clause-known c = λ some.
    let own = c.position_len-moved.ensures in
    let (list, final, moved, seq, acts, is) = own.own (omega arith) in
    let front = take c.position_len-moved.result c.args.bytes.now in (
      (list, final, seq),
      own_writes c.args.self.now (record c.args.self.now { written = c.pass.new.self }) front c.args.out.now c.pass.new.out (list, final, seq)
          c.pass.ensures.form c.in_ok-pass.ensures.text,
    )
