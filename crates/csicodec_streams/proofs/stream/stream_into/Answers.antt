use Rattle.std.proofs.Common.{ℕ, List, ◌≡◌, ◌+◌, ◌-◌, ◌++◌, [], false, length, arith, ap, sym, ◌∙◌, append-nil, refl}
use Rattle.std.proofs.KnownBytes.{Consumes-nil, Consumes-trans}
use Rattle.std.specs.Io.KnownBytes.{Consumes}
use Rattle.csicodec_actions.specs.{Actions.Action, Table.texts}
use Rattle.csicodec_streams.specs.Private.Steps.{DecodesFront}
use Rattle.csicodec_streams.proofs.OneReading.{front_all, front_on, front_read, kept_behind, length_read, refused_end, refuses_at, stays_refused, whole_given}
use Rattle.csicodec_streams.proofs.stream.stream_into.Goals.{In-Ok}
use Rattle.csicodec_streams.proofs.stream.stream_into.Goals as goal

pub chunks-init : goal.chunks-init
chunks-init g c = (
  [],
  [],
  Consumes-nil (g.R.Read.remaining c.args.input.now),
  ([], append-nil c.args.read.items, record { sequences = []; join = refl; each = refl }),
  c.requires,
  omega (arith, ap length (append-nil c.args.read.items)),
  c.new-memo.ensures,
)

pub chunks-preserved-then-len-enough : goal.chunks-preserved-then-len-enough
chunks-preserved-then-len-enough g c =
    let (more, xs, consumed, front, out, len, known) = c.chunks.invariant in
    let (bytes, kept, count, now) = c.in_ok-count.ensures.grows in (
      more ++ bytes,
      xs,
      Consumes-trans _ _ _ more bytes consumed now,
      front_read c.args.read.items more c.chunks.held.items bytes c.read_some.new.kept.items xs front kept,
      out,
      length_read c.args.read.items more c.chunks.held.items bytes c.read_some.new.kept.items c.chunks.start len kept,
      known,
    )

-- all that was read by then, and what it decodes to up to what is left
told : (g : _) (c : In-Ok g) → (more : List ℕ) × (xs : List Action)
    × Consumes (g.R.Read.remaining c.args.input.now) (g.R.Read.remaining c.read_some.new.input) more
    × DecodesFront (c.args.read.items ++ more) false c.in-Ok.behind.rest.now xs × (c.texts_into.new.sink.bytes ≡ texts xs)
    × (c.chunks.start + length c.read_some.new.kept.items ≡ length (c.args.read.items ++ more))
told g c =
    let (more, xs, consumed, front, out, len, known) = c.chunks.invariant in
    let (bytes, kept, count, now) = c.in_ok-count.ensures.grows in
    let (ys, part, put) = c.in-Ok.ensures.front in
    let read = c.args.read.items in
    let held = c.read_some.new.kept.items in (
      more ++ bytes,
      xs ++ ys,
      Consumes-trans _ _ _ more bytes consumed now,
      front_on (read ++ (more ++ bytes)) held false _ xs ys (front_read read more c.chunks.held.items bytes held xs front kept) (rw c.deref.ensures.value at part),
      put xs out,
      length_read read more c.chunks.held.items bytes held c.chunks.start len kept,
    )

pub returns-in-None-clause-ok : goal.returns-in-None-clause-ok
returns-in-None-clause-ok g c = λ given whole.
    let (more, xs, consumed, all, out, longer) = told g (goal.at.returns-in-None-clause-ok g c).In-Ok in
    let rest = c.in-Ok.behind.rest.now in
    let none : rest ≡ [] = rw c.in-None.is at c.in-Ok.ensures.behind in
    whole_given given _ (c.args.read.items ++ more) xs _ (Consumes-trans _ _ _ c.args.read.items more whole consumed)
    (c.in_ok-count.ensures.end c.if-count-eq0.true) (front_all (c.args.read.items ++ more) false rest xs all none) out

pub returns-in-Some-error-clause-refused : goal.returns-in-Some-error-clause-refused
returns-in-Some-error-clause-refused g c = λ given whole.
    let (more, xs, consumed, all, out, longer) = told g (goal.at.returns-in-Some-error-clause-refused g c).In-Ok in
    let bytes = c.args.read.items ++ more in
    let rest = c.in-Ok.behind.rest.now in
    let stop = rw c.in-Some-error.is at c.in-Ok.ensures.behind in
    let place : c.in-Some.place ≡ length bytes - length rest = omega (arith, longer, c.in-Some.ensures, ap length c.deref.ensures.value, c.in-Ok.ensures.within) in
    rw (c.from.ensures, c.refusal_at.ensures, place)
    (refused_end given _ bytes _ (Consumes-trans _ _ _ c.args.read.items more whole consumed) (c.in_ok-count.ensures.end c.if-count-eq0-2.true)
    (refuses_at bytes rest false xs stop.1.0 c.in-Some-error.error all stop.0 stop.1.1))

pub returns-in-Some-2-clause-refused : goal.returns-in-Some-2-clause-refused
returns-in-Some-2-clause-refused g c = λ given whole.
    let (more, xs, consumed, all, out, longer) = told g (goal.at.returns-in-Some-2-clause-refused g c).In-Ok in
    let bytes = c.args.read.items ++ more in
    let rest = c.in-Ok.behind.rest.now in
    let stop = rw c.in-Some-2.is at c.in-Ok.ensures.behind in
    let place : c.in-Some.place ≡ length bytes - length rest = omega (arith, longer, c.in-Some.ensures, ap length c.deref.ensures.value, c.in-Ok.ensures.within) in
    c.refused.ensures.refused given bytes (Consumes-trans _ _ _ c.args.read.items more whole consumed)
    (λ after. rw (c.refusal_at-in-Some-2.ensures, place)
    (stays_refused bytes rest after false xs stop.1.0 c.in-Some-2.error all stop.0 stop.1.1 (sym c.stays.ensures ∙ c.if-stays.true)))

pub chunks-preserved : goal.chunks-preserved
chunks-preserved g c =
    let (more, xs, consumed, all, out, longer) = told g (goal.at.chunks-preserved g c).In-Ok in
    let (ys, part, put) = c.in-Ok.ensures.front in
    let held = c.read_some.new.kept.items in
    let rest = c.in-Ok.behind.rest.now in
    let mine : DecodesFront held false rest ys = rw c.deref.ensures.value at part in
    let left : c.keep_from.new.bytes.items ≡ rest = c.keep_from.ensures ∙ kept_behind _ held rest ys mine (omega (arith, c.deref.ensures.len, ap length c.deref.ensures.value)) in (
      more,
      xs,
      consumed,
      rw left all,
      out,
      omega (arith, longer, c.in-Some.ensures, c.deref.ensures.len, ap length c.deref.ensures.value, c.in-Ok.ensures.within, ap length left),
      c.texts_into.ensures.known,
    )

pub texts_into-requires-clause-texts : goal.texts_into-requires-clause-texts
texts_into-requires-clause-texts g c =
    let (more, xs, consumed, front, out, len, known) = c.chunks.invariant in
    (xs, out)
