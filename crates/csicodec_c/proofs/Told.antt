-- The answers of the call for an event, from the event and what the structs were laid into.
use Rattle.std.proofs.Common.{◌≡◌, ◌⊎◌, ℕ, ◌-◌, List, [], length, take, drop, refl, sym, ap, subst, ◌∙◌, inl, inr, append-nil, arith}
use Rattle.std.proofs.lemmas.List.{length-take, take-append-drop}
use Rattle.csicodec_tokens.specs.{declared.param.CsiParam.CsiParam, declared.reader.ReadError.ReadError, Sequence.Seq}
use Rattle.csicodec_tokens.proofs.Reading.{one_seq}
use Rattle.csicodec_spans.specs.declared.table.Mode.{Mode}
use Rattle.csicodec_spans.proofs.OneSpan.{short, whole}
use Rattle.csicodec_events.specs.{declared.event.Events.Events, Events.BeginsCsi, Events.onward, Events.without_controls, declared.event.Event.Event}
use Rattle.csicodec_events.specs.{declared.input.Dialect.Dialect, declared.input.InputEvent.InputEvent}
use Rattle.csicodec_events.proofs.Stops.{at_once}
use Rattle.csicodec_structs.specs.{declared.next.NextSequence.NextSequence, declared.structs.Param.Param, declared.structs.Struct.Struct, Next.IsDone as IsLaid}
use Rattle.csicodec_structs.specs.{Next.IsRefused as IsUnlaid, Next.refusal, declared.status.Status.Status}
use Rattle.csicodec_c.specs.{declared.input.Evented.Evented, declared.input.Received.Received, Event.AnswersOutput, Event.HasPut, Event.answered}
use Rattle.csicodec_c.specs.{Event.without_value, Event.stream, Filter.mode_number}

-- ---- what was laid

no_done : (error : ReadError) → (refusal error).status ≡ 0 → ⊥
no_done (ReadError.NotCsi at) e = omega (arith, e)
no_done other e = omega (arith, e)

-- it was laid where the status says so
pub laid : (bytes : List ℕ) (a b : List Struct) (p q : List Param) (front : NextSequence) → (IsLaid bytes a b p q front ⊎ IsUnlaid bytes a b p q front) → front.status ≡ 0 → IsLaid bytes a b p q front
laid bytes a b p q front (inl d) ok = d
laid bytes a b p q front (inr r) ok = absurd (no_done r.error (ap (λ (f : NextSequence). f.status) (sym r.tells) ∙ ok))

-- and nothing was where it says neither this nor that memory ran out
pub unlaid : (bytes : List ℕ) (a b : List Struct) (p q : List Param) (front : NextSequence)
    → (IsLaid bytes a b p q front ⊎ IsUnlaid bytes a b p q front) → (front.status ≡ 0 → ⊥) → (front.status ≡ 5 → ⊥)
    → (b ≡ a) × (q ≡ p)
unlaid bytes a b p q front (inl d) done memory = absurd (done d.taken.ok)
unlaid bytes a b p q front (inr r) done memory =
    let other : r.error ≡ ReadError.Memory → ⊥ = λ m. memory (ap (λ (f : NextSequence). f.status) r.tells ∙ ap (λ (x : ReadError). (refusal x).status) m) in
    (r.actions_stay other, r.params_stay other)

-- ---- a sequence whose controls were left out

pub put_read : (read bytes : List ℕ) (list : List CsiParam) (final : ℕ) (a b : List Struct) (p q : List Param) (front : NextSequence)
    → read ≡ without_controls bytes → Seq (without_controls bytes) list final
    → IsLaid read a b p q front → HasPut list final a b p q front.actions front.params
put_read read bytes list final a b p q front is s d =
    let f = d.taken in
    let (text, seq, split) = f.reads in
    let here : Seq read list final = subst (λ (x : List ℕ). Seq x list final) (sym is) s in
    let same = one_seq text read f.rest [] f.list list f.final final seq here (sym split ∙ sym (append-nil read)) in
    (f.actions, rw (← same.1, ← same.2) f.are, f.lays)

-- ---- a sequence that is read at once

pub read_done : (number limit looked : ℕ) (bytes near : List ℕ) (m : Mode) (a b : List Struct) (p q : List Param) (front : NextSequence) (told : Received)
    → number ≡ mode_number m → looked ≡ 0 → BeginsCsi bytes → near ≡ take limit bytes → IsLaid near a b p q front
    → told ≡ answered Status.Done 2 0 (stream 1 Mode.Text 0) front.used
    → AnswersOutput number limit looked bytes a b p q (without_value (record told { actions = front.actions; params = front.params }))
read_done number limit looked bytes near m a b p q front told began none begins is laid e =
    let f = (subst (λ (x : List ℕ). IsLaid x a b p q front) is laid).taken in
    let s : Events = stream limit m looked in
    let n = length (take limit bytes) - length f.rest in
    let seq = whole limit bytes f.rest f.list f.final f.reads in
    let csi = at_once s bytes (take n bytes) (drop n bytes) f.list f.final none seq (sym (take-append-drop n bytes)) (short limit bytes f.rest) in
    let full : Received = record told { actions = front.actions; params = front.params } in (
      full,
      refl,
      inl (record {
        who = Dialect.Output;
        before = m;
        after = onward s Mode.Text 0;
        sent = InputEvent.Output (Event.Csi f.final);
        list = f.list;
        text = take n bytes;
        rest = drop n bytes;
        wrote = refl;
        began = began;
        sends = (Event.Csi f.final, refl, (begins, csi));
        parts = sym (take-append-drop n bytes);
        tells =
            let used : front.used ≡ length (take n bytes) = omega (arith, f.used, length-take limit bytes, length-take n bytes) in
            rw (e, used) refl;
        puts = (f.actions, f.are, f.lays);
      }),
    )

-- ---- how it ends

pub same_room : (number limit looked : ℕ) (bytes : List ℕ) (m : Mode) (a c b : List Struct) (p r q : List Param) (answer : Evented) → number ≡ mode_number m → c ≡ a → r ≡ p
    → AnswersOutput (mode_number m) limit looked bytes c b r q answer → AnswersOutput number limit looked bytes a b p q answer
same_room number limit looked bytes m a c b p r q answer began actions params h = rw (began, ← actions, ← params) h
