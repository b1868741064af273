-- What a run writes of inputs that all went well.
use Rattle.csicodec_tool.proofs.Common.{Bool, true, false, inl, inr, ◌≡◌, ◌∷◌, ◌++◌, ℕ, List, [], Option, None, Some, Result, Ok, Err, refl, sym, ap, subst, ◌∙◌, append_assoc, true≢false, Appends-nil, Appends-trans, ◌⊎◌, IsErr, MatchResult, OnErr, OnOk, concat, Appends, Keeps, RunError, AreOf, Failure, recorded, Heads, IsHeaded, JobSteps, Tails, Writes, begun_of, makes_none, writes_data, Work}
use Rattle.csicodec_command.specs.Runs.{At, Closes, End, Ends, HasTurn, IsTold, IsUnread, MayBeRecording, Recording, Stream, Through, ends_run, first_of}
use Rattle.csicodec_tool.specs.{Writes.Wrote as IsWritten, declared.rewrite.Job.Job, Whole.AreKnown, Whole.AreTaken, Whole.IsTaken, Whole.WholeRuns}

-- ---- a page that has begun is written as one that hasn't

begun_twice : (w : Work) → begun_of (begun_of w) ≡ begun_of w
begun_twice (Work.Html name page false begun) = refl
begun_twice (Work.Html name page true begun) = refl
begun_twice other = refl

none_ahead : (w : Work) (text : List ℕ) → Heads (begun_of w) text → text ≡ []
none_ahead (Work.Html name page false begun) text h = h
none_ahead (Work.Html name page true false) text h = h
none_ahead (Work.Html name page true true) text h = h
none_ahead other text h = h

as_begun : (w : Work) (bytes text : List ℕ) → Writes (begun_of w) bytes text → Writes w bytes text
as_begun (Work.Html name page false begun) bytes text h = h
as_begun (Work.Html name page true begun) bytes text h = h
as_begun other bytes text h = h

-- ---- one input

ok_of : {A E P : Type 0} (r : Result A E) (a : A) → r ≡ Ok a → OnOk r P → P
ok_of {A} {E} {P} r a is h = subst (λ (x : Result A E). OnOk x P) is h

-- it was written: what stands ahead, and its text
pub record Wrote (w : Work) (bytes : List ℕ) (new : Work) (old out : Option (List ℕ)) : Type 0 where
  pub head : List ℕ
  pub text : List ℕ
  pub heads : Heads w head
  pub writes : Writes w bytes text
  pub begun : new ≡ begun_of w
  pub appended : Appends old out (head ++ text)

-- no failure of a run
abbrev well : Result (Unit {0}) Failure
well = Ok tt

abbrev nobody : List ℕ
nobody = []

written : (w new : Work) (bytes : List ℕ) (old out : Option (List ℕ)) (headed : Result (Unit {0}) RunError) (ahead : Option (List ℕ))
    → IsHeaded w headed new old ahead → OnOk headed (IsWritten new well (Some bytes) ahead out)
    → OnErr headed (IsErr well × (out ≡ ahead)) → Wrote w bytes new old out
written w new bytes old out (Ok u) ahead (begun, (head, heads, appended), none) ((text, writes, more), unfailed) failed = record {
  head = head;
  text = text;
  heads = heads;
  writes = as_begun w bytes text (subst (λ (x : Work). Writes x bytes text) begun writes);
  begun = begun;
  appended = Appends-trans old ahead out head text appended more;
}
written w new bytes old out (Err e) ahead heads wrote (fails, same) = absurd (true≢false (sym fails))

-- what is asked of an input: where it may be a recording, no recording is made of it
abbrev May : Bool → List ℕ → List ℕ → Type 0
May unwraps name bytes = (unwraps ≡ true) ⊎ (¬ MayBeRecording name (Some bytes))

-- its turn ended well
record Turned (name bytes : List ℕ) (at next : At Job) : Type 0 where
  own : List ℕ
  taken : IsTaken name bytes own
  still : next.0.text ≡ at.0.text
  wrote : Wrote at.0.work own next.0.work at.1 next.1

turn_written : (holds : List ℕ → Option (List ℕ)) (name bytes : List ℕ) (unwraps : Bool) (at next : At Job) → holds name ≡ Some bytes
    → writes_data at.0 ≡ unwraps → May unwraps name bytes → HasTurn JobSteps holds name at (Ok tt) next → Turned name bytes at next
turn_written holds name bytes unwraps at next is of_data may (inl (e, same)) = cc e
turn_written holds name bytes unwraps at next is of_data may (inr r) = read r.ahead r.bytes r.begins.1 kept (ok_of r.begun tt r.begins.0 r.reads)
  where
    kept : Keeps (Some bytes) r.bytes
    kept = subst (λ (k : Option (List ℕ)). Keeps k r.bytes) is r.same

    no_recording : (ahead : At Job) → ahead ≡ at → (own : List ℕ) → MayBeRecording name (Some bytes) → May unwraps name bytes
        → (writes_data ahead.0 ≡ true → Wrote ahead.0.work own next.0.work ahead.1 next.1)
        → Wrote at.0.work own next.0.work at.1 next.1
    no_recording ahead same own is_one (inl written) wrote =
        rw (← same) (wrote (ap (λ (a : At Job). writes_data a.0) same ∙ of_data ∙ written))
    no_recording ahead same own is_one (inr never) wrote = absurd (never is_one)

    read : (ahead : At Job) (known : Option (List ℕ)) → ahead ≡ at → Keeps (Some bytes) known
        → (IsUnread (holds name) (Ok tt) × (next ≡ ahead)) ⊎ (JobSteps (Stream known) ahead (Ok tt) next
        ⊎ (MayBeRecording name (holds name) × JobSteps (Recording known) ahead (Ok tt) next)) → Turned name bytes at next
    read ahead known same keeps (inl ((f, e, why), stays)) = cc e
    read ahead None same keeps (inr step) = absurd keeps
    read ahead (Some all) same keeps (inr (inl (still, d))) = record {
      own = bytes;
      taken = inl refl;
      still = still ∙ ap (λ (a : At Job). a.0.text) same;
      wrote =
          let one = written ahead.0.work next.0.work all ahead.1 next.1 d.headed d.ahead d.heads d.wrote d.failed in
          rw (← same, ← keeps) one;
    }
    read ahead (Some all) same keeps (inr (inr (may_be, (still, begun, step)))) =
        let is_one = subst (MayBeRecording name) is may_be in record {
          own = recorded all;
          taken = inr (is_one, ap recorded keeps);
          still = still ∙ ap (λ (a : At Job). a.0.text) same;
          wrote = no_recording ahead same (recorded all) is_one may (λ written_so. let d = step written_so in
              written ahead.0.work next.0.work (recorded all) ahead.1 next.1 d.headed d.ahead d.heads d.wrote d.failed);
        }

none_twice : (w : Work) → makes_none (begun_of w) ≡ makes_none w
none_twice (Work.Html name page false begun) = refl
none_twice (Work.Html name page true begun) = refl
none_twice other = refl

-- so behind it the next is taken as it was
still_of_data : (first next : Job) → next.text ≡ first.text → next.work ≡ begun_of first.work → writes_data next ≡ writes_data first
still_of_data first next text begun = rw (text, begun, none_twice first.work) refl

-- ---- all of them

-- the first ended well, and so did the others
first_went : (holds : List ℕ → Option (List ℕ)) (names : List (List ℕ)) (next end : At Job) (result : Result (Unit {0}) Failure)
    → MatchResult result (λ _. Through JobSteps holds names next [] None end)
    (λ f. (n : ℕ) × IsTold f n × (((ends_run f ≡ true) × (nobody ≡ []) × (None ≡ Some n) × (end ≡ next))
    ⊎ ((ends_run f ≡ false) × ((others : List ℕ) × (nobody ≡ n ∷ others) × Through JobSteps holds names next others None end))))
    → (result ≡ Ok tt) × Through JobSteps holds names next [] None end
first_went holds names next end (Ok tt) rest = (refl, rest)
first_went holds names next end (Err f) (n, told, inl (ends, none, stop, same)) = cc stop
first_went holds names next end (Err f) (n, told, inr (goes, (others, none, rest))) = cc none

record Went (holds : List ℕ → Option (List ℕ)) (w : Work) (names : List (List ℕ)) (new : Work) (old out : Option (List ℕ)) : Type 0 where
  inputs : List (List ℕ)
  texts : List (List ℕ)
  taken : AreTaken holds names inputs
  each : AreOf (Writes w) inputs texts
  begun : new ≡ begun_of w
  appended : Appends old out (concat texts)

others_went : (holds : List ℕ → Option (List ℕ)) (w : Work) (unwraps : Bool) (names : List (List ℕ)) (at end : At Job) → at.0.work ≡ begun_of w
    → writes_data at.0 ≡ unwraps → AreKnown holds unwraps names → Through JobSteps holds names at [] None end
    → Went holds w names end.0.work at.1 end.1
others_went holds w unwraps [] at end begun of_data known (failed, stop, same) =
    rw same (record { inputs = []; texts = []; taken = refl; each = refl; begun = begun; appended = Appends-nil at.1 })
others_went holds w unwraps (name ∷ names) at end begun of_data (bytes, is, may, known) (result, next, turn, rest) =
    let (went, later) = first_went holds names next end result rest in
    let first = turn_written holds name bytes unwraps at next is of_data may
    (subst (λ (r : Result (Unit {0}) Failure). HasTurn JobSteps holds name at r next) went turn) in
    let one = first.wrote in
    let more = others_went holds w unwraps names next end (one.begun ∙ ap begun_of begun ∙ begun_twice w)
    (still_of_data at.0 next.0 first.still one.begun ∙ of_data) known later in
    let bare : one.head ≡ [] = none_ahead w one.head (subst (λ (x : Work). Heads x one.head) begun one.heads) in
    let own = as_begun w first.own one.text (subst (λ (x : Work). Writes x first.own one.text) begun one.writes) in
    let text : Appends at.1 next.1 one.text = subst (λ (t : List ℕ). Appends at.1 next.1 (t ++ one.text)) bare one.appended in
    record {
      inputs = first.own ∷ more.inputs;
      texts = one.text ∷ more.texts;
      taken = (bytes, first.own, more.inputs, refl, is, first.taken, more.taken);
      each = (one.text, more.texts, refl, own, more.each);
      begun = more.begun;
      appended = Appends-trans at.1 next.1 end.1 one.text (concat more.texts) text more.appended;
    }

closed_well : (first : Option ℕ) (last end : At Job) → Closes JobSteps first last (Ok tt) end → (first ≡ None) × JobSteps End last (Ok tt) end
closed_well None last end (Ok u, step, e) = (refl, step)
closed_well (Some n) last end (Ok u, step, e) = cc e
closed_well first last end (Err f, step, (n, told, e)) = cc e

-- a run that ended well
ended_well : (name : List ℕ) (names : List (List ℕ)) (failed : List ℕ) (stop : Option ℕ) (last end : At Job)
    → Ends JobSteps (name ∷ names) (first_of failed) stop last (Ok tt) end → (failed ≡ []) × (stop ≡ None) × JobSteps End last (Ok tt) end
ended_well name [] failed (Some n) last end (e, same) = cc e
ended_well name (next ∷ names) failed (Some n) last end (e, same) = cc e
ended_well name [] [] None last end closes = (refl, refl, (closed_well None last end closes).1)
ended_well name [] (n ∷ failed) None last end (e, same) = cc e
ended_well name (next ∷ names) [] None last end closes = (refl, refl, (closed_well None last end closes).1)
ended_well name (next ∷ names) (n ∷ failed) None last end closes = cc (closed_well (Some n) last end closes).0

pub whole : WholeRuns
whole holds name names start end (bytes, is, may, known) run =
    let (none, well, closed) = ended_well name names run.failed run.stop run.last end run.ends in
    let through : Through JobSteps holds (name ∷ names) start [] None run.last =
    subst (λ (s : Option ℕ). Through JobSteps holds (name ∷ names) start [] s run.last) well
    (subst (λ (f : List ℕ). Through JobSteps holds (name ∷ names) start f run.stop run.last) none run.through) in
    let (result, next, turn, rest) = through in
    let (went, later) = first_went holds names next run.last result rest in
    let w = start.0.work in
    let first = turn_written holds name bytes (writes_data start.0) start next is refl may
    (subst (λ (r : Result (Unit {0}) Failure). HasTurn JobSteps holds name start r next) went turn) in
    let one = first.wrote in
    let more = others_went holds w (writes_data start.0) names next run.last one.begun
    (still_of_data start.0 next.0 first.still one.begun) known later in
    let (tail, tails, behind) = closed.1 in (
      first.own ∷ more.inputs,
      (bytes, first.own, more.inputs, refl, is, first.taken, more.taken),
      (
        one.head ++ (concat (one.text ∷ more.texts) ++ tail),
        record {
          head = one.head;
          texts = one.text ∷ more.texts;
          tail = tail;
          heads = one.heads;
          each = (one.text, more.texts, refl, one.writes, more.each);
          tails = subst (λ (x : Work). Tails x tail) more.begun tails;
          all = refl;
        },
        subst (Appends start.1 end.1)
            (append_assoc (one.head ++ one.text) (concat more.texts) tail ∙ append_assoc one.head one.text (concat more.texts ++ tail)
            ∙ ap (λ (t : List ℕ). one.head ++ t) (sym (append_assoc one.text (concat more.texts) tail)))
            (Appends-trans start.1 run.last.1 end.1 ((one.head ++ one.text) ++ concat more.texts) tail
            (Appends-trans start.1 next.1 run.last.1 (one.head ++ one.text) (concat more.texts) one.appended more.appended) behind),
      ),
    )
