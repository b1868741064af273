-- Turns one after the other, and what an input has behind its first bytes.
use Rattle.csicodec_command.proofs.Common.{Bor, true, false, if◌then◌else◌, ◌==◌, inl, inr, ◌⊎◌, ◌≡◌, ◌∷◌, ◌++◌, ℕ, List, [], Option, None, Some, Result, Ok, Err, ap, drop, length, get_or, arith, refl, sym, subst, append_assoc, append-nil, ◌≤◌, ◌+◌, ◌<◌, ◌∙◌, at_drop_more, length-map, IfSome, drop_of_length-le, Consumes-nil, Consumes-trans, Keeps-refl, map, Consumes, Keeps, prepend_known}
use Rattle.std.specs.{Fmt.option_append, Option.option_or, declared.io.buffered.BufReader.BufReader, Io.Buffered.reader_buffer, Io.Buffered.reader_capacity}
use Rattle.std.specs.{Io.Buffered.reader_inner, Io.Buffered.reader_remaining, Result.IsErrAnd}
use Rattle.csicodec_command.specs.Runs.{At, Closes, Ends, HasTurn, IsReadBy, IsRun, IsStopped, IsTold, IsUnread, MayBeRecording, Next, Recording, StepsOf, Stream, Through, ends_run, first_of}
use Rattle.csicodec_command.specs.{declared.failure.Failure.Failure, declared.packed.Packing.Packing, Packed.Begins, Packed.magic}
use Rattle.csicodec_transform.specs.declared.error.RunError.{RunError}

abbrev pub named : List (Bor (List ℕ)) → List (List ℕ)
named names = map (λ n. n.now) names

-- the first that failed, where one more does
pub first_behind : (failed : List ℕ) (n : ℕ) → first_of (failed ++ n ∷ []) ≡ option_or (first_of failed) (Some n)
first_behind [] n = refl
first_behind (m ∷ failed) n = refl

-- what was read ahead and what is left are all that was there
pub whole_kept : (before after : Option (List ℕ)) (front : List ℕ) → Consumes before after front
    → Keeps before (option_append (Some front) after)
whole_kept None after front h = tt
whole_kept (Some all) None front h = absurd h
whole_kept (Some all) (Some rest) front h = sym h

-- nothing was read yet
pub none_read : (before : Option (List ℕ)) (front : List ℕ) → front ≡ [] → Consumes before before front
none_read before front is = subst (λ (f : List ℕ). Consumes before before f) (sym is) (Consumes-nil before)

-- more was read
pub read_more : (before mid after : Option (List ℕ)) (front piece all : List ℕ) → Consumes before mid front → Consumes mid after piece
    → all ≡ front ++ piece → Consumes before after all
read_more before mid after front piece all first next is =
    subst (λ (a : List ℕ). Consumes before after a) (sym is) (Consumes-trans before mid after front piece first next)

-- what stands behind the inputs is asked for, unless the only one failed
pub closed : {S : Type 0} (Steps : StepsOf S) (names : List (List ℕ)) (first : Option ℕ) (start : At S) (result : Result (Unit {0}) ℕ)
    (end : At S) → (length names ≡ 1 → first ≡ None) → Closes Steps first start result end → Ends Steps names first None start result end
closed Steps [] first start result end well h = h
closed Steps (name ∷ []) None start result end well h = h
closed Steps (name ∷ []) (Some n) start result end well h = cc (well refl)
closed Steps (name ∷ next ∷ names) first start result end well h = h

-- but not where the only one failed
pub only_failed : {S : Type 0} (Steps : StepsOf S) (names : List (List ℕ)) (n : ℕ) (at : At S)
    → length names ≡ 1 → Ends Steps names (Some n) None at (Err n) at
only_failed Steps [] n at one = absurd (omega (arith, one))
only_failed Steps (name ∷ []) n at one = (refl, refl)
only_failed Steps (name ∷ next ∷ names) n at one = absurd (omega (arith, one))

-- an input failed where it came next
pub not_begun : {S : Type 0} (Steps : StepsOf S) (name : List ℕ) (known : Option (List ℕ)) (start ahead : At S)
    (begun result : Result (Unit {0}) Failure) (f : Failure) → Steps (Next name) start begun ahead → begun ≡ Err f → result ≡ Err f
    → IsReadBy Steps name known start result ahead
not_begun Steps name known start ahead begun result f begins is same = record {
  begun = begun;
  ahead = ahead;
  begins = begins;
  failed = rw is (same, refl);
  bytes = known;
  same = Keeps-refl known;
  reads = rw is tt;
}

-- it came next, and then its first bytes couldn't be read, or it was written
pub taken : {S : Type 0} (Steps : StepsOf S) (name : List ℕ) (known bytes : Option (List ℕ)) (start ahead end : At S)
    (begun result : Result (Unit {0}) Failure) → Steps (Next name) start begun ahead → begun ≡ Ok tt → Keeps known bytes
    → ((IsUnread known result × (end ≡ ahead)) ⊎ (Steps (Stream bytes) ahead result end ⊎ (MayBeRecording name known × Steps (Recording bytes) ahead result end)))
    → IsReadBy Steps name known start result end
taken Steps name known bytes start ahead end begun result begins is same reads = record {
  begun = begun;
  ahead = ahead;
  begins = begins;
  failed = rw is tt;
  bytes = bytes;
  same = same;
  reads = rw is reads;
}

-- what `?` hands on
pub handed_on : {A E : Type 0} (result : Result A E) (e : E) → IsErrAnd result (λ y. y ≡ e) → result ≡ Err e
handed_on (Ok x) e h = absurd h
handed_on (Err y) e h = ap Err h

-- a read of the first bytes that failed
pub unread : (before : Option (List ℕ)) (f : Failure) → (f ≡ Failure.Run RunError.Read) ⊎ (f ≡ Failure.Run RunError.Memory) → IsStopped before f
unread before f (inl read) = inl read
unread before f (inr memory) = inr (inl memory)

-- what the front begins with, all begins with
pub packed_known : (before after : Option (List ℕ)) (front : List ℕ) (packing : Packing) → Consumes before after front → Begins packing front
    → IfSome before (Begins packing)
packed_known None after front packing h begins = tt
packed_known (Some all) None front packing h begins = absurd h
packed_known (Some all) (Some rest) front packing h (behind, is) =
    (behind ++ rest, h ∙ ap (λ (l : List ℕ). l ++ rest) is ∙ append_assoc (magic packing) behind rest)

-- so an input is refused for its front
pub packed : (before after : Option (List ℕ)) (front : List ℕ) (packing : Packing) → Consumes before after front → Begins packing front
    → IsStopped before (Failure.Packed packing)
packed before after front packing h begins = inr (inr (packing, refl, packed_known before after front packing h begins))

-- the front and the rest in one
pub chained : (before after whole : Option (List ℕ)) (front piece : List ℕ) → Consumes before after front → piece ≡ front
    → whole ≡ option_append (Some piece) after → Keeps before whole
chained before after whole front piece seen same is = rw (is, same) (whole_kept before after front seen)

pub nothing_ahead : (known rest : Option (List ℕ)) → Keeps known rest → Keeps known (prepend_known [] rest)
nothing_ahead None rest h = tt
nothing_ahead (Some all) None h = h
nothing_ahead (Some all) (Some left) h = h

-- and with a buffer, of which nothing was filled
pub buffered : {X A : Type 0} (left : X → Option (List ℕ)) (lines : BufReader X A) (inner : X) (known : Option (List ℕ))
    → reader_capacity lines ≡ 8192 → reader_buffer lines ≡ [] → reader_inner lines ≡ inner → Keeps known (left inner)
    → Keeps known (reader_remaining left lines)
buffered left lines inner known room empty at h =
    subst (λ (n : ℕ). Keeps known (if n == 0 then None else prepend_known (reader_buffer lines) (left lines.inner))) (sym room)
    (subst (λ (b : List ℕ). Keeps known (prepend_known b (left lines.inner))) (sym empty)
    (nothing_ahead known (left lines.inner) (subst (λ i. Keeps known (left i)) (sym at) h)))

-- A run that was ended there.
pub run_stopped : {S : Type 0} (Steps : StepsOf S) (holds : List ℕ → Option (List ℕ)) (names : List (List ℕ)) (start at : At S)
    (result : Result (Unit {0}) ℕ) (n : ℕ) → (failed : List ℕ) × Through Steps holds names start failed (Some n) at
    → result ≡ Err n → IsRun Steps holds names start result at
run_stopped Steps holds names start at result n (failed, through) is = record {
  failed = failed;
  stop = Some n;
  last = at;
  through = through;
  ends = (is, refl);
}

-- a run whose inputs all had their turns
abbrev pub HadTurns : {S : Type 0} → StepsOf S → (List ℕ → Option (List ℕ)) → List (List ℕ) → At S → Option ℕ → At S → Type 0
HadTurns Steps holds names start first at =
    (failed : List ℕ) × (first ≡ first_of failed) × Through Steps holds names start failed None at

pub run_behind : {S : Type 0} (Steps : StepsOf S) (holds : List ℕ → Option (List ℕ)) (names : List (List ℕ)) (start at end : At S)
    (result : Result (Unit {0}) ℕ) (first which : Option ℕ) → HadTurns Steps holds names start first at
    → first ≡ which → Ends Steps names which None at result end → IsRun Steps holds names start result end
run_behind Steps holds names start at end result first which (failed, is, through) same ends = record {
  failed = failed;
  stop = None;
  last = at;
  through = through;
  ends = subst (λ (w : Option ℕ). Ends Steps names w None at result end) (sym same ∙ is) ends;
}

pub run_closed : {S : Type 0} (Steps : StepsOf S) (holds : List ℕ → Option (List ℕ)) (names : List (Bor (List ℕ))) (start at end : At S)
    (result : Result (Unit {0}) ℕ) (first which : Option ℕ) → HadTurns Steps holds (named names) start first at → first ≡ which
    → (length names ≡ 1 → which ≡ None) → Closes Steps which at result end → IsRun Steps holds (named names) start result end
run_closed Steps holds names start at end result first which had is well closes =
    run_behind Steps holds (named names) start at end result first which had is
    (closed Steps (named names) which at result end (λ one. well (sym (length-map names (λ m. m.now)) ∙ one)) closes)

pub run_only : {S : Type 0} (Steps : StepsOf S) (holds : List ℕ → Option (List ℕ)) (names : List (Bor (List ℕ))) (start at : At S)
    (first : Option ℕ) (n : ℕ) → HadTurns Steps holds (named names) start first at
    → first ≡ Some n → length names ≡ 1 → IsRun Steps holds (named names) start (Err n) at
run_only Steps holds names start at first n had is one =
    run_behind Steps holds (named names) start at at (Err n) first (Some n) had is
    (only_failed Steps (named names) n at (length-map names (λ m. m.now) ∙ one))

-- Turns up to a place: these failed so far, and what goes through the rest from here goes through all.
pub record TurnsTo {S : Type 0} (Steps : StepsOf S) (holds : List ℕ → Option (List ℕ)) (names : List (Bor (List ℕ))) (start : At S)
    (i : ℕ) (first : Option ℕ) (at : At S) : Type 0 where
  pub failed : List ℕ
  pub is : first ≡ first_of failed
  pub goes : (more : List ℕ) (stop : Option ℕ) (end : At S) → Through Steps holds (named (drop i names)) at more stop end
      → Through Steps holds (named names) start (failed ++ more) stop end

module _ {S : Type 0} {Steps : StepsOf S} {holds : List ℕ → Option (List ℕ)} {names : List (Bor (List ℕ))} {start at : At S} {i : ℕ}
    {first : Option ℕ} (t : TurnsTo Steps holds names start i first at) where
  -- the next one has its turn
  next_turn : (name : Bor (List ℕ)) → i < length names → (more : List ℕ) (stop : Option ℕ) (end : At S)
      → Through Steps holds ((get_or names i name).now ∷ named (drop (i + 1) names)) at more stop end
      → Through Steps holds (named names) start (t.failed ++ more) stop end
  next_turn name within more stop end through =
      t.goes more stop end (subst (λ (rest : List (List ℕ)). Through Steps holds rest at more stop end) (sym (at_drop_more named names i name within)) through)

  -- it went well
  pub turn_went : (name : Bor (List ℕ)) {next : At S} {then_first : Option ℕ} → i < length names → HasTurn Steps holds (get_or names i name).now at (Ok tt) next
      → then_first ≡ first → TurnsTo Steps holds names start (i + 1) then_first next
  turn_went name {next} within turn same = record {
    failed = t.failed;
    is = same ∙ t.is;
    goes = λ more stop end through. next_turn name within more stop end (Ok tt, next, turn, through);
  }

  -- it failed
  pub turn_failed : (name : Bor (List ℕ)) {next : At S} {then_first : Option ℕ} {f : Failure} {n : ℕ} → i < length names
      → HasTurn Steps holds (get_or names i name).now at (Err f) next → IsTold f n → ends_run f ≡ false → then_first ≡ option_or first (Some n)
      → TurnsTo Steps holds names start (i + 1) then_first next
  turn_failed name {next} {f = f} {n} within turn told goes_on same = record {
    failed = t.failed ++ n ∷ [];
    is = same ∙ ap (λ (o : Option ℕ). option_or o (Some n)) t.is ∙ sym (first_behind t.failed n);
    goes = λ more stop end through.
        subst (λ (all : List ℕ). Through Steps holds (named names) start all stop end) (sym (append_assoc t.failed (n ∷ []) more))
        (next_turn name within (n ∷ more) stop end (Err f, next, turn, (n, told, inr (goes_on, (more, refl, through)))));
  }

  -- that ended the run
  pub turn_stopped : (name : Bor (List ℕ)) {next : At S} {f : Failure} {n : ℕ} → i < length names → HasTurn Steps holds (get_or names i name).now at (Err f) next
      → IsTold f n → ends_run f ≡ true → (failed : List ℕ) × Through Steps holds (named names) start failed (Some n) next
  turn_stopped name {next} {f} {n} within turn told ends =
      (t.failed ++ [], next_turn name within [] (Some n) next (Err f, next, turn, (n, told, inl (ends, refl, refl, refl))))

  -- behind the last one
  pub turns_end : length names ≤ i → HadTurns Steps holds (named names) start first at
  turns_end behind =
      let rest = ap (λ (l : List (Bor (List ℕ))). named l) (drop_of_length-le names behind) in (
        t.failed ++ [],
        t.is ∙ ap first_of (sym (append-nil t.failed)),
        t.goes [] None at (subst (λ (r : List (List ℕ)). Through Steps holds r at [] None at) (sym rest) (refl, refl, refl)),
      )
