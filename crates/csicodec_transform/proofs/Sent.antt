-- What went out of a run from a reader to a writer, by what is known of both.
use Rattle.std.proofs.Common.{◌≡◌, ℕ, Option, None, Some, IfSome, List, [], ◌∷◌, ◌++◌, length, take, refl, subst, sym, ap, ◌∙◌, inl, inr, ⊎_elim, append_assoc, append-nil, arith, drop, ◌-◌, take-append-drop}
use Rattle.std.proofs.{KnownBytes.Appends-trans, KnownBytes.Consumes-kept, KnownBytes.Consumes-nil, KnownBytes.Consumes-trans, lemmas.List.take_rest}
use Rattle.std.specs.Io.KnownBytes.{Appends, Consumes, IsAtEnd, Keeps}
pub use Rattle.csicodec_transform.specs.Transform.{AddsFront}
use Rattle.csicodec_transform.specs.Transform.{Adds, Begins, EndsOf, GoesOn, PassesOf, Sends, Transforms}

-- nothing came with the last read
pub none_more : (read buf : List ℕ) (count : ℕ) (i j k : Option (List ℕ)) → Consumes i j read → Consumes j k (take count buf) → count ≡ 0 → Consumes i k read
none_more read buf count i j k consumed more none =
    let same : read ++ take count buf ≡ read = ap (λ (n : ℕ). read ++ take n buf) none ∙ append-nil read in
    subst (Consumes i k) same (Consumes-trans i j k read (take count buf) consumed more)

-- all of some bytes, where none are left
pub none_left : (bytes taken rest : List ℕ) → bytes ≡ taken ++ rest → length rest ≡ 0 → taken ≡ bytes
none_left bytes taken [] e none = sym (e ∙ append-nil taken)
none_left bytes taken (b ∷ rest) e none = absurd (omega (arith, none))

-- nothing more
pub goes_none : {S X : Type 0} (P : S → List X → List ℕ → S → Type 0) (s : S) → GoesOn P s [] [] s
goes_none P s first bytes text passed = rw (append-nil bytes, append-nil text) passed

-- one chunk, and then another
pub goes_on : {S X : Type 0} (P : S → List X → List ℕ → S → Type 0) (s t u : S)
    (chunk next : List X) (more later : List ℕ) → GoesOn P s chunk more t →
    GoesOn P t next later u → GoesOn P s (chunk ++ next) (more ++ later) u
goes_on P s t u chunk next more later h k first bytes text passed =
    rw (← append_assoc bytes chunk next, ← append_assoc text more later)
    (k first (bytes ++ chunk) (text ++ more) (h first bytes text passed))

module _ {S : Type 0} (P : PassesOf S) where
  -- nothing yet, and some bytes more
  pub adds_none : (s : S) (bytes out : List ℕ) → AddsFront P s bytes bytes out out s
  adds_none s bytes out = ([], refl, ([], goes_none P s, sym (append-nil out)))

  pub adds_on : (s t u : S) (bytes mid rest a b c : List ℕ) → AddsFront P s bytes mid a b t → AddsFront P t mid rest b c u → AddsFront P s bytes rest a c u
  adds_on s t u bytes mid rest a b c (front, whole, (more, goes, out)) (next, behind, (later, goes_then, longer)) = (
    front ++ next,
    rw (whole, behind) (sym (append_assoc front next rest)),
    (more ++ later, goes_on P s t u front next more later goes goes_then, rw (longer, out) (append_assoc a more later)),
  )

  -- all of them
  pub adds_all : (s t : S) (bytes rest a b : List ℕ) → AddsFront P s bytes rest a b t → length rest ≡ 0 → Adds P s bytes a b t
  adds_all s t bytes rest a b (front, whole, (more, goes, out)) none = (more, subst (λ (l : List ℕ). GoesOn P s l more t) (none_left bytes front rest whole none) goes, out)

-- since a state some bytes were read, and all that is sure of them was written
pub record SoFar {S : Type 0} (P : PassesOf S) (s now : S) (i j w x : Option (List ℕ)) : Type 0 where
  pub read : List ℕ
  pub text : List ℕ
  pub consumed : Consumes i j read
  pub passed : P s read text now
  pub written : Appends w x text

module _ {S : Type 0} (P : PassesOf S) (E : EndsOf S) (s : S) where
  -- what went out of a run that read some bytes
  abbrev pub Went : Option (List ℕ) → Option (List ℕ) → Option (List ℕ) → Option (List ℕ) → Type 0
  Went i k w y = (bytes : List ℕ) × (more : List ℕ) × (sent : List ℕ) × Consumes i k (bytes ++ more) × Begins (Sends P s) (Transforms P E s) ((more ≡ []) × IsAtEnd k) bytes sent × Appends w y sent

  -- nothing came with the last read
  pub so_none : (buf : List ℕ) (count : ℕ) (now : S) (i j k w x : Option (List ℕ)) → SoFar P s now i j w x → Consumes j k (take count buf) → count ≡ 0 → SoFar P s now i k w x
  so_none buf count now i j k w x h more none = record { read = h.read; text = h.text; consumed = none_more h.read buf count i j k h.consumed more none; passed = h.passed; written = h.written }

  -- the last read failed
  pub so_kept : (now : S) (i j k w x : Option (List ℕ)) → SoFar P s now i j w x → Keeps j k → SoFar P s now i k w x
  so_kept now i j k w x h kept = record { read = h.read; text = h.text; consumed = Consumes-kept i j k h.read h.consumed kept; passed = h.passed; written = h.written }

  -- a chunk more, and its text
  pub so_on : (chunk more : List ℕ) (now last : S) (i j k w x y : Option (List ℕ)) → SoFar P s now i j w x → Consumes j k chunk → GoesOn P now chunk more last → Appends x y more → SoFar P s last i k w y
  so_on chunk more now last i j k w x y h came goes made = record {
    read = h.read ++ chunk;
    text = h.text ++ more;
    consumed = Consumes-trans i j k h.read chunk h.consumed came;
    passed = goes s h.read h.text h.passed;
    written = Appends-trans w x y h.text more h.written made;
  }

  -- what was put off too
  pub so_off : (R : S → Type 0) (now last : S) (i k w x y : Option (List ℕ)) → SoFar P s now i k w x → (more : List ℕ) × GoesOn P now [] more last × R last × Appends x y more
      → (read : List ℕ) × (text : List ℕ) × (end : S) × Consumes i k read × P s read text end × R end × Appends w y text
  so_off R now last i k w x y h (more, goes, rests, made) =
      let a = so_on [] more now last i k k w x y h (Consumes-nil k) goes made in (a.read, a.text, last, a.consumed, a.passed, rests, a.written)

  -- all that is sure
  pub went : (more : List ℕ) (last : S) (i j k w x : Option (List ℕ)) → SoFar P s last i j w x → Consumes j k more → Went i k w x
  went more last i j k w x h later = (
    h.read,
    more,
    h.text,
    Consumes-trans i j k h.read more h.consumed later,
    ([], inl (last, subst (λ (t : List ℕ). P s h.read t last) (sym (append-nil h.text)) h.passed)),
    h.written,
  )

  -- some of a chunk's text
  pub went_some : (chunk more sent unsent : List ℕ) (now last : S) (i j k w x y : Option (List ℕ)) → SoFar P s now i j w x → Consumes j k chunk → GoesOn P now chunk more last
      → more ≡ sent ++ unsent → Appends x y sent → Went i k w y
  went_some chunk more sent unsent now last i j k w x y h came goes parts some = (
    h.read ++ chunk,
    [],
    h.text ++ sent,
    subst (Consumes i k) (sym (append-nil (h.read ++ chunk))) (Consumes-trans i j k h.read chunk h.consumed came),
    (unsent, inl (last, rw (append_assoc h.text sent unsent, ← parts) (goes s h.read h.text h.passed))),
    Appends-trans w x y h.text sent h.written some,
  )

  -- some of what was put off
  pub went_off : (now : S) (i k w x y : Option (List ℕ)) → SoFar P s now i k w x
      → (last : S) × (more : List ℕ) × (sent : List ℕ) × (unsent : List ℕ) × GoesOn P now [] more last × (more ≡ sent ++ unsent) × Appends x y sent → Went i k w y
  went_off now i k w x y h (last, more, sent, unsent, goes, parts, some) = went_some [] more sent unsent now last i k k w x y h (Consumes-nil k) goes parts some

  -- some of the end
  pub went_end : (rest : List ℕ) (last : S) (i k w x y : Option (List ℕ)) → SoFar P s last i k w x → IsAtEnd k → E last rest
      → (sent : List ℕ) × (unsent : List ℕ) × (rest ≡ sent ++ unsent) × Appends x y sent → Went i k w y
  went_end rest last i k w x y h end ends (sent, unsent, parts, some) = (
    h.read,
    [],
    h.text ++ sent,
    subst (Consumes i k) (sym (append-nil h.read)) h.consumed,
    (unsent, inr ((refl, end), (last, h.text, rest, h.passed, ends, rw (append_assoc h.text sent unsent, ← parts) refl))),
    Appends-trans w x y h.text sent h.written some,
  )

  -- the end
  pub ran : (rest : List ℕ) (last : S) (i k w x y : Option (List ℕ)) → SoFar P s last i k w x → IsAtEnd k → E last rest → Appends x y rest
      → (bytes : List ℕ) × (t : List ℕ) × Consumes i k bytes × IsAtEnd k × Transforms P E s bytes t × Appends w y t
  ran rest last i k w x y h end ends more =
      (h.read, h.text ++ rest, h.consumed, end, (last, h.text, rest, h.passed, ends, refl), Appends-trans w x y h.text rest h.written more)

-- what went out is a front of the text of the whole input
module _ (Sure Whole Front : List ℕ → List ℕ → Type 0) where
  pub whole_front : ((bytes sent unsent : List ℕ) → Front bytes (sent ++ unsent) → Front bytes sent) → ((read more text : List ℕ) → Sure read text → Front (read ++ more) text)
      → ((bytes text : List ℕ) → Whole bytes text → Front bytes text) → (bytes more sent : List ℕ) (i k w y : Option (List ℕ)) → Consumes i k (bytes ++ more)
      → Begins Sure Whole ((more ≡ []) × IsAtEnd k) bytes sent → Appends w y sent → IfSome i (λ all. (front : List ℕ) × Front all front × Appends w y front)
  whole_front shorter sure whole bytes more sent None k w y consumed begins written = tt
  whole_front shorter sure whole bytes more sent (Some xs) None w y consumed begins written = absurd consumed
  whole_front shorter sure whole bytes more sent (Some xs) (Some ys) w y consumed (unsent, h) written = (
    sent,
    shorter xs sent unsent (⊎_elim
        (λ (k : Sure bytes (sent ++ unsent)).
        subst (λ (b : List ℕ). Front b (sent ++ unsent)) (sym (consumed ∙ append_assoc bytes more ys)) (sure bytes (more ++ ys) (sent ++ unsent) k))
        (λ (k : ((more ≡ []) × (ys ≡ [])) × Whole bytes (sent ++ unsent)).
        let all : xs ≡ bytes = consumed ∙ ap (λ (t : List ℕ). (bytes ++ more) ++ t) k.0.1 ∙ append-nil (bytes ++ more) ∙ ap (λ (t : List ℕ). bytes ++ t) k.0.0 ∙ append-nil bytes in
        subst (λ (b : List ℕ). Front b (sent ++ unsent)) (sym all) (whole bytes (sent ++ unsent) k.1))
        h),
    written,
  )

-- of some bytes that are in front of the rest, more are
pub moves_front : (all sent rest : List ℕ) (n : ℕ) → all ≡ sent ++ rest → all ≡ (sent ++ take n rest) ++ take (length rest - n) (drop n rest)
moves_front all sent rest n e =
    e ∙ ap (λ l. sent ++ l) (sym (take-append-drop n rest)) ∙ sym (append_assoc sent (take n rest) (drop n rest)) ∙ ap (λ l. (sent ++ take n rest) ++ l) (sym (take_rest rest n))
