-- Lists of tokens and their spellings, which are bodies, the faults of bytes that begin with no sequence, and what the reader answers.
use Rattle.std.proofs.Common.{ℕ, ℤ, ◌<◌, List, [], ◌∷◌, ◌++◌, length, refl, sym, ap, subst, ◌∙◌, append_assoc, arith, ◌≡◌, pos, ◌+◌, ◌-◌, ◌*◌, ◌≤◌, ◌≤ℤ◌, zero, suc, ◌⊎◌, get_or, take, drop, inl, inr, true, false}
use Rattle.std.proofs.lemmas.List.{append-nil, length-append, take-append-drop, take-append-le, append_cancel_left, take_all}
use Rattle.std.proofs.{lemmas.Int.ints, lemmas.Bool.Decides.nat_tests, Math.Seq.take-append-add, Math.Seq.get_or-append_seam}
use Rattle.csicodec_tokens.specs.Sequence.{SpellsToken, Spells, IsSpellable, Apart, Spellable, IsBodyByte, IsFinal, Seq, Reads}
use Rattle.csicodec_tokens.specs.Private.Reading.{BeginsWithDigit, IsWhole, EndsWhole, IsRun, IsTooLarge, IsFirstToken, HasRead, IsWrong, fault_at}
use Rattle.csicodec_tokens.specs.declared.reader.ReadError.TheVariants.{BadByte, NumberTooLarge, Truncated, Memory}
use Rattle.csicodec_tokens.specs.{declared.param.CsiParam.CsiParam, declared.param.CsiParam.TheVariants.Integer, declared.param.CsiParam.TheVariants.P}
use Rattle.csicodec_tokens.specs.{Digits.AreDigits, Digits.value_after, Digits.value, Digits.largest, Digits.IsDigit, Body.EndsIn, Fault.IsBody, Fault.Begins}
use Rattle.csicodec_tokens.specs.{Fault.NoSeq, Fault.IsLeast, Fault.IsBad, Fault.FaultOf, Fault.Refuses, declared.reader.ReadError.ReadError}
use Rattle.csicodec_tokens.specs.{Private.Walking.body_byte}
use Rattle.csicodec_tokens.proofs.Walks.{value_grows, none_begun, digit_on, other_on, All-back, IsBody-front, value_push, All-push}

begins_with_run : (run rest : List ℕ) → 0 < length run → AreDigits run → BeginsWithDigit (run ++ rest)
begins_with_run [] rest lt h = absurd (omega arith)
begins_with_run (d ∷ run) rest lt h = h.0

-- what spells a number first begins with a digit
pub begins_with_number : (text : List ℕ) (z : ℤ) (list : List CsiParam) → Spells text (Integer z ∷ list) → BeginsWithDigit text
begins_with_number text z list s = subst BeginsWithDigit (sym s.2) (begins_with_run s.0 s.1 s.3.0 s.3.1)

pub nonempty : (front : List ℕ) (token : CsiParam) → SpellsToken front token → 0 < length front
nonempty front (Integer z) s = s.0
nonempty front (P b) s = omega (arith, ap length s)

-- ---- one token more

pub Spells-push : (text : List ℕ) (list : List CsiParam) (front : List ℕ) (token : CsiParam) → Spells text list → SpellsToken front token → Spells (text ++ front) (list ++ token ∷ [])
Spells-push text [] front token s t = (front, [], ap (λ (x : List ℕ). x ++ front) s ∙ sym (append-nil front), t, refl)
Spells-push text (u ∷ list) front token s t =
    (s.0, s.1 ++ front, ap (λ (x : List ℕ). x ++ front) s.2 ∙ append_assoc s.0 s.1 front, s.3, Spells-push s.1 list front token s.4 t)

apart_from_none : (token : CsiParam) → Apart token []
apart_from_none (Integer z) = tt
apart_from_none (P b) = tt

apart_from_whole : (t token : CsiParam) (front others : List ℕ) → IsWhole t (front ++ others) → SpellsToken front token → Apart t (token ∷ [])
apart_from_whole (Integer y) (Integer z) front others w s = w (begins_with_run front others s.0 s.1)
apart_from_whole _ _ front others w s = tt

-- what stands behind the next token doesn't matter
apart_from_next : (t u : CsiParam) (list more : List CsiParam) → Apart t (u ∷ list) → Apart t (u ∷ more)
apart_from_next (Integer y) (Integer z) list more h = absurd h
apart_from_next _ _ list more h = tt

pub Spellable-push : (list : List CsiParam) (front others : List ℕ) (token : CsiParam) → Spellable list → EndsWhole list (front ++ others)
    → SpellsToken front token → IsSpellable token → Spellable (list ++ token ∷ [])
Spellable-push [] front others token h w s can = (can, apart_from_none token, tt)
Spellable-push (t ∷ []) front others token h w s can = (h.0, apart_from_whole t token front others w s, (can, apart_from_none token, tt))
Spellable-push (t ∷ u ∷ list) front others token h w s can =
    (h.0, apart_from_next t u list (list ++ token ∷ []) h.1, Spellable-push (u ∷ list) front others token h.2 w s can)

pub EndsWhole-push : (list : List CsiParam) (token : CsiParam) (rest : List ℕ) → IsWhole token rest → EndsWhole (list ++ token ∷ []) rest
EndsWhole-push [] token rest w = w
EndsWhole-push (t ∷ []) token rest w = w
EndsWhole-push (t ∷ u ∷ list) token rest w = EndsWhole-push (u ∷ list) token rest w

pub not_above : (n : ℕ) (z : ℤ) → z ≡ pos n → z ≤ℤ pos largest → n ≤ largest
not_above n z e h = let h' : pos n ≤ℤ pos largest = subst (λ (y : ℤ). y ≤ℤ pos largest) e h in omega (arith, ints)

run_more : (ds done : List ℕ) (n : ℕ) → EndsIn done n → AreDigits ds → value_after n ds ≤ largest → EndsIn (done ++ ds) (value_after n ds)
run_more [] done n h p le = subst (λ (t : List ℕ). EndsIn t n) (sym (append-nil done)) h
run_more (d ∷ ds) done n h p le =
    let fits : 10 * n + (d - 48) ≤ largest = omega (arith, value_grows (10 * n + (d - 48)) ds) in
    let one : EndsIn (done ++ d ∷ []) (10 * n + (d - 48)) = digit_on done n d h p.0 fits in
    subst (λ (t : List ℕ). EndsIn t (value_after (10 * n + (d - 48)) ds)) (append_assoc done (d ∷ []) ds) (run_more ds (done ++ d ∷ []) (10 * n + (d - 48)) one p.1 le)

-- a list that may follow a run of that value
abbrev FitsBehind : ℕ → List CsiParam → Type 0
FitsBehind n [] = Unit {0}
FitsBehind n (Integer z ∷ list) = n ≡ 0
FitsBehind n (P b ∷ list) = Unit {0}

fits_behind_number : (z : ℤ) (list : List CsiParam) (n : ℕ) → Apart (Integer z) list → FitsBehind n list
fits_behind_number z (Integer y ∷ list) n h = absurd h
fits_behind_number z _ n h = tt

fits_behind_none : (list : List CsiParam) → FitsBehind 0 list
fits_behind_none (Integer y ∷ list) = refl
fits_behind_none _ = tt

list_more : (list : List CsiParam) (done text : List ℕ) (n : ℕ) → EndsIn done n → FitsBehind n list → Spellable list → Spells text list → IsBody (done ++ text)
list_more [] done text n h fits can s = subst IsBody (sym (ap (λ (t : List ℕ). done ++ t) s ∙ append-nil done)) h.is
list_more (Integer z ∷ list) done text n h fits can s =
    let run = s.0 in
    let h0 : EndsIn done 0 = subst (λ (k : ℕ). EndsIn done k) fits h in
    let le : value run ≤ largest = not_above (value run) z s.3.2 can.0.1 in
    let one : EndsIn (done ++ run) (value run) = run_more run done 0 h0 s.3.1 le in
    let all : IsBody ((done ++ run) ++ s.1) = list_more list (done ++ run) s.1 (value run) one (fits_behind_number z list (value run) can.1) can.2 s.4 in
    subst IsBody (append_assoc done run s.1 ∙ sym (ap (λ (t : List ℕ). done ++ t) s.2)) all
list_more (P b ∷ list) done text n h fits can s =
    let one : EndsIn (done ++ b ∷ []) 0 = other_on done n b h can.0.0 can.0.1 in
    let all : IsBody ((done ++ b ∷ []) ++ s.1) = list_more list (done ++ b ∷ []) s.1 0 one (fits_behind_none list) can.2 s.4 in
    subst IsBody (append_assoc done (b ∷ []) s.1 ∙ sym (ap (λ (t : List ℕ). done ++ t) (s.2 ∙ ap (λ (t : List ℕ). t ++ s.1) s.3))) all

pub IsBody-from_spelling : (text : List ℕ) (list : List CsiParam) → Spellable list → Spells text list → IsBody text
IsBody-from_spelling text list can s = list_more list [] text 0 none_begun (fits_behind_none list) can s

-- ---- fronts that begin a sequence, and fronts that don't

-- the fronts of a beginning are beginnings
pub Begins-take : (bytes : List ℕ) (k : ℕ) → Begins bytes → Begins (take k bytes)
Begins-take bytes zero b = inl refl
Begins-take bytes (suc k) (inl e) = inl (ap (take (suc k)) e)
Begins-take bytes (suc zero) (inr (inr w)) = inr (inl (ap (take 1) w.1))
Begins-take bytes (suc zero) (inr (inl e)) = inr (inl (ap (take 1) e))
Begins-take bytes (suc (suc k)) (inr (inl e)) = inr (inl (ap (take (suc (suc k))) e))
Begins-take bytes (suc (suc k)) (inr (inr w)) = inr (inr (take k w.0, ap (take (suc (suc k))) w.1, IsBody-front (take k w.0) (drop k w.0) (subst IsBody (sym (take-append-drop k w.0)) w.2)))

pub is_begun : (x : List ℕ) → Begins (27 ∷ 91 ∷ x) → IsBody x
is_begun x (inl e) = absurd cc
is_begun x (inr (inl e)) = absurd cc
is_begun x (inr (inr w)) = let e : w.0 ≡ x = cc in subst IsBody e w.2

-- the body of a beginning, and a byte that no body has behind it
pub record StopsAt (body : List ℕ) (b : ℕ) : Type 0 where
  pub begun : IsBody body
  pub stop : IsBody (body ++ b ∷ []) → ⊥

is_least : (body others : List ℕ) (b : ℕ) → StopsAt body b → IsLeast (27 ∷ 91 ∷ (body ++ b ∷ others)) (length body + 2)
is_least body others b h = record {
  within = omega (arith, length-append body (b ∷ others));
  before = λ k le. subst Begins (sym (take-append-le k (27 ∷ 91 ∷ body) (b ∷ others) (omega arith))) (Begins-take (27 ∷ 91 ∷ body) k (inr (inr (body, refl, h.begun))));
  there = λ t.
      let e : (length body + 2) + 1 ≡ suc (suc (length body + 1)) = omega arith in
      let begun : Begins (27 ∷ 91 ∷ take (length body + 1) (body ++ b ∷ others)) = subst (λ (k : ℕ). Begins (take k (27 ∷ 91 ∷ (body ++ b ∷ others)))) e t in
      h.stop (subst IsBody (take-append-add body (b ∷ others) 1) (is_begun (take (length body + 1) (body ++ b ∷ others)) begun));
}

-- ---- no front is a sequence

seq_parts : (front rest body : List ℕ) (list : List CsiParam) (final : ℕ) (s : Seq front list final) → 27 ∷ 91 ∷ body ≡ front ++ rest → body ≡ s.body ++ final ∷ rest
seq_parts front rest body list final s e =
    let e' : 27 ∷ 91 ∷ body ≡ 27 ∷ 91 ∷ ((s.body ++ final ∷ []) ++ rest) = e ∙ ap (λ (t : List ℕ). t ++ rest) s.whole in
    let others : body ≡ (s.body ++ final ∷ []) ++ rest = cc in
    others ∙ append_assoc s.body (final ∷ []) rest

-- one text cut at two bytes: the first cut is the earlier, it is the same, or the second is the earlier
pub cut_cases : (a b c d : List ℕ) (x y : ℕ) → a ++ x ∷ c ≡ b ++ y ∷ d
    → ((k : List ℕ) × (b ≡ a ++ x ∷ k)) ⊎ (((a ≡ b) × (x ≡ y)) ⊎ ((k : List ℕ) × (a ≡ b ++ y ∷ k)))
cut_cases [] [] c d x y e = inr (inl (refl, cc))
cut_cases [] (z ∷ b) c d x y e = inl (b, cc)
cut_cases (w ∷ a) [] c d x y e = inr (inr (a, cc))
cut_cases (w ∷ a) (z ∷ b) c d x y e =
    elim (cut_cases a b c d x y cc) [
      | inl h ↦ inl (h.0, cc)
      | inr (inl h) ↦ inr (inl (let fronts = h.0 in cc, h.1))
      | inr (inr h) ↦ inr (inr (h.0, cc))
    ]

pub no_final_within : (a b : List ℕ) (final : ℕ) → IsBody (a ++ final ∷ b) → IsFinal final → ⊥
no_final_within a b final h ends = omega (arith, (All-back IsBodyByte a (final ∷ b) h.bytes).0, ends)

no_seq : (body others : List ℕ) (b : ℕ) → StopsAt body b → ¬ IsFinal b → NoSeq (27 ∷ 91 ∷ (body ++ b ∷ others))
no_seq body others b h other list final rest r =
    let s = r.1 in
    let whole : IsBody s.body = IsBody-from_spelling s.body list s.spellable s.spelled in
    elim (cut_cases body s.body others rest b final (seq_parts r.0 rest (body ++ b ∷ others) list final s r.2)) [
      | inl k ↦ h.stop (IsBody-front (body ++ b ∷ []) k.0 (subst IsBody (k.1 ∙ sym (append_assoc body (b ∷ []) k.0)) whole))
      | inr (inl same) ↦ other (subst IsFinal (sym same.1) s.ends)
      | inr (inr k) ↦ no_final_within s.body k.0 final (subst IsBody k.1 h.begun) s.ends
    ]

-- ---- the faults

there : (body others : List ℕ) (b : ℕ) → b ≡ get_or (27 ∷ 91 ∷ (body ++ b ∷ others)) (length body + 2) 0
there body others b =
    let e : suc (suc (length body)) ≡ length body + 2 = omega arith in
    sym (get_or-append_seam body b others 0) ∙ ap (λ (k : ℕ). get_or (27 ∷ 91 ∷ (body ++ b ∷ others)) k 0) e

-- where the rest begins with a byte that no body has there
module _ (bytes body rest others : List ℕ) (b : ℕ) (parts : bytes ≡ 27 ∷ 91 ∷ (body ++ rest)) (front : rest ≡ b ∷ others) where
  whole : bytes ≡ 27 ∷ 91 ∷ (body ++ b ∷ others)
  whole = parts ∙ ap (λ (t : List ℕ). 27 ∷ 91 ∷ (body ++ t)) front

  place : length bytes - length rest ≡ length body + 2
  place = omega (arith, ap length parts, length-append body rest)

  pub bad_byte : IsBody body → IsBad b → FaultOf bytes (BadByte (length bytes - length rest))
  bad_byte h bad =
      let stops : StopsAt body b = record { begun = h; stop = λ more. grind (arith, bad, (All-back IsBodyByte body (b ∷ []) more.bytes).0) } in
      rw (place, whole) (no_seq body others b stops (λ p. grind (arith, bad, p)), (is_least body others b stops, omega arith, subst IsBad (there body others b) bad))

  pub large_byte : StopsAt body b → IsBodyByte b → FaultOf bytes (NumberTooLarge (length bytes - length rest))
  large_byte stops p =
      rw (place, whole) (no_seq body others b stops (λ f. omega (arith, f.0, p.1)), (is_least body others b stops, omega arith, λ bad. grind (arith, p, subst IsBad (sym (there body others b)) bad)))

pub cut_short : (body : List ℕ) → IsBody body → FaultOf (27 ∷ 91 ∷ body) (Truncated (length (27 ∷ 91 ∷ body)))
cut_short body h = (
  λ list final rest r. no_final_within r.1.body rest final (subst IsBody (seq_parts r.0 rest body list final r.1 r.2) h) r.1.ends,
  (inr (inr (body, refl, h)), refl),
)

-- ---- A text spells one spellable list, and no sequence begins another.

not_nil : (text : List ℕ) (t : CsiParam) (list : List CsiParam) → Spells text (t ∷ list) → text ≡ [] → ⊥
not_nil text t list s e = omega (arith, nonempty s.0 t s.3, ap length (sym s.2 ∙ e), length-append s.0 s.1)

-- what stands behind a number begins with no digit
no_digit_behind : (list : List CsiParam) (text : List ℕ) (z : ℤ) → Apart (Integer z) list → Spellable list → Spells text list → BeginsWithDigit text → ⊥
no_digit_behind [] text z a can s d = subst BeginsWithDigit s d
no_digit_behind (Integer y ∷ list) text z a can s d = a
no_digit_behind (P b ∷ list) text z a can s d =
    can.0.1 (subst BeginsWithDigit (s.2 ∙ ap (λ (t : List ℕ). t ++ s.1) s.3) d)

one_run : (r t q u : List ℕ) → AreDigits r → AreDigits q → (BeginsWithDigit t → ⊥) → (BeginsWithDigit u → ⊥) → r ++ t ≡ q ++ u → (r ≡ q) × (t ≡ u)
one_run [] t [] u h k o p e = (refl, e)
one_run [] t (c ∷ q) u h k o p e = absurd (o (subst BeginsWithDigit (sym e) k.0))
one_run (b ∷ r) t [] u h k o p e = absurd (p (subst BeginsWithDigit e h.0))
one_run (b ∷ r) t (c ∷ q) u h k o p e =
    let i = one_run r t q u h.1 k.1 o p cc in (cc, i.1)

-- a byte that isn't a digit isn't the beginning of a number
no_number : (text : List ℕ) (z : ℤ) (l : List CsiParam) (b : ℕ) (m : List CsiParam) → Spells text (Integer z ∷ l) → Spells text (P b ∷ m) → ¬ IsDigit b → ⊥
no_number text z l b m s t other =
    other (subst BeginsWithDigit (t.2 ∙ ap (λ (x : List ℕ). x ++ t.1) t.3) (begins_with_number text z l s))

pub one_spelling : (l m : List CsiParam) (text : List ℕ) → Spellable l → Spellable m → Spells text l → Spells text m → l ≡ m
one_spelling [] [] text a b s t = refl
one_spelling [] (u ∷ m) text a b s t = absurd (not_nil text u m t s)
one_spelling (u ∷ l) [] text a b s t = absurd (not_nil text u l s t)
one_spelling (Integer y ∷ l) (Integer z ∷ m) text a b s t =
    let r = one_run s.0 s.1 t.0 t.1 s.3.1 t.3.1 (no_digit_behind l s.1 y a.1 a.2 s.4) (no_digit_behind m t.1 z b.1 b.2 t.4) (sym s.2 ∙ t.2) in
    let i : l ≡ m = one_spelling l m t.1 a.2 b.2 (subst (λ (x : List ℕ). Spells x l) r.1 s.4) t.4 in
    let n : y ≡ z = s.3.2 ∙ ap (λ (x : List ℕ). pos (value x)) r.0 ∙ sym t.3.2 in cc
one_spelling (Integer y ∷ l) (P c ∷ m) text a b s t = absurd (no_number text y l c m s t b.0.1)
one_spelling (P b' ∷ l) (Integer z ∷ m) text a b s t = absurd (no_number text z m b' l t s a.0.1)
one_spelling (P b' ∷ l) (P c ∷ m) text a b s t =
    let e : b' ∷ s.1 ≡ c ∷ t.1 = sym (s.2 ∙ ap (λ (x : List ℕ). x ++ s.1) s.3) ∙ t.2 ∙ ap (λ (x : List ℕ). x ++ t.1) t.3 in
    let others : s.1 ≡ t.1 = cc in
    let i : l ≡ m = one_spelling l m t.1 a.2 b.2 (subst (λ (x : List ℕ). Spells x l) others s.4) t.4 in cc

-- the first final byte ends the body
one_cut : (a b x y : List ℕ) (f g : ℕ) → IsBody a → IsBody b → IsFinal f → IsFinal g → a ++ f ∷ x ≡ b ++ g ∷ y → (a ≡ b) × (f ≡ g) × (x ≡ y)
one_cut a b x y f g h k i j e = elim (cut_cases a b x y f g e) [
  | inl c ↦ absurd (no_final_within a c.0 f (subst IsBody c.1 k) i)
  | inr (inl same) ↦
      let tails : f ∷ x ≡ g ∷ y = append_cancel_left a (f ∷ x) (g ∷ y) (e ∙ ap (λ (t : List ℕ). t ++ g ∷ y) (sym same.0)) in
      (same.0, same.1, cc)
  | inr (inr c) ↦ absurd (no_final_within b c.0 g (subst IsBody c.1 h) j)
]

pub one_seq : (a b x y : List ℕ) (l m : List CsiParam) (f g : ℕ) → Seq a l f → Seq b m g → a ++ x ≡ b ++ y → (a ≡ b) × (l ≡ m) × (f ≡ g) × (x ≡ y)
one_seq a b x y l m f g s t e =
    let e1 : 27 ∷ 91 ∷ ((s.body ++ f ∷ []) ++ x) ≡ 27 ∷ 91 ∷ ((t.body ++ g ∷ []) ++ y) = sym (ap (λ (z : List ℕ). z ++ x) s.whole) ∙ e ∙ ap (λ (z : List ℕ). z ++ y) t.whole in
    let e2 : s.body ++ f ∷ x ≡ t.body ++ g ∷ y = sym (append_assoc s.body (f ∷ []) x) ∙ (cc) ∙ append_assoc t.body (g ∷ []) y in
    let cut = one_cut s.body t.body x y f g (IsBody-from_spelling s.body l s.spellable s.spelled) (IsBody-from_spelling t.body m t.spellable t.spelled) s.ends t.ends e2 in
    let lists : l ≡ m = one_spelling l m t.body s.spellable t.spellable (subst (λ (z : List ℕ). Spells z l) cut.0 s.spelled) t.spelled in
    (s.whole ∙ rw (cut.0, cut.1) (sym t.whole), lists, cut.1, cut.2)

-- ---- From what was read to what the reader answers.

pub first_cut : (xs : List ℕ) → 1 ≤ length xs → xs ≡ get_or xs 0 0 ∷ take (length xs - 1) (drop 1 xs)
first_cut [] le = absurd (omega arith)
first_cut (x ∷ xs) le = ap (λ (t : List ℕ). x ∷ t) (sym (take_all (suc (length xs) - 1) xs (omega arith)))

-- ---- the number in front

pub one_digit : (first : ℕ) (text : List ℕ) → IsDigit first → IsRun first text (first - 48) text
one_digit first text d = record { run = []; parts = refl; digits = tt; total = omega arith; fits = omega (arith, d.1) }

pub one_more_digit : (first : ℕ) (text left others : List ℕ) (n d m : ℕ) → IsRun first text n left → left ≡ d ∷ others → IsDigit d → m ≡ 10 * n + (d - 48) → m ≤ largest → IsRun first text m others
one_more_digit first text left others n d m r e digit next fits = record {
  run = r.run ++ d ∷ [];
  parts = r.parts ∙ ap (λ (t : List ℕ). r.run ++ t) e ∙ sym (append_assoc r.run (d ∷ []) others);
  digits = All-push IsDigit r.run d r.digits digit;
  total = omega (arith, next, r.total, value_push 0 (first ∷ r.run) d);
  fits = fits;
}

-- ---- the first token

pub IsSpellable-number : (n : ℕ) → n ≤ largest → IsSpellable (Integer (pos n))
IsSpellable-number n le = (omega (arith, ints), omega (arith, ints))

pub no_digit : (text : List ℕ) → (1 ≤ length text → ¬ IsDigit (get_or text 0 0)) → BeginsWithDigit text → ⊥
no_digit [] other h = h
no_digit (b ∷ text) other h = other (omega arith) h

pub first_number : (first : ℕ) (text : List ℕ) (number : ℕ) (others : List ℕ) → IsDigit first → IsRun first text number others → (BeginsWithDigit others → ⊥) → IsFirstToken (first ∷ text) (Integer (pos number)) others
first_number first text number others d r whole = record {
  front = first ∷ r.run;
  parts = ap (λ (t : List ℕ). first ∷ t) r.parts;
  spelled = (omega arith, (d, r.digits), ap pos r.total);
  spellable = IsSpellable-number number r.fits;
  whole = whole;
}

-- ---- what has been read, token by token

pub others_shorter : (text : List ℕ) (token : CsiParam) (others : List ℕ) → IsFirstToken text token others → length others < length text
others_shorter text token others f =
    omega (arith, nonempty f.front token f.spelled, ap length f.parts, length-append f.front others)

pub read_none : (bytes rest : List ℕ) → bytes ≡ 27 ∷ 91 ∷ rest → HasRead bytes [] rest
read_none bytes rest e = record { body = []; parts = e; spelled = refl; spellable = tt; whole = tt }

pub read_more : (bytes rest others : List ℕ) (list : List CsiParam) (token : CsiParam) → HasRead bytes list rest → IsFirstToken rest token others → HasRead bytes (list ++ token ∷ []) others
read_more bytes rest others list token h f =
    let parts : h.body ++ rest ≡ (h.body ++ f.front) ++ others = ap (λ (t : List ℕ). h.body ++ t) f.parts ∙ sym (append_assoc h.body f.front others) in
    record {
      body = h.body ++ f.front;
      parts = h.parts ∙ ap (λ (t : List ℕ). 27 ∷ 91 ∷ t) parts;
      spelled = Spells-push h.body list f.front token h.spelled f.spelled;
      spellable = Spellable-push list f.front others token h.spellable (subst (EndsWhole list) f.parts h.whole) f.spelled f.spellable;
      whole = EndsWhole-push list token others f.whole;
    }

pub read_all : (bytes rest others : List ℕ) (list : List CsiParam) (final : ℕ) → HasRead bytes list rest → IsFinal final → rest ≡ final ∷ others → Reads bytes list final others
read_all bytes rest others list final h ends e =
    let parts : h.body ++ rest ≡ (h.body ++ final ∷ []) ++ others = ap (λ (t : List ℕ). h.body ++ t) e ∙ sym (append_assoc h.body (final ∷ []) others) in (
      27 ∷ 91 ∷ (h.body ++ final ∷ []),
      record { spellable = h.spellable; ends = ends; body = h.body; spelled = h.spelled; whole = refl },
      h.parts ∙ ap (λ (t : List ℕ). 27 ∷ 91 ∷ t) parts,
    )

-- ---- the fault behind what has been read

-- the bytes behind a body are no more of it, nor do they end the sequence
module _ (at b : ℕ) (others : List ℕ) where
  pub fault_in_body : IsBodyByte b → fault_at at (b ∷ others) ≡ NumberTooLarge at
  fault_in_body p = let is : body_byte b ≡ true = grind (arith, nat_tests, p) in rw is refl

  pub fault_off_body : IsBad b → fault_at at (b ∷ others) ≡ BadByte at
  fault_off_body bad = let no : body_byte b ≡ false = grind (arith, nat_tests, bad) in rw no refl

pub fault_at_digit : (bytes rest : List ℕ) (first : ℕ) (text left : List ℕ) (list : List CsiParam) → HasRead bytes list rest → rest ≡ first ∷ text → IsDigit first → IsTooLarge first text left
    → FaultOf bytes (NumberTooLarge (length bytes - length left))
fault_at_digit bytes rest first text left list h cut d n =
    let run = first ∷ n.run.run in
    let digits : AreDigits run = (d, n.run.digits) in
    let parts : rest ≡ run ++ left = cut ∙ ap (λ (t : List ℕ). first ∷ t) n.run.parts in
    let spells : SpellsToken run (Integer (pos n.number)) = (omega arith, digits, ap pos n.run.total) in
    let more = Spellable-push list run left (Integer (pos n.number)) h.spellable (subst (EndsWhole list) parts h.whole) spells (IsSpellable-number n.number n.run.fits) in
    let longer = run ++ n.digit ∷ [] in
    let large : largest < value longer = omega (arith, n.large, n.run.total, value_push 0 run n.digit) in
    let last : (h.body ++ run) ++ n.digit ∷ [] ≡ h.body ++ (longer ++ []) = append_assoc h.body run (n.digit ∷ []) ∙ ap (λ (t : List ℕ). h.body ++ t) (sym (append-nil longer)) in
    let stops : StopsAt (h.body ++ run) n.digit = record {
      begun = IsBody-from_spelling (h.body ++ run) (list ++ Integer (pos n.number) ∷ []) more (Spells-push h.body list run (Integer (pos n.number)) h.spelled spells);
      stop = λ is. omega (arith, large, is.runs h.body longer [] last (All-push IsDigit run n.digit digits n.next));
    } in
    let whole : h.body ++ rest ≡ (h.body ++ run) ++ left = ap (λ (t : List ℕ). h.body ++ t) parts ∙ sym (append_assoc h.body run left) in
    large_byte bytes (h.body ++ run) left n.others n.digit (h.parts ∙ ap (λ (t : List ℕ). 27 ∷ 91 ∷ t) whole) n.begins stops (omega (arith, n.next.0), omega (arith, n.next.1))

pub too_large : (first : ℕ) (text left : List ℕ) → IsDigit first → IsTooLarge first text left → IsWrong (first ∷ text) left
too_large first text left d n = record {
  within = omega (arith, ap length n.run.parts, length-append n.run.run left);
  fault = λ bytes list h.
      let at = length bytes - length left in
      subst (FaultOf bytes) (sym (ap (fault_at at) n.begins ∙ fault_in_body at n.digit n.others (omega (arith, n.next.0), omega (arith, n.next.1)))) (fault_at_digit bytes (first ∷ text) first text left list h refl d n);
}

pub wrong_at_byte : (text : List ℕ) → 1 ≤ length text → IsBad (get_or text 0 0) → IsWrong text text
wrong_at_byte [] some bad = absurd (omega (arith, some))
wrong_at_byte (b ∷ others) some bad = record {
  within = omega arith;
  fault = λ bytes list h. subst (FaultOf bytes) (sym (fault_off_body (length bytes - length (b ∷ others)) b others bad))
      (bad_byte bytes h.body (b ∷ others) others b h.parts refl (IsBody-from_spelling h.body list h.spellable h.spelled) bad);
}

pub wrong_at_end : (text : List ℕ) → length text < 1 → IsWrong text text
wrong_at_end [] none = record {
  within = omega arith;
  fault = λ bytes list h.
      let whole : bytes ≡ 27 ∷ 91 ∷ h.body = h.parts ∙ ap (λ (t : List ℕ). 27 ∷ 91 ∷ t) (append-nil h.body) in
      let end : length bytes - length {A = ℕ} [] ≡ length (27 ∷ 91 ∷ h.body) = omega (arith, ap length whole) in
      rw end (rw whole (cut_short h.body (IsBody-from_spelling h.body list h.spellable h.spelled)));
}
wrong_at_end (b ∷ others) none = absurd (omega (arith, none))

-- ---- what is answered

pub fault_refuses : (bytes : List ℕ) (room : ℕ) (e : ReadError) → FaultOf bytes e → Refuses bytes room e
fault_refuses bytes room Memory f = absurd f.1
fault_refuses bytes room _ f = f

pub one_reading : (bytes rest others : List ℕ) (list read : List CsiParam) (final control : ℕ) → Reads bytes list final rest → Reads bytes read control others
    → (read ≡ list) × (control ≡ final) × (others ≡ rest)
one_reading bytes rest others list read final control s r =
    let u = one_seq r.0 s.0 others rest read list control final r.1 s.1 (sym r.2 ∙ s.2) in (u.1, u.2, u.3)

pub refused_for_memory : (bytes rest : List ℕ) (list : List CsiParam) (final room : ℕ) (e : ReadError) → Reads bytes list final rest → Refuses bytes room e
    → (e ≡ Memory) × (room < length list)
refused_for_memory bytes rest list final room Memory s r =
    let same = one_reading bytes rest r.2 list r.0 final r.1 s r.3 in
    (refl, subst (λ (l : List CsiParam). room < length l) same.0 r.4)
refused_for_memory bytes rest list final room _ s r = absurd (r.0 list final rest s)
