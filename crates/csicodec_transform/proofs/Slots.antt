-- What is known of short sequences that came before.
use Rattle.std.proofs.Common.{◌≡◌, ℕ, suc, ◌+◌, ◌-◌, ◌%◌, ◌^◌, ◌<◌, ◌≤◌, Bool, true, false, not, cond, eqb, w8, map, List, [], ◌∷◌, ◌++◌, length, take, drop, get_or, refl, sym, ap, subst, ◌∙◌, arith}
use Rattle.std.proofs.{lemmas.List.map-id, lemmas.List.take-append-drop, lemmas.List.take-append-le, lemmas.List.take-take, lemmas.List.take_all}
use Rattle.std.proofs.{lemmas.List.length-take, lemmas.Simd.first_set_mask_l, lemmas.Simd.length-zip2, lemmas.Simd.mask_l-mod, lemmas.Simd.tops_compared}
use Rattle.std.proofs.{Math.Seq.take-append_seam, Math.Seq.take-append-add, lemmas.Bool.eqb-true, lemmas.List.Elements.All-get_or, lemmas.Option.same_Some}
use Rattle.std.proofs.{lemmas.Option.slice_get_read, lemmas.Option.slice_get_within}
use Rattle.csicodec_transform.specs.{declared.memo.Slot.Slot, Known.AreKnown, Known.IsKnown, Known.StandsAt}
use Rattle.std.specs.{List.prefix_len, Simd.Lanes.mask_l, Simd.Lanes.top, Simd.Lanes.zip2}
use lib.Count.{count_trailing_zeros}

-- so many bytes are the same, where as many and more are in parts of them
pub same_in_front : (xs ys : List ℕ) (w n len : ℕ) → len ≤ n → len ≤ w → take n (take w xs) ≡ take n (take w ys) → take len xs ≡ take len ys
same_in_front xs ys w n len within short same =
    sym (take-take len w xs short) ∙ sym (take-take len n (take w xs) within) ∙ ap (λ (l : List ℕ). take len l) same ∙ take-take len n (take w ys) within ∙ take-take len w ys short

take_parts : (xs : List ℕ) (k n : ℕ) → k ≤ length xs → take (k + n) xs ≡ take k xs ++ take n (drop k xs)
take_parts xs k n within =
    let long : length (take k xs) ≡ k = omega (arith, length-take k xs, within) in
    ap (λ (l : List ℕ). take (k + n) l) (sym (take-append-drop k xs)) ∙ ap (λ (i : ℕ). take (i + n) (take k xs ++ drop k xs)) (sym long) ∙ take-append-add (take k xs) (drop k xs) n

-- the same where some stand in front of those parts
pub same_behind : (xs ys : List ℕ) (k w n len : ℕ) → k ≤ length xs → k ≤ length ys → k ≤ len → len ≤ k + n → len ≤ k + w → take k xs ≡ take k ys
    → take n (take w (drop k xs)) ≡ take n (take w (drop k ys)) → take len xs ≡ take len ys
same_behind xs ys k w n len long short front within part same more =
    let left : ℕ = len - k in
    let all : len ≡ k + left = omega (arith, front) in
    let behind : take left (drop k xs) ≡ take left (drop k ys) = same_in_front (drop k xs) (drop k ys) w n left (omega (arith, within)) (omega (arith, part)) more in
    ap (λ (i : ℕ). take i xs) all ∙ take_parts xs k left long ∙ ap (λ (l : List ℕ). l ++ take left (drop k xs)) same ∙ ap (λ (l : List ℕ). take k ys ++ l) behind
    ∙ sym (take_parts ys k left short) ∙ ap (λ (i : ℕ). take i ys) (sym all)

-- whether two lanes differ
abbrev differ : ℕ → ℕ → Bool
differ a b = not (eqb a b)

-- as many lanes are the same as come before the first that differs
same_before : (xs ys : List ℕ) → length xs ≡ length ys → take (prefix_len not (zip2 differ xs ys)) xs ≡ take (prefix_len not (zip2 differ xs ys)) ys
same_before [] [] long = refl
same_before [] (y ∷ ys) long = absurd (omega (arith, long))
same_before (x ∷ xs) [] long = absurd (omega (arith, long))
same_before (x ∷ xs) (y ∷ ys) long = go (prefix_len not (zip2 differ xs ys)) (eqb x y) refl (same_before xs ys (omega (arith, long)))
  where
    one : (n : ℕ) → 1 + n ≡ suc n
    one n = omega arith

    go : (n : ℕ) (b : Bool) → eqb x y ≡ b → take n xs ≡ take n ys → take (cond (not (not (eqb x y))) (1 + n) 0) (x ∷ xs) ≡ take (cond (not (not (eqb x y))) (1 + n) 0) (y ∷ ys)
    go n true is same = rw (is, one n) (ap (λ (a : ℕ). a ∷ take n xs) (eqb-true x y is) ∙ ap (λ (l : List ℕ). y ∷ l) same)
    go n false is same = rw is refl

pub same_lanes : (xs ys : List ℕ) (w : ℕ) → w < 64 → length xs ≡ w → length ys ≡ w → (k : ℕ) → k ≡ count_trailing_zeros 64 (mask_l (zip2 differ xs ys)) → take k xs ≡ take k ys
same_lanes xs ys w few long short k is = go (eqb (mask_l ms) 0) first
  where
    ms : List Bool
    ms = zip2 differ xs ys

    first : cond (eqb (mask_l ms) 0) w k ≡ prefix_len not ms
    first = ap (λ (n : ℕ). cond (eqb (mask_l ms) 0) w n) is
        ∙ ap (λ (l : List Bool). cond (eqb (mask_l l) 0) w (count_trailing_zeros 64 (mask_l l))) (sym (map-id ms))
        ∙ first_set_mask_l (λ (b : Bool). b) ms w (length-zip2 differ xs ys (long ∙ sym short) ∙ long) (omega (arith, few))

    before : take (prefix_len not ms) xs ≡ take (prefix_len not ms) ys
    before = same_before xs ys (long ∙ sym short)

    go : (none : Bool) → cond none w k ≡ prefix_len not ms → take k xs ≡ take k ys
    go false some = subst (λ (n : ℕ). take n xs ≡ take n ys) (sym some) before
    go true all =
        let whole : take w xs ≡ take w ys = subst (λ (n : ℕ). take n xs ≡ take n ys) (sym all) before in
        ap (λ (l : List ℕ). take k l) (sym (take_all w xs (omega (arith, long))) ∙ whole ∙ take_all w ys (omega (arith, short)))

-- a comparison's mask, of lanes of bytes
pub differing_mask : (xs ys : List ℕ) (w : ℕ) → w < 64 → length xs ≡ w → length ys ≡ w
    → count_trailing_zeros 64 (mask_l (map (top 7) (zip2 (λ a b. cond (differ a b) 255 0) xs ys)) % 2 ^ 64) ≡ count_trailing_zeros 64 (mask_l (zip2 differ xs ys))
differing_mask xs ys w few long short =
    ap (λ (ms : List Bool). count_trailing_zeros 64 (mask_l ms % 2 ^ 64)) (tops_compared w8 differ xs ys)
    ∙ ap (count_trailing_zeros 64) (mask_l-mod (zip2 differ xs ys) 64 (omega (arith, length-zip2 differ xs ys (long ∙ sym short), long, few)))

-- what is kept of a sequence and its note
pub slot_known : (Notes : List ℕ → List ℕ → Type 0) (bytes front text copied zs : List ℕ) (len : ℕ) → front ≡ take 48 bytes → copied ≡ text → len ≤ 48 → length text ≤ 48 → Notes (take len bytes) text
    → (len ≤ 48) × (length text ≤ 48) × (0 < len → Notes (take len front) (take (length text) (copied ++ zs)))
slot_known Notes bytes front text copied zs len is same short small k =
    let begin : take len front ≡ take len bytes = ap (λ (l : List ℕ). take len l) is ∙ take-take len 48 bytes short in
    let all : take (length text) (copied ++ zs) ≡ text = ap (λ (l : List ℕ). take (length text) (l ++ zs)) same ∙ take-append_seam text zs in
    (short, small, λ some. subst (λ (l : List ℕ). Notes l (take (length text) (copied ++ zs))) (sym begin) (subst (λ (l : List ℕ). Notes (take len bytes) l) (sym all) k))

-- what a slot says of the sequence in front that stands there
pub record HasFront (Notes : List ℕ → List ℕ → Type 0) (bytes : List ℕ) (s : Slot) : Type 0 where
  pub some : 0 < s.len
  pub within : s.len ≤ length bytes
  pub short : s.len ≤ 48
  pub text : s.text_len ≤ 48
  pub noted : Notes (take s.len bytes) (take s.text_len s.text)

pub has_front : (Notes : List ℕ → List ℕ → Type 0) (bytes : List ℕ) (slots : List Slot) (at : ℕ) (s : Slot) → AreKnown Notes slots → StandsAt Notes bytes slots at → s ≡ get_or slots at s
    → HasFront Notes bytes s
has_front Notes bytes slots at s known (t, stands, some, within, text, noted) is =
    let low = slice_get_within slots at t stands in
    let same : t ≡ s = same_Some t s (sym stands ∙ slice_get_read slots (length slots) at s refl low is) in
    let own = subst (IsKnown Notes) (sym is ∙ sym same) (All-get_or (IsKnown Notes) slots at s low known) in
    subst (HasFront Notes bytes) same (record { some = some; within = within; short = own.0; text = text; noted = noted })

-- the first bytes are those of a copy of more, with others behind
pub front_copied : (bytes front copied zs : List ℕ) (n len : ℕ) → front ≡ take n bytes → copied ≡ front → len ≤ length front → take len (copied ++ zs) ≡ take len bytes
front_copied bytes front copied zs n len is same short =
    ap (λ (l : List ℕ). take len (l ++ zs)) same ∙ take-append-le len front zs short ∙ ap (λ (l : List ℕ). take len l) is
    ∙ take-take len n bytes (omega (arith, short, ap length is, length-take n bytes))
