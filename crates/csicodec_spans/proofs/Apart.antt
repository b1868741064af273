-- No two rows of the table of modes fit the same bytes: a test that is computed in each mode, over all pairs of rows and all bytes.
use Rattle.std.proofs.Common.{◌≡◌, ◌∙◌, ◌<◌, ◌≤◌, ℕ, zero, suc, List, [], ◌∷◌, Some, refl, sym, ap, inl, inr, arith, ◌&&◌, ◌||◌, Bool, true, false, not, nat_lt, nat_le, slice_get}
use Rattle.std.proofs.lemmas.Bool.{agree_below, agree_below_at, cases_Bool, cases_lt, and_parts, or_cases, false_from_ne_true}
use Rattle.std.proofs.{lemmas.Bool.Decides.nat_tests, lemmas.Option.same_Some}
use Rattle.csicodec_spans.specs.Table.{Range, Spot, OneOf, NoneOf, End, ModeRow, mode_table, within, holds_in, takes, is_end, begin_with, fits_front, fitting, answer_of, ahead, HasOneRow}
use Rattle.csicodec_spans.specs.declared.table.Mode.{Mode}

-- the ranges end below 128, so that all bytes from there on are alike
abbrev are_low : List Range → Bool
are_low [] = true
are_low (r ∷ ranges) = nat_lt r.last 128 && are_low ranges

abbrev is_low : Spot → Bool
is_low (OneOf ranges) = are_low ranges
is_low (NoneOf ranges) = are_low ranges
is_low End = true

-- no byte may stand in both spots, nor may the bytes end at both
abbrev differ : Spot → Spot → Bool
differ p q = not (is_end p && is_end q) && (is_low p && (is_low q && agree_below (λ b. takes p b && takes q b) (λ _. false) 129))

abbrev are_apart : List Spot → List Spot → Bool
are_apart [] qs = false
are_apart (p ∷ ps) [] = false
are_apart (p ∷ ps) (q ∷ qs) = differ p q || (not (is_end p) && are_apart ps qs)

-- in this mode, not both rows fit
abbrev row_off : Mode → ModeRow → ModeRow → Bool
row_off m r s = not (holds_in r.modes m && holds_in s.modes m) || are_apart r.spots s.spots

abbrev apart_from : Mode → ModeRow → List ModeRow → Bool
apart_from m r [] = true
apart_from m r (s ∷ rows) = row_off m r s && apart_from m r rows

abbrev all_apart : Mode → List ModeRow → Bool
all_apart m [] = true
all_apart m (r ∷ rows) = apart_from m r rows && all_apart m rows

is_apart : (m : Mode) → all_apart m mode_table ≡ true
is_apart Mode.Text = refl
is_apart _ = refl

-- ---- what the tests say

within_low : (rs : List Range) (b : ℕ) → are_low rs ≡ true → 128 ≤ b → within rs b ≡ false
within_low [] b low high = refl
within_low (r ∷ rs) b low high =
    let p = and_parts (nat_lt r.last 128) (are_low rs) low in
    rw (within_low rs b p.1 high) (off r.first r.last p.0)
  where
    off : (first last : ℕ) → nat_lt last 128 ≡ true → (nat_le first b && nat_le b last || false) ≡ false
    off first last e = grind (arith, nat_tests)

takes_low : (p : Spot) (b : ℕ) → is_low p ≡ true → 129 ≤ b → takes p b ≡ takes p 128
takes_low (OneOf rs) b low high = within_low rs b low (omega (arith, high)) ∙ sym (within_low rs 128 low (omega arith))
takes_low (NoneOf rs) b low high = ap not (within_low rs b low (omega (arith, high)) ∙ sym (within_low rs 128 low (omega arith)))
takes_low End b low high = refl

none_below : (n b : ℕ) (p q : Spot) → agree_below (λ x. takes p x && takes q x) (λ _. false) n ≡ true → b < n → takes p b ≡ true → takes q b ≡ true → ⊥
none_below n b p q all few e f = let none = rw (e, f) at (agree_below_at (λ x. takes p x && takes q x) (λ _. false) n b all few) in cc

differ_places : (p q : Spot) (b : ℕ) → differ p q ≡ true → takes p b ≡ true → takes q b ≡ true → ⊥
differ_places p q b d e f =
    let (low, others) = and_parts (is_low p) _ (and_parts (not (is_end p && is_end q)) _ d).1 in
    let (low2, all) = and_parts (is_low q) _ others in
    elim (cases_lt b 129) [
      | inl few ↦ none_below 129 b p q all few e f
      | inr high ↦ none_below 129 128 p q all (omega arith) (sym (takes_low p b low high) ∙ e) (sym (takes_low q b low2 high) ∙ f)
    ]

apart_places : (ps qs : List Spot) (bytes : List ℕ) → are_apart ps qs ≡ true → begin_with ps bytes ≡ true → begin_with qs bytes ≡ true → ⊥
apart_places [] qs bytes d e f = cc
apart_places (p ∷ ps) [] bytes d e f = cc
apart_places (p ∷ ps) (q ∷ qs) [] d e f = let both = rw (e, f) at d in cc
apart_places (p ∷ ps) (q ∷ qs) (b ∷ bytes) d e f =
    let first = and_parts (takes p b) (begin_with ps bytes) e in
    let second = and_parts (takes q b) (begin_with qs bytes) f in
    elim (or_cases (differ p q) (not (is_end p) && are_apart ps qs) d) [
      | inl here ↦ differ_places p q b here first.0 second.0
      | inr later ↦ apart_places ps qs bytes (and_parts (not (is_end p)) (are_apart ps qs) later).1 first.1 second.1
    ]

apart_rows : (r s : ModeRow) (m : Mode) (bytes : List ℕ) → row_off m r s ≡ true → fits_front m bytes r ≡ true → fits_front m bytes s ≡ true → ⊥
apart_rows r s m bytes d e f =
    let first = and_parts (holds_in r.modes m) (begin_with r.spots bytes) e in
    let second = and_parts (holds_in s.modes m) (begin_with s.spots bytes) f in
    apart_places r.spots s.spots bytes (rw (first.0, second.0) at d) first.1 second.1

-- beside a row that fits none fits
none_beside : (r : ModeRow) (rows : List ModeRow) (m : Mode) (bytes : List ℕ) → apart_from m r rows ≡ true → fits_front m bytes r ≡ true → fitting rows m bytes ≡ []
none_beside r [] m bytes d e = refl
none_beside r (s ∷ rows) m bytes d e =
    let p = and_parts (row_off m r s) (apart_from m r rows) d in
    elim (cases_Bool (fits_front m bytes s)) [ inl both ↦ absurd (apart_rows r s m bytes p.0 e both) | inr other ↦ rw other (none_beside r rows m bytes p.1 e) ]

alone : (rows : List ModeRow) (i : ℕ) (r : ModeRow) (m : Mode) (bytes : List ℕ) → all_apart m rows ≡ true → slice_get rows i ≡ Some r → fits_front m bytes r ≡ true → fitting rows m bytes ≡ r ∷ []
alone [] i r m bytes d at e = cc
alone (q ∷ rows) zero r m bytes d at e =
    let p = and_parts (apart_from m q rows) (all_apart m rows) d in
    let same : q ≡ r = same_Some q r at in
    let here : fits_front m bytes q ≡ true = rw same e in
    rw (here, none_beside q rows m bytes p.0 here) (ap (λ (x : ModeRow). x ∷ []) same)
alone (q ∷ rows) (suc i) r m bytes d at e =
    let p = and_parts (apart_from m q rows) (all_apart m rows) d in
    let others = alone rows i r m bytes p.1 at e in
    rw (false_from_ne_true (fits_front m bytes q) (λ f. let none = none_beside q rows m bytes p.0 f in cc)) others

-- a row that fits says what stands in front
pub said : (i : ℕ) (r : ModeRow) (m : Mode) (bytes : List ℕ) → slice_get mode_table i ≡ Some r → fits_front m bytes r ≡ true → ahead m bytes ≡ r.answer
unfolding ahead
said i r m bytes at e = ap answer_of (alone mode_table i r m bytes (is_apart m) at e)

-- and is the one that fits
pub one_row : (i : ℕ) (r : ModeRow) (m : Mode) (bytes : List ℕ) → slice_get mode_table i ≡ Some r → fits_front m bytes r ≡ true → HasOneRow m bytes
one_row i r m bytes at e = record { row = r; fits = alone mode_table i r m bytes (is_apart m) at e; answer = said i r m bytes at e }
