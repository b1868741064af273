-- What follows a piece changes it only if it begins with `:`.
use Rattle.std.proofs.Common.{ℕ, ◌≡◌, ◌≤◌, List, [], ◌∷◌, ◌++◌, Bool, true, false, refl, ap, subst, ◌∙◌, arith, length, drop, Some}
use Rattle.std.proofs.{lemmas.Bool.eqb-true, lemmas.Bool.and_parts, lemmas.Option.option_and_then_some}
use Rattle.std.specs.{Prelude.◌==◌, Prelude.◌||◌, Prelude.not, List.list_all}
use Rattle.csicodec_tokens.specs.{declared.param.CsiParam.CsiParam, declared.param.CsiParam.TheVariants.Integer, declared.param.CsiParam.TheVariants.P}
use Rattle.csicodec_base.specs.Shapes.{Slot, Number, Byte, Any, Row, Gives, Always, Color, colon, sgr_rows, fits_slot, begins_with, taken, given, byte_of, bytes_of, color_of_tokens}
use Rattle.csicodec_base.specs.{declared.sgr.Sgr.Sgr, Pieces.Piece, Pieces.NoColon}
use Rattle.csicodec_base.proofs.Table.{meets, meets-fits, all-contains, fits-length}

-- some token fits both, a number where the first takes any
abbrev shares : Slot → Slot → Bool
shares Any (Byte b) = false
shares s u = meets s u

abbrev is_colon : List Slot → Bool
is_colon [] = true
is_colon (Byte b ∷ ss) = b == colon
is_colon _ = false

-- a longer shape that can stand where the first stands goes on with `:`
abbrev goes_on : List Slot → List Slot → Bool
goes_on [] longer = is_colon longer
goes_on (s ∷ ss) [] = true
goes_on (s ∷ ss) (u ∷ us) = not (shares s u) || goes_on ss us

abbrev goes_on_all : List Row → Row → Bool
goes_on_all rows row = list_all (λ (other : Row). goes_on row.shape other.shape) rows

-- the whole table, pair by pair
sgr_goes_on : list_all (goes_on_all sgr_rows) sgr_rows ≡ true
sgr_goes_on = refl

-- ---- the tokens that are taken are numbers

abbrev has_no_any : List Slot → Bool
has_no_any [] = true
has_no_any (Any ∷ ss) = false
has_no_any (s ∷ ss) = has_no_any ss

-- a row that always gives one attribute takes no token
abbrev takes_none : Gives → List Slot → Bool
takes_none (Always s) shape = has_no_any shape
takes_none (Color plane) shape = true

abbrev takes_numbers : Row → Bool
takes_numbers row = takes_none row.gives row.shape

sgr_takes_numbers : list_all takes_numbers sgr_rows ≡ true
sgr_takes_numbers = refl

abbrev AllNumbers : List CsiParam → Type 0
AllNumbers [] = Unit {0}
AllNumbers (Integer z ∷ ts) = AllNumbers ts
AllNumbers (P b ∷ ts) = ⊥

numbers-bytes : (ts : List CsiParam) (bs : List ℕ) → bytes_of ts ≡ Some bs → AllNumbers ts
numbers-bytes [] bs e = tt
numbers-bytes (Integer z ∷ ts) bs e =
    option_and_then_some _ (byte_of (Integer z)) bs e (λ b first more.
    option_and_then_some _ (bytes_of ts) bs more (λ others rest last. numbers-bytes ts others rest))
numbers-bytes (P b ∷ ts) bs e = cc

none-taken : (ss : List Slot) (ts : List CsiParam) → has_no_any ss ≡ true → AllNumbers (taken ss ts)
none-taken [] ts e = tt
none-taken (s ∷ ss) [] e = tt
none-taken (Any ∷ ss) (t ∷ ts) e = cc
none-taken (s ∷ ss) (t ∷ ts) e = none-taken ss ts e

numbers-given : (gives : Gives) (shape : List Slot) (list : List CsiParam) (s : Sgr) → takes_none gives shape ≡ true → given gives (taken shape list) ≡ Some s → AllNumbers (taken shape list)
numbers-given (Always x) shape list s plain e = none-taken shape list plain
numbers-given (Color plane) shape list s plain e =
    option_and_then_some _ (color_of_tokens (taken shape list)) s e (λ c color last.
    option_and_then_some _ (bytes_of (taken shape list)) c color (λ bs some more. numbers-bytes (taken shape list) bs some))

-- ---- a longer shape that fits too

-- a number where the slot takes any token
abbrev NumberIfAny : Slot → CsiParam → Type 0
NumberIfAny Any (Integer z) = Unit {0}
NumberIfAny Any (P b) = ⊥
NumberIfAny _ _ = Unit {0}

first-number : (s : Slot) (ss : List Slot) (t : CsiParam) (ts : List CsiParam) → AllNumbers (taken (s ∷ ss) (t ∷ ts)) → NumberIfAny s t × AllNumbers (taken ss ts)
first-number (Number n) ss t ts a = (tt, a)
first-number Any ss (P b) ts a = absurd a
first-number _ ss _ ts a = (tt, a)

shares-fits : (s u : Slot) (t : CsiParam) → fits_slot s t ≡ true → NumberIfAny s t → fits_slot u t ≡ true → shares s u ≡ true
shares-fits Any (Byte b) (Integer z) e a f = cc
shares-fits Any (Byte b) (P c) e a f = absurd a
shares-fits s u t e a f = meets-fits s u t e f

-- a shape that goes on with `:` doesn't fit where none stands
none-longer : (us : List Slot) (rest : List CsiParam) → is_colon us ≡ true → NoColon rest → begins_with us rest ≡ true → length us ≤ 0
none-longer [] rest c apart f = omega arith
none-longer (Byte b ∷ us) (Integer z ∷ ts) c apart f = cc
none-longer (Byte b ∷ us) (P d ∷ ts) c apart f =
    let same : d ≡ b = eqb-true d b (and_parts (d == b) (begins_with us ts) f).0 in
    absurd (apart ts (ap (λ x. P x ∷ ts) (same ∙ eqb-true b colon c)))
none-longer _ _ c apart f = cc

-- and so no longer shape fits across the joint
no-longer : (ss us : List Slot) (list more : List CsiParam) → begins_with ss list ≡ true → AllNumbers (taken ss list) → goes_on ss us ≡ true → NoColon (drop (length ss) list ++ more)
    → begins_with us (list ++ more) ≡ true → length us ≤ length ss
no-longer [] us list more e a g apart f = none-longer us (list ++ more) g apart f
no-longer (s ∷ ss) [] list more e a g apart f = omega arith
no-longer (s ∷ ss) (u ∷ us) [] more e a g apart f = cc
no-longer (s ∷ ss) (u ∷ us) (t ∷ ts) more e a g apart f =
    let x = and_parts (fits_slot s t) (begins_with ss ts) e in
    let y = and_parts (fits_slot u t) (begins_with us (ts ++ more)) f in
    let n = first-number s ss t ts a in
    let h = no-longer ss us ts more x.1 n.1 (rw (shares-fits s u t x.0 n.0 y.0) at g) apart y.1 in
    omega arith

-- ---- a shape that fits

fits-append : (ss : List Slot) (list more : List CsiParam) → begins_with ss list ≡ true → begins_with ss (list ++ more) ≡ true
fits-append [] list more e = refl
fits-append (s ∷ ss) [] more e = cc
fits-append (s ∷ ss) (t ∷ ts) more e = let x = and_parts (fits_slot s t) (begins_with ss ts) e in rw (x.0, fits-append ss ts more x.1) refl

taken-append : (ss : List Slot) (list more : List CsiParam) → length ss ≤ length list → taken ss (list ++ more) ≡ taken ss list
taken-append [] list more l = refl
taken-append (s ∷ ss) [] more l = absurd (omega arith)
taken-append (Any ∷ ss) (t ∷ ts) more l = rw (taken-append ss ts more (omega arith)) refl
taken-append (s ∷ ss) (t ∷ ts) more l = taken-append ss ts more (omega arith)

pub piece_joint : (list more : List CsiParam) (k : ℕ) (s : Sgr) → NoColon (drop k list ++ more) → Piece list k s → Piece (list ++ more) k s
piece_joint list more k s apart p =
    let row : Row = p.row in
    let fit : begins_with row.shape list ≡ true = p.longest.fits in
    let numbers = numbers-given row.gives row.shape list s (all-contains takes_numbers sgr_rows row sgr_takes_numbers p.longest.listed) p.gives in
    let goes = all-contains (goes_on_all sgr_rows) sgr_rows row sgr_goes_on p.longest.listed in
    let behind : NoColon (drop (length row.shape) list ++ more) = subst (λ (n : ℕ). NoColon (drop n list ++ more)) p.tokens apart in
    record {
      row = row;
      longest = record {
        listed = p.longest.listed;
        fits = fits-append row.shape list more fit;
        no_longer = λ other h f. no-longer row.shape other.shape list more fit numbers (all-contains (λ (r : Row). goes_on row.shape r.shape) sgr_rows other goes h) behind f;
      };
      tokens = p.tokens;
      gives = ap (given row.gives) (taken-append row.shape list more (fits-length row.shape list fit)) ∙ p.gives;
    }
