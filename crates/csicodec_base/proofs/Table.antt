-- The table of attributes: the first row that fits is the longest, and what the pieces are that a first token begins.
use Rattle.std.proofs.Common.{ℕ, zero, suc, ◌≡◌, ◌<◌, ◌≤◌, ◌+◌, List, [], ◌∷◌, Bool, true, false, refl, sym, ap, ◌∙◌, arith, length, Some, None, inl, inr, subst, ◌⊎◌, take, get_or, drop, ◌≢◌, leb}
use Rattle.std.proofs.{lemmas.Option.option_and_then_some, lemmas.Option.some_pair_parts, lemmas.Bool.cases_Bool, lemmas.Bool.or_cases, lemmas.Bool.eqb-true}
use Rattle.std.proofs.{lemmas.Bool.and_parts, lemmas.Bool.leb-true, lemmas.List.Elements.All-contains, lemmas.List.Elements.Contains-append_right}
use Rattle.std.proofs.{lemmas.List.Sums.AllPass-from_list_all}
use Rattle.std.specs.Prelude.{Option, ◌==◌, ◌&&◌, ◌||◌, not, nat_lt, pos, option_and_then, ℤ, map, negsuc, if◌then◌else◌, is_some}
use Rattle.std.specs.{List.Contains, List.list_all, Option.IfSome, Fmt.digits}
use borrow.Author.Tests.{ltb-true}
use Rattle.csicodec_tokens.specs.{declared.param.CsiParam.CsiParam, declared.param.CsiParam.TheVariants.Integer, declared.param.CsiParam.TheVariants.P}
use Rattle.csicodec_base.specs.Shapes.{Slot, Number, Byte, AnyNumber, Any, Row, sgr_rows, fits_slot, begins_with, taken, given, Color, Plane, Front, Back, Line, painted, color_shapes, underline_rows, color_of_tokens, with_space}
use Rattle.csicodec_base.specs.{declared.sgr.Sgr.Sgr, Pieces.Longest, Pieces.Piece, Pieces.IsFront, FrontBy.front_by, FrontBy.piece, FrontBy.color_by}
use Rattle.csicodec_base.specs.{FrontBy.behind_space, FrontBy.spaced_by, Attributes.action_of, Entries.blank, declared.entries.Entry.Entry}
use Rattle.csicodec_base.specs.{declared.entries.TheConstants.ENTRIES, SgrText.sgr_text}
use Rattle.csicodec_names.specs.{declared.codes.SgrCode.SgrCode, declared.color.ColorSpec.ColorSpec, Numbers.all_codes, Numbers.number_of, Numbered.with_number}
use Rattle.csicodec_names.proofs.Coded.{listed-number}

-- some token fits both
abbrev pub meets : Slot → Slot → Bool
meets (Number n) (Number m) = n == m
meets (Number n) (Byte b) = false
meets (Number n) AnyNumber = true
meets (Byte a) (Number m) = false
meets (Byte a) (Byte b) = a == b
meets (Byte a) AnyNumber = false
meets AnyNumber (Byte b) = false
meets _ _ = true

-- no tokens fit both shapes
abbrev pub apart : List Slot → List Slot → Bool
apart [] us = false
apart (s ∷ ss) [] = false
apart (s ∷ ss) (u ∷ us) = not (meets s u) || apart ss us

-- the first shape is longer, or the two are apart
abbrev pub comes_before : List Slot → List Slot → Bool
comes_before a b = nat_lt (length b) (length a) || apart a b

abbrev pub ordered : List Row → Bool
ordered [] = true
ordered (row ∷ rows) = list_all (λ (other : Row). comes_before row.shape other.shape) rows && ordered rows

pub sgr_ordered : ordered sgr_rows ≡ true
sgr_ordered = refl

pub meets-fits : (s u : Slot) (t : CsiParam) → fits_slot s t ≡ true → fits_slot u t ≡ true → meets s u ≡ true
meets-fits (Number n) (Number m) (Integer (pos k)) e f = let x : k ≡ n = eqb-true _ _ e in rw x at f
meets-fits (Number n) (Byte b) (Integer z) e f = cc
meets-fits (Byte b) (Number m) (Integer z) e f = cc
meets-fits (Byte b) (Byte d) (P c) e f = let x : c ≡ b = eqb-true _ _ e in rw x at f
meets-fits (Byte b) AnyNumber (Integer z) e f = cc
meets-fits AnyNumber (Byte b) (Integer z) e f = cc
meets-fits _ _ _ e f = cc

apart-not : (ss us : List Slot) (list : List CsiParam) → apart ss us ≡ true → begins_with ss list ≡ true → begins_with us list ≡ true → ⊥
apart-not (s ∷ ss) (u ∷ us) [] a e f = cc
apart-not (s ∷ ss) (u ∷ us) (t ∷ ts) a e f =
    let x = and_parts (fits_slot s t) (begins_with ss ts) e in
    let y = and_parts (fits_slot u t) (begins_with us ts) f in
    apart-not ss us ts (rw (meets-fits s u t x.0 y.0) at a) x.1 y.1
apart-not _ _ _ a e f = cc

contains_split : (r : Row) (rs : List Row) (x : Row) → Contains (r ∷ rs) x → (r ≡ x) ⊎ Contains rs x
contains_split r rs x (zero, l, e) = inl e
contains_split r rs x (suc k, l, e) = inr (k, omega arith, e)

pub all-contains : (q : Row → Bool) (rows : List Row) (x : Row) → list_all q rows ≡ true → Contains rows x → q x ≡ true
all-contains q rows x e h = All-contains (λ y. q y ≡ true) rows x (AllPass-from_list_all q rows e) h

-- a later row that fits too is shorter
later-shorter : (r : Row) (rs : List Row) (x : Row) (list : List CsiParam) → list_all (λ (other : Row). comes_before r.shape other.shape) rs ≡ true → Contains rs x
    → begins_with r.shape list ≡ true → begins_with x.shape list ≡ true → length x.shape < length r.shape
later-shorter r rs x list all h e f =
    elim (or_cases (nat_lt (length x.shape) (length r.shape)) (apart r.shape x.shape) (all-contains (λ (other : Row). comes_before r.shape other.shape) rs x all h)) [
      | inl short ↦ ltb-true _ _ short
      | inr none ↦ absurd (apart-not r.shape x.shape list none e f)
    ]

abbrev gives_by : List CsiParam → ℕ → Row → Option (Sgr × ℕ)
gives_by list before row = option_and_then (λ s. Some (s, length row.shape + before)) (given row.gives (taken row.shape list))

first-longest : (r : Row) (rs : List Row) (list : List CsiParam) → list_all (λ (other : Row). comes_before r.shape other.shape) rs ≡ true → begins_with r.shape list ≡ true → Longest (r ∷ rs) list r
first-longest r rs list all fit = record {
  listed = (0, omega arith, refl);
  fits = fit;
  no_longer = λ x h f. elim (contains_split r rs x h) [
    | inl same ↦ subst (λ (y : Row). length y.shape ≤ length r.shape) same (omega arith)
    | inr later ↦ omega (arith, later-shorter r rs x list all later fit f)
  ];
}

later-longest : (r : Row) (rs : List Row) (list : List CsiParam) (row : Row) → begins_with r.shape list ≡ false → Longest rs list row → Longest (r ∷ rs) list row
later-longest r rs list row unfit long = record {
  listed = Contains-append_right (r ∷ []) rs row long.listed;
  fits = long.fits;
  no_longer = λ x h f. elim (contains_split r rs x h) [
    | inl same ↦ absurd (let g = subst (λ (y : Row). begins_with y.shape list ≡ false) same unfit in cc)
    | inr later ↦ long.no_longer x later f
  ];
}

-- the longest row gives the answer
longest-gives : (rows : List Row) (list : List CsiParam) (x : Row) → ordered rows ≡ true → Longest rows list x → front_by 0 rows list ≡ gives_by list 0 x
longest-gives [] list x o long = absurd (omega (arith, long.listed.1))
longest-gives (r ∷ rs) list x o long =
    let p = and_parts (list_all (λ (other : Row). comes_before r.shape other.shape) rs) (ordered rs) o in
    elim (contains_split r rs x long.listed) [
      | inl same ↦ rw same (rw long.fits refl)
      | inr later ↦ elim (cases_Bool (begins_with r.shape list)) [
        | inl fit ↦ absurd (omega (arith, later-shorter r rs x list p.0 later fit long.fits, long.no_longer r (0, omega arith, refl) fit))
        | inr unfit ↦ rw unfit (longest-gives rs list x p.1
            (record { listed = later; fits = long.fits; no_longer = λ z h f. long.no_longer z (Contains-append_right (r ∷ []) rs z h) f }))
      ]
    ]

-- and the row that gives it is the longest
gives-longest : (rows : List Row) (list : List CsiParam) (f : Sgr × ℕ) → ordered rows ≡ true → front_by 0 rows list ≡ Some f → (row : Row) × Longest rows list row × (gives_by list 0 row ≡ Some f)
gives-longest [] list f o e = cc
gives-longest (r ∷ rs) list f o e =
    let p = and_parts (list_all (λ (other : Row). comes_before r.shape other.shape) rs) (ordered rs) o in
    elim (cases_Bool (begins_with r.shape list)) [
      | inl fit ↦ (r, first-longest r rs list p.0 fit, rw fit at e)
      | inr unfit ↦ let found = gives-longest rs list f p.1 (rw unfit at e) in (found.0, later-longest r rs list found.0 unfit found.1, found.2)
    ]

pub piece_is : (list : List CsiParam) (k : ℕ) (s : Sgr) → Piece list k s → piece list ≡ Some (s, k)
unfolding piece
piece_is list k s p =
    let size : length p.row.shape + 0 ≡ k = omega (arith, p.tokens) in longest-gives sgr_rows list p.row sgr_ordered p.longest ∙ (rw (p.gives, size) refl)

pub is_piece : (list : List CsiParam) (k : ℕ) (s : Sgr) → piece list ≡ Some (s, k) → Piece list k s
unfolding piece
is_piece list k s e =
    let found = gives-longest sgr_rows list (s, k) sgr_ordered e in
    option_and_then_some _ (given found.0.gives (taken found.0.shape list)) (s, k) found.2 (λ t gives last.
    let parts = some_pair_parts _ _ _ _ last in record { row = found.0; longest = found.1; tokens = omega (arith, parts.1); gives = gives ∙ ap Some parts.0 })

pub is_front : (list : List CsiParam) (r : Option (Sgr × ℕ)) → r ≡ piece list → IsFront list r
is_front list None e = λ k s p. (let h = piece_is list k s p in cc)
is_front list (Some f) e = is_piece list f.1 f.0 (sym e)

fits-take : (ss : List Slot) (n : ℕ) (list : List CsiParam) → length ss ≤ n → begins_with ss (take n list) ≡ begins_with ss list
fits-take [] n list l = refl
fits-take (s ∷ ss) zero list l = absurd (omega arith)
fits-take (s ∷ ss) (suc n) [] l = refl
fits-take (s ∷ ss) (suc n) (t ∷ ts) l = rw (fits-take ss n ts (omega arith)) refl

taken-take : (ss : List Slot) (n : ℕ) (list : List CsiParam) → length ss ≤ n → taken ss (take n list) ≡ taken ss list
taken-take [] n list l = refl
taken-take (s ∷ ss) zero list l = absurd (omega arith)
taken-take (s ∷ ss) (suc n) [] l = refl
taken-take (Any ∷ ss) (suc n) (t ∷ ts) l = rw (taken-take ss n ts (omega arith)) refl
taken-take (s ∷ ss) (suc n) (t ∷ ts) l = taken-take ss n ts (omega arith)

front-take : (rows : List Row) (n : ℕ) (list : List CsiParam) → list_all (λ (r : Row). nat_lt (length r.shape) (suc n)) rows ≡ true → front_by 0 rows (take n list) ≡ front_by 0 rows list
front-take [] n list h = refl
front-take (r ∷ rs) n list h =
    let p = and_parts (nat_lt (length r.shape) (suc n)) (list_all (λ (x : Row). nat_lt (length x.shape) (suc n)) rs) h in
    let l = ltb-true (length r.shape) (suc n) p.0 in rw (fits-take r.shape n list (omega arith), taken-take r.shape n list (omega arith), front-take rs n list p.1) refl

sgr_short : list_all (λ (r : Row). nat_lt (length r.shape) 14) sgr_rows ≡ true
sgr_short = refl

sgr_some : list_all (λ (r : Row). nat_lt 0 (length r.shape)) sgr_rows ≡ true
sgr_some = refl

-- no piece has more than 13 tokens
pub piece_take : (list : List CsiParam) → piece (take 13 list) ≡ piece list
unfolding piece
piece_take list = front-take sgr_rows 13 list sgr_short

pub fits-length : (ss : List Slot) (list : List CsiParam) → begins_with ss list ≡ true → length ss ≤ length list
fits-length [] list e = omega arith
fits-length (s ∷ ss) [] e = cc
fits-length (s ∷ ss) (t ∷ ts) e = omega (arith, fits-length ss ts (and_parts (fits_slot s t) _ e).1)

pub piece_within : (list : List CsiParam) (k : ℕ) (s : Sgr) → Piece list k s → (0 < k) × (k ≤ length list)
piece_within list k s p =
    let some = ltb-true 0 (length p.row.shape) (all-contains (λ (r : Row). nat_lt 0 (length r.shape)) sgr_rows p.row sgr_some p.longest.listed) in
    (omega (arith, p.tokens), omega (arith, p.tokens, fits-length p.row.shape list p.longest.fits))

pub is_near : (list : List CsiParam) (r : Option (Sgr × ℕ)) → r ≡ piece list → (other : List CsiParam) → take 13 other ≡ take 13 list → IsFront other r
is_near list r e other same = is_front other r (e ∙ sym (piece_take list) ∙ ap piece (sym same) ∙ piece_take other)

pub is_within : (list : List CsiParam) (r : Option (Sgr × ℕ)) → r ≡ piece list → IfSome r (λ f. (0 < f.1) × (f.1 ≤ length list))
is_within list None e = tt
is_within list (Some f) e = piece_within list f.1 f.0 (is_piece list f.1 f.0 (sym e))

pub first_tokens : (list : List CsiParam) (k : ℕ) (s : Sgr) → (Piece list k s → Piece (take 13 list) k s) × (Piece (take 13 list) k s → Piece list k s)
first_tokens list k s = (λ p. is_piece (take 13 list) k s (piece_take list ∙ piece_is list k s p), λ p. is_piece list k s (sym (piece_take list) ∙ piece_is (take 13 list) k s p))

pub piece_by_row : (list : List CsiParam) (k : ℕ) (s : Sgr) → (Piece list k s → piece list ≡ Some (s, k)) × (piece list ≡ Some (s, k) → Piece list k s)
piece_by_row list k s = (piece_is list k s, is_piece list k s)

-- ---- The pieces by their first token, the shapes of colours, and the texts made ready for the codes that stand alone.

abbrev pub paint : Plane → Option (ColorSpec × ℕ) → Option (Sgr × ℕ)
paint plane None = None
paint plane (Some f) = Some (painted plane f.0, f.1)

paint-given : (plane : Plane) (n : ℕ) (c : Option ColorSpec)
    → option_and_then (λ (s : Sgr). Some (s, n)) (option_and_then (λ c'. Some (painted plane c')) c) ≡ paint plane (option_and_then (λ c'. Some (c', n)) c)
paint-given plane n None = refl
paint-given plane n (Some c) = refl

paint-if : (plane : Plane) (b : Bool) (x y : Option (Sgr × ℕ)) (u v : Option (ColorSpec × ℕ)) → x ≡ paint plane u → y ≡ paint plane v
    → (if b then x else y) ≡ paint plane (if b then u else v)
paint-if plane true x y u v e f = e
paint-if plane false x y u v e f = f

color-front : (plane : Plane) (before : ℕ) (shapes : List (List Slot)) (after : List CsiParam)
    → front_by before (map (λ (s : List Slot). record { shape = s; gives = Color plane }) shapes) after ≡ paint plane (color_by before shapes after)
color-front plane before [] after = refl
color-front plane before (s ∷ ss) after =
    paint-if plane (begins_with s after) _ _ _ _ (paint-given plane (length s + before) (color_of_tokens (taken s after))) (color-front plane before ss after)

pub front_38 : (after : List CsiParam) → piece (Integer (pos 38) ∷ after) ≡ paint Front (color_by 1 color_shapes after)
unfolding piece
front_38 after = color-front Front 1 color_shapes after

pub front_48 : (after : List CsiParam) → piece (Integer (pos 48) ∷ after) ≡ paint Back (color_by 1 color_shapes after)
unfolding piece
front_48 after = color-front Back 1 color_shapes after

pub front_58 : (after : List CsiParam) → piece (Integer (pos 58) ∷ after) ≡ paint Line (color_by 1 color_shapes after)
unfolding piece
front_58 after = color-front Line 1 color_shapes after

abbrev Begins : SgrCode → List CsiParam → Option (Sgr × ℕ) → Type 0
Begins c after answer = piece (Integer (pos (number_of c)) ∷ after) ≡ answer

pub color_front : (c known : SgrCode) (plane : Plane) (after : List CsiParam) (answer : Option (ColorSpec × ℕ)) → c ≡ known → Begins known after (paint plane (color_by 1 color_shapes after))
    → answer ≡ color_by 1 color_shapes after → Begins c after (paint plane answer)
color_front c known plane after answer e h a = rw (e, a) h

pub underline_front : (c : SgrCode) (after : List CsiParam) → c ≡ SgrCode.UnderlineOn → Begins c after (front_by 1 underline_rows after)
unfolding piece
underline_front c after e = rw e refl

-- a code that has no further tokens
abbrev OneToken : SgrCode → List CsiParam → Option Sgr → Type 0
OneToken c after None = Unit {0}
OneToken c after (Some s) = piece (Integer (pos (number_of c)) ∷ after) ≡ Some (s, 1)

-- each code; those that further tokens follow first
one_token_by : (c : SgrCode) (after : List CsiParam) → OneToken c after (action_of c)
unfolding piece
one_token_by SgrCode.UnderlineOn after = tt
one_token_by SgrCode.ForegroundColor after = tt
one_token_by SgrCode.BackgroundColor after = tt
one_token_by SgrCode.UnderlineColor after = tt
one_token_by _ after = refl

pub one_token_front : (c : SgrCode) (after : List CsiParam) (s : Sgr) → action_of c ≡ Some s → piece (Integer (pos (number_of c)) ∷ after) ≡ Some (s, 1)
one_token_front c after s e = subst (OneToken c after) e (one_token_by c after)

-- each row that begins with a number begins with that of a code
abbrev codes_head : List Slot → Bool
codes_head (Number n ∷ ss) = is_some (with_number number_of all_codes (pos n))
codes_head (Byte b ∷ ss) = b == 59
codes_head _ = false

all-heads : list_all (λ (r : Row). codes_head r.shape) sgr_rows ≡ true
all-heads = refl

coded-number : (z : ℤ) (o : Option SgrCode) → with_number number_of all_codes z ≡ o → is_some o ≡ true → ((c : SgrCode) → z ≢ pos (number_of c)) → ⊥
coded-number z None e h no_code = cc
coded-number z (Some c) e h no_code = no_code c (listed-number number_of all_codes z c e)

unknown-row : (shape : List Slot) (z : ℤ) (after : List CsiParam) → codes_head shape ≡ true → ((c : SgrCode) → z ≢ pos (number_of c)) → begins_with shape (Integer z ∷ after) ≡ false
unknown-row (Number n ∷ ss) (negsuc m) after h no_code = refl
unknown-row (Number n ∷ ss) (pos m) after h no_code = elim (cases_Bool (m == n)) [
  | inl same ↦ (let e : m ≡ n = eqb-true _ _ same in absurd (coded-number (pos n) (with_number number_of all_codes (pos n)) refl h (λ c f. no_code c (ap pos e ∙ f))))
  | inr other ↦ rw other refl
]
unknown-row (Byte b ∷ ss) z after h no_code = refl
unknown-row _ z after h no_code = cc

-- a token with which no shape begins that has such a head
no-row : (rows : List Row) (t : CsiParam) (after : List CsiParam) → ((shape : List Slot) → codes_head shape ≡ true → begins_with shape (t ∷ after) ≡ false)
    → list_all (λ (r : Row). codes_head r.shape) rows ≡ true → front_by 0 rows (t ∷ after) ≡ None
no-row [] t after unfit h = refl
no-row (r ∷ rs) t after unfit h =
    let p = and_parts (codes_head r.shape) (list_all (λ (x : Row). codes_head x.shape) rs) h in rw (unfit r.shape p.0) (no-row rs t after unfit p.1)

pub unknown_number : (z : ℤ) (after : List CsiParam) → ((c : SgrCode) → z ≢ pos (number_of c)) → piece (Integer z ∷ after) ≡ None
unfolding piece
unknown_number z after no_code = no-row sgr_rows (Integer z) after (λ shape h. unknown-row shape z after h no_code) all-heads

other-byte-row : (shape : List Slot) (b : ℕ) (after : List CsiParam) → codes_head shape ≡ true → (b == 59) ≡ false → begins_with shape (P b ∷ after) ≡ false
other-byte-row (Number n ∷ ss) b after h o = refl
other-byte-row (Byte d ∷ ss) b after h o = let e : d ≡ 59 = eqb-true _ _ h in rw (e, o) refl
other-byte-row _ b after h o = cc

pub other_byte : (b : ℕ) (after : List CsiParam) → (b == 59) ≡ false → piece (P b ∷ after) ≡ None
unfolding piece
other_byte b after o = no-row sgr_rows (P b) after (λ shape h. other-byte-row shape b after h o) all-heads

pub semicolon_front : (after : List CsiParam) → piece (P 59 ∷ after) ≡ Some (Sgr.Reset, 1)
unfolding piece
semicolon_front after = refl

pub at_end : (rest : List CsiParam) → length rest < 1 → piece rest ≡ None
unfolding piece
at_end [] l = refl
at_end (t ∷ ts) l = absurd (omega arith)

-- where the first token is known by its place
pub at_first : (rest : List CsiParam) (d t : CsiParam) (answer : Option (Sgr × ℕ)) → 1 ≤ length rest → get_or rest 0 d ≡ t → piece (t ∷ drop 1 rest) ≡ answer → piece rest ≡ answer
at_first [] d t answer l e h = absurd (omega arith)
at_first (u ∷ us) d t answer l e h = rw e h

-- a colour whose space may be left out
pub spaced : (shape : List Slot) (before : ℕ) (parts : List CsiParam) → color_by before (with_space shape) parts ≡ spaced_by before shape parts (behind_space parts)
spaced shape before [] = refl
spaced shape before (P b ∷ rest) = elim (cases_Bool (b == 58)) [
  | inl is ↦ (let size : length shape + before + 1 ≡ length (Byte 58 ∷ shape) + before = omega arith in rw (is, size) refl)
  | inr not ↦ rw not refl
]
spaced shape before (Integer z ∷ []) = refl
spaced shape before (Integer z ∷ Integer y ∷ rest) = refl
spaced shape before (Integer z ∷ P b ∷ rest) = elim (cases_Bool (b == 58)) [
  | inl is ↦ (let size : length shape + before + 2 ≡ length (AnyNumber ∷ Byte 58 ∷ shape) + before = omega arith in rw (is, size) refl)
  | inr not ↦ rw not refl
]

-- where the first three are known by their places: a colon, a kind and a colon
pub behind_kind : (kind : ℕ) (shape : List Slot) (after parts : List CsiParam) (d : CsiParam) → parts ≡ drop 3 after → 3 ≤ length after
    → get_or after 0 d ≡ P 58 → get_or after 1 d ≡ Integer (pos kind) → get_or after 2 d ≡ P 58
    → color_by 1 color_shapes (P 58 ∷ Integer (pos kind) ∷ P 58 ∷ parts) ≡ color_by 4 (with_space shape) parts → color_by 1 color_shapes after ≡ spaced_by 4 shape parts (behind_space parts)
behind_kind kind shape (x ∷ y ∷ z ∷ rest) parts d p l a b c e = rw (a, b, c, ← p) (e ∙ spaced shape 4 parts)
behind_kind kind shape _ parts d p l a b c e = absurd (omega arith)

-- the text at the place of a code, and none for one that doesn't stand alone
abbrev Ready : SgrCode → Option Sgr → Type 0
Ready c None = (get_or ENTRIES (number_of c) blank).len ≡ 0
Ready c (Some s) = take ((get_or ENTRIES (number_of c) blank).len) ((get_or ENTRIES (number_of c) blank).text) ≡ 27 ∷ 91 ∷ sgr_text s

-- each code
ready : (c : SgrCode) → Ready c (action_of c)
unfolding digits
ready SgrCode.Reset = refl
ready _ = refl

-- what is ready at the place of a code
abbrev pub IsReady : ℤ → List ℕ → Type 0
IsReady number text = (s : Sgr) × ((after : List CsiParam) → IsFront (Integer number ∷ after) (Some (s, 1))) × (text ≡ 27 ∷ 91 ∷ sgr_text s)

pub is_ready : (c : SgrCode) (number : ℤ) (place len : ℕ) (text : List ℕ) →
    number ≡ pos (number_of c) → place ≡ number_of c → len ≡ (get_or ENTRIES place blank).len →
    text ≡ (get_or ENTRIES place blank).text → 0 < len
    → IsReady number (take len text)
is_ready c number place len text same at l t some = go (action_of c) refl
  where
    go : (o : Option Sgr) → action_of c ≡ o → IsReady number (take len text)
    go None e =
        let none : (get_or ENTRIES (number_of c) blank).len ≡ 0 = (rw e at (ready c)) in
        absurd (omega (arith, some, l, ap (λ (n : ℕ). (get_or ENTRIES n blank).len) at, none))
    go (Some s) e =
        let is : take ((get_or ENTRIES (number_of c) blank).len) ((get_or ENTRIES (number_of c) blank).text) ≡ 27 ∷ 91 ∷ sgr_text s = (rw e at (ready c)) in
        (s, λ after. rw same (is_front (Integer (pos (number_of c)) ∷ after) (Some (s, 1)) (sym (one_token_front c after s e))), rw (l, t, at) is)

short_within : (rows : List Entry) → list_all (λ (r : Entry). leb r.len 8) rows ≡ true → (place : ℕ) → (get_or rows place blank).len ≤ 8
short_within [] e place = omega arith
short_within (r ∷ rs) e zero = leb-true r.len 8 (and_parts (leb r.len 8) (list_all (λ (x : Entry). leb x.len 8) rs) e).0
short_within (r ∷ rs) e (suc place) = short_within rs (and_parts (leb r.len 8) (list_all (λ (x : Entry). leb x.len 8) rs) e).1 place

-- a text that is ready has a place of 8 bytes
pub short : (place : ℕ) → (get_or ENTRIES place blank).len ≤ 8
short place = short_within ENTRIES refl place
