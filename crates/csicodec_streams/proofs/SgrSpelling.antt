-- Attributes: what the pieces of a list before `m` give, and the list that each is written as.
use Rattle.std.proofs.Common.{ℕ, ◌≡◌, ◌<◌, List, [], ◌∷◌, arith, rules, Some, subst, ltb-true, pos, negsuc, zero, suc, ◌≤◌, ◌+◌, ◌-◌, take, ◌++◌, Bool, true, false, length, refl, ◌∙◌, append_assoc, append-nil, inl, inr, lt-ltb, le-ltb, le-leb, eqb-true, ◌==◌, encode_utf8, slice_get}
use Rattle.std.proofs.{lemmas.List.Elements.All-from_recursion, lemmas.Option.option_and_then_some, lemmas.Option.cond_some, lemmas.Option.same_Some}
use Rattle.std.specs.Fmt.{decimal, digits}
use Rattle.csicodec_tokens.specs.{declared.param.CsiParam.TheVariants.Integer, Digits.largest, Param.spells}
use Rattle.csicodec_base.specs.Shapes.{sgr_rows, Row, Gives, Always, Color, Plane, Front, painted, given, taken, byte_of, bytes_of, color_of, color_of_tokens, Back, Line}
use Rattle.csicodec_base.specs.{Pieces.Piece, FrontBy.piece, SgrText.palette_text, SgrText.true_color_text}
use Rattle.csicodec_names.specs.{declared.color.ColorSpec.ColorSpec, declared.color.Intensity.TheVariants.Normal, declared.color.Intensity.TheVariants.Bold}
use Rattle.csicodec_names.specs.{declared.color.Intensity.TheVariants.Half, declared.color.ColorSpec.TheVariants.PaletteIndex}
use Rattle.csicodec_names.specs.{declared.color.ColorSpec.TheVariants.TrueColor, declared.color.SrgbaTuple.SrgbaTuple}
use Rattle.csicodec_parser.specs.{Canonical.IsCanonicalSgr, Groups.is_byte, declared.group.Group.TheVariants.Styles}
use Rattle.csicodec_actions.specs.Ranges.{ColorInRange, SgrInRange}
use Rattle.csicodec_base.proofs.Table.{is_piece}
use Rattle.csicodec_parser.proofs.Fronts.{style-list}
use Rattle.csicodec_streams.proofs.Common.{All-contains, cases_Bool, cases_lt, encode_ascii, AllByRecursion, CsiParam, P, Spellable, has_odd, Sgr, text}
use Rattle.csicodec_streams.proofs.Kept.{Spelling, number-spellable, colon-spellable, cut-one, stuck-empty}
use Rattle.csicodec_base.specs.declared.sgr.Sgr as sgr_type
use Rattle.csicodec_base.specs.declared.sgr.Sgr.TheVariants as sgr
use Rattle.csicodec_base.specs.declared.sgr.Font.TheVariants as font
use Rattle.csicodec_names.specs.declared.color.Underline.TheVariants as underline
use Rattle.csicodec_names.specs.declared.color.Blink.TheVariants as blink
use Rattle.csicodec_names.specs.declared.color.VerticalAlign.TheVariants as align
use Rattle.csicodec_names.specs.declared.color.ColorSpec.TheVariants as color

pub record KeptSgr (s : sgr_type.Sgr) : Type 0 where
  pub range : SgrInRange s
  pub canonical : IsCanonicalSgr s

-- ---- all rows

abbrev GivesKept : Gives → Type 0
GivesKept (Always s) = SgrInRange s × IsCanonicalSgr s
GivesKept (Color plane) = Unit {0}

abbrev RowKept : Row → Type 0
RowKept row = GivesKept row.gives

rows_kept : AllByRecursion RowKept sgr_rows
rows_kept = search rules

-- ---- the parts of a colour

byte-fits : (t : CsiParam) (b : ℕ) → byte_of t ≡ Some b → b < 256
byte-fits (Integer (pos n)) b e =
    let p = cond_some _ _ _ e in
    omega (arith, p.1, ltb-true n 256 p.0)
byte-fits (Integer (negsuc n)) b e = cc
byte-fits (P c) b e = cc

abbrev AreBytes : List ℕ → Type 0
AreBytes bs = AllByRecursion (λ b. b < 256) bs

bytes-fit : (ts : List CsiParam) (bs : List ℕ) → bytes_of ts ≡ Some bs → AreBytes bs
bytes-fit [] bs e = subst AreBytes (same_Some _ _ e) tt
bytes-fit (t ∷ ts) bs e =
    option_and_then_some _ (byte_of t) bs e (λ b first more.
    option_and_then_some _ (bytes_of ts) bs more (λ others rest last.
    subst AreBytes (same_Some _ _ last) (byte-fits t b first, bytes-fit ts others rest)))

color-fits : (bs : List ℕ) (c : ColorSpec) → AreBytes bs → color_of bs ≡ Some c → ColorInRange c
color-fits (i ∷ []) c all e = subst ColorInRange (same_Some _ _ e) all.0
color-fits (r ∷ g ∷ b ∷ []) c all e = subst ColorInRange (same_Some _ _ e) (all.0, all.1.0, all.1.1.0, omega arith)
color-fits (r ∷ g ∷ b ∷ a ∷ []) c all e = subst ColorInRange (same_Some _ _ e) (all.0, all.1.0, all.1.1.0, all.1.1.1.0)
color-fits (r ∷ g ∷ b ∷ a ∷ x ∷ more) c all e = cc
color-fits _ c all e = cc

-- ---- what a row gives

painted-kept : (plane : Plane) (c : ColorSpec) → ColorInRange c → KeptSgr (painted plane c)
painted-kept Front c fits = record { range = fits; canonical = tt }
painted-kept _ c fits = record { range = fits; canonical = tt }

given-kept : (gives : Gives) (ts : List CsiParam) (s : sgr_type.Sgr) → GivesKept gives → given gives ts ≡ Some s → KeptSgr s
given-kept (Always x) ts s kept e = subst KeptSgr (same_Some _ _ e) (record { range = kept.0; canonical = kept.1 })
given-kept (Color plane) ts s kept e =
    option_and_then_some _ (color_of_tokens ts) s e (λ c spelled last.
    option_and_then_some _ (bytes_of ts) c spelled (λ bs some color.
    subst KeptSgr (same_Some _ _ last) (painted-kept plane c (color-fits bs c (bytes-fit ts bs some) color))))

pub sgr-kept : (rest : List CsiParam) (k : ℕ) (s : sgr_type.Sgr) → Piece rest k s → KeptSgr s
sgr-kept rest k s p =
    let kept = All-contains RowKept sgr_rows p.row (All-from_recursion RowKept sgr_rows rows_kept) p.longest.listed in
    given-kept p.row.gives (taken p.row.shape rest) s kept p.gives

-- ---- Each attribute that is in range and canonical is written as a list before `m` that is one piece.

-- ---- a list that is one piece

style : (flag : Bool) (s : sgr_type.Sgr) (t : CsiParam) (ts : List CsiParam) → text (Sgr s) ≡ 27 ∷ 91 ∷ (spells (t ∷ ts) ++ 109 ∷ [])
    → Spellable (t ∷ ts) → has_odd Styles (t ∷ ts) ≡ false → piece (t ∷ ts) ≡ Some (s, length (t ∷ ts))
    → is_byte 59 (slice_get (t ∷ ts) (length (t ∷ ts) - 1)) ≡ false → Spelling flag (Sgr s)
style flag s t ts written spellable plain whole last = record {
  list = t ∷ ts;
  final = 109;
  written = written;
  spellable = spellable;
  ends = (omega arith, omega arith);
  read = rw (style-list (t ∷ ts) plain, plain) (record {
    pieces = Sgr s ∷ [];
    rest = [];
    cut = cut-one Styles (t ∷ ts) (Sgr s) (s, is_piece (t ∷ ts) (length (t ∷ ts)) s whole, refl);
    stuck = stuck-empty Styles;
    all = refl;
  });
  closed = λ known. rw (style-list (t ∷ ts) plain) last;
}

-- a single code
single : (flag : Bool) (s : sgr_type.Sgr) (n : ℕ) → text (Sgr s) ≡ 27 ∷ 91 ∷ (decimal n ++ 109 ∷ []) → n ≤ largest → piece (Integer (pos n) ∷ []) ≡ Some (s, 1)
    → Spelling flag (Sgr s)
single flag s n written fits whole = style flag s (Integer (pos n)) [] (written ∙ rw append-nil refl) (number-spellable n fits, tt, tt) refl whole refl

-- ---- the texts of what stands in a colour

decimals : (decimal 2 ≡ 50 ∷ []) × (decimal 4 ≡ 52 ∷ []) × (decimal 5 ≡ 53 ∷ []) × (decimal 6 ≡ 54 ∷ [])
unfolding digits
decimals = (refl, refl, refl, refl)

text-58 : encode_utf8 58 ≡ 58 ∷ []
text-58 = encode_ascii 58 (omega arith)

-- a code, a colon and a kind of line
lined : (flag : Bool) (s : sgr_type.Sgr) (d : ℕ) → text (Sgr s) ≡ 27 ∷ 91 ∷ (52 ∷ 58 ∷ (decimal d ++ 109 ∷ [])) → d ≤ largest
    → piece (Integer (pos 4) ∷ P 58 ∷ Integer (pos d) ∷ []) ≡ Some (s, 3) → Spelling flag (Sgr s)
lined flag s d e fits whole =
    style flag s (Integer (pos 4)) (P 58 ∷ Integer (pos d) ∷ []) (e ∙ simp (decimals.1, text-58, append_assoc, append-nil))
    (search (rules, number-spellable, colon-spellable))
    refl
    whole
    refl

-- ---- what holds of numbers in a row

abbrev EachFrom : (ℕ → Type 0) → ℕ → ℕ → Type 0
EachFrom Q from zero = Unit {0}
EachFrom Q from (suc k) = Q from × EachFrom Q (from + 1) k

each-from : (Q : ℕ → Type 0) (from k n : ℕ) → EachFrom Q from k → from ≤ n → n < from + k → Q n
each-from Q from zero n all low high = absurd (omega arith)
each-from Q from (suc k) n all low high = elim (cases_lt from n) [
  | inl later ↦ each-from Q (from + 1) k n all.1 (omega arith) (omega arith)
  | inr here ↦ let same : from ≡ n = omega arith in subst Q same all.0
]

-- ---- colours

-- the code of a plane's colours
abbrev code_of : Plane → ℕ
code_of Front = 38
code_of Back = 48
code_of Line = 58

palette-piece : (p : Plane) (i : ℕ) → i < 256
    → piece (Integer (pos (code_of p)) ∷ P 58 ∷ Integer (pos 5) ∷ P 58 ∷ Integer (pos i) ∷ []) ≡ Some (painted p (PaletteIndex i), 5)
unfolding piece
palette-piece Front i fits = rw (lt-ltb i 256 fits) refl
palette-piece _ i fits = rw (lt-ltb i 256 fits) refl

rgb-piece : (p : Plane) (r g b : ℕ) → r < 256 → g < 256 → b < 256
    → piece (Integer (pos (code_of p)) ∷ P 58 ∷ Integer (pos 2) ∷ P 58 ∷ P 58 ∷ Integer (pos r) ∷ P 58 ∷ Integer (pos g) ∷ P 58 ∷ Integer (pos b) ∷ [])
    ≡ Some (painted p (TrueColor (record { 0 = r; 1 = g; 2 = b; 3 = 255 })), 10)
unfolding piece
rgb-piece Front r g b fr fg fb = rw (lt-ltb r 256 fr, lt-ltb g 256 fg, lt-ltb b 256 fb) refl
rgb-piece _ r g b fr fg fb = rw (lt-ltb r 256 fr, lt-ltb g 256 fg, lt-ltb b 256 fb) refl

rgba-piece : (p : Plane) (r g b a : ℕ) → r < 256 → g < 256 → b < 256 → a < 256
    → piece (Integer (pos (code_of p)) ∷ P 58 ∷ Integer (pos 6) ∷ P 58 ∷ P 58 ∷ Integer (pos r) ∷ P 58 ∷ Integer (pos g) ∷ P 58 ∷ Integer (pos b) ∷ P 58 ∷ Integer (pos a) ∷ [])
    ≡ Some (painted p (TrueColor (record { 0 = r; 1 = g; 2 = b; 3 = a })), 12)
unfolding piece
rgba-piece Front r g b a fr fg fb fa = rw (lt-ltb r 256 fr, lt-ltb g 256 fg, lt-ltb b 256 fb, lt-ltb a 256 fa) refl
rgba-piece _ r g b a fr fg fb fa = rw (lt-ltb r 256 fr, lt-ltb g 256 fg, lt-ltb b 256 fb, lt-ltb a 256 fa) refl

-- a place in the palette by its number
palette-spelling : (flag : Bool) (p : Plane) (i : ℕ) → i < 256 → text (Sgr (painted p (PaletteIndex i))) ≡ 27 ∷ 91 ∷ (decimal (code_of p) ++ (58 ∷ 53 ∷ 58 ∷ (decimal i ++ 109 ∷ [])))
    → code_of p < 256 → Spelling flag (Sgr (painted p (PaletteIndex i)))
palette-spelling flag p i fits e small =
    style flag (painted p (PaletteIndex i)) (Integer (pos (code_of p))) (P 58 ∷ Integer (pos 5) ∷ P 58 ∷ Integer (pos i) ∷ [])
    (e ∙ simp (decimals.2, text-58, append_assoc, append-nil))
    (search (rules, number-spellable, colon-spellable))
    refl
    (palette-piece p i fits)
    refl

true_color-spelling : (flag : Bool) (p : Plane) (c : SrgbaTuple) → ColorInRange (TrueColor c) → text (Sgr (painted p (TrueColor c))) ≡ 27 ∷ 91 ∷ true_color_text (code_of p) c
    → code_of p < 256 → Spelling flag (Sgr (painted p (TrueColor c)))
true_color-spelling flag p c fits e small = elim (cases_Bool (c.3 == 255)) [
  | inl opaque ↦
      let full : c.3 ≡ 255 = eqb-true _ _ opaque in
      style flag (painted p (TrueColor c)) (Integer (pos (code_of p)))
      (P 58 ∷ Integer (pos 2) ∷ P 58 ∷ P 58 ∷ Integer (pos c.0) ∷ P 58 ∷ Integer (pos c.1) ∷ P 58 ∷ Integer (pos c.2) ∷ [])
      (e ∙ rw opaque (simp (decimals.0, text-58, append_assoc, append-nil)))
      (search (rules, number-spellable, colon-spellable))
      refl
      (rgb-piece p c.0 c.1 c.2 fits.0 fits.1 fits.2 ∙ rw (← full) refl)
      refl
  | inr clear ↦
      style flag (painted p (TrueColor c)) (Integer (pos (code_of p)))
      (P 58 ∷ Integer (pos 6) ∷ P 58 ∷ P 58 ∷ Integer (pos c.0) ∷ P 58 ∷ Integer (pos c.1) ∷ P 58 ∷ Integer (pos c.2) ∷ P 58 ∷ Integer (pos c.3) ∷ [])
      (e ∙ rw clear (simp (decimals.3, text-58, append_assoc, append-nil)))
      (search (rules, number-spellable, colon-spellable))
      refl
      (rgba-piece p c.0 c.1 c.2 c.3 fits.0 fits.1 fits.2 fits.3)
      refl
]

-- the code alone gives the place in the palette
abbrev HasCode : Plane → ℕ → ℕ → Type 0
HasCode p code i = piece (Integer (pos code) ∷ []) ≡ Some (painted p (PaletteIndex i), 1)

-- the first 8 places and the 8 bright ones have codes of their own, for a plane whose code of black is `first`
record HasCodes (p : Plane) (first : ℕ) : Type 0 where
  dark : EachFrom (λ i. HasCode p (i + first) i) 0 8
  bright : EachFrom (λ i. HasCode p (i + first + 52) i) 8 8
  named : code_of p ≡ first + 8
  small : first < 100

front-codes : HasCodes Front 30
unfolding piece
front-codes = record { dark = search rules; bright = search rules; named = refl; small = omega arith }

back-codes : HasCodes Back 40
unfolding piece
back-codes = record { dark = search rules; bright = search rules; named = refl; small = omega arith }

ground-spelling : (flag : Bool) (p : Plane) (first i : ℕ) → HasCodes p first → i < 256 → text (Sgr (painted p (PaletteIndex i))) ≡ 27 ∷ 91 ∷ palette_text first i
    → Spelling flag (Sgr (painted p (PaletteIndex i)))
ground-spelling flag p first i codes fits e = elim (cases_lt i 8) [
  | inl dark ↦
      single flag _ (i + first) (e ∙ rw (lt-ltb i 8 dark) refl) (omega (arith, codes.small))
      (each-from (λ n. HasCode p (n + first) n) 0 8 i codes.dark (omega arith) dark)
  | inr other ↦ elim (cases_lt i 16) [
    | inl bright ↦
        single flag _ (i + first + 52) (e ∙ rw (le-ltb i 8 other, lt-ltb i 16 bright) refl) (omega (arith, codes.small))
        (each-from (λ n. HasCode p (n + first + 52) n) 8 8 i codes.bright other bright)
    | inr high ↦
        palette-spelling flag p i fits (e ∙ rw (le-ltb i 8 other, le-ltb i 16 high, codes.named) refl) (omega (arith, codes.small, codes.named))
  ]
]

-- ---- fonts

font-codes : EachFrom (λ n. piece (Integer (pos (n + 10)) ∷ []) ≡ Some (sgr.Font (font.Alternate n), 1)) 1 9
unfolding piece
font-codes = search rules

font-spelling : (flag : Bool) (n : ℕ) → 0 < n → n < 10 → Spelling flag (Sgr (sgr.Font (font.Alternate n)))
font-spelling flag n low high =
    single flag _ (n + 10) (rw (le-leb 1 n low, le-leb n 9 (omega arith)) refl) (omega arith)
    (each-from (λ i. piece (Integer (pos (i + 10)) ∷ []) ≡ Some (sgr.Font (font.Alternate i), 1)) 1 9 n font-codes (omega arith) (omega arith))

-- ---- all attributes, a line for each variant

pub sgr-spelling : (flag : Bool) (s : sgr_type.Sgr) → SgrInRange s → IsCanonicalSgr s → Spelling flag (Sgr s)
unfolding digits piece
sgr-spelling flag sgr.Reset fits ok = single flag _ 0 refl (omega arith) refl
sgr-spelling flag (sgr.Intensity Normal) fits ok = single flag _ 22 refl (omega arith) refl
sgr-spelling flag (sgr.Intensity Bold) fits ok = single flag _ 1 refl (omega arith) refl
sgr-spelling flag (sgr.Intensity Half) fits ok = single flag _ 2 refl (omega arith) refl
sgr-spelling flag (sgr.Underline underline.None) fits ok = single flag _ 24 refl (omega arith) refl
sgr-spelling flag (sgr.Underline underline.Single) fits ok = single flag _ 4 refl (omega arith) refl
sgr-spelling flag (sgr.Underline underline.Double) fits ok = single flag _ 21 refl (omega arith) refl
sgr-spelling flag (sgr.Underline underline.Curly) fits ok = lined flag _ 3 refl (omega arith) refl
sgr-spelling flag (sgr.Underline underline.Dotted) fits ok = lined flag _ 4 refl (omega arith) refl
sgr-spelling flag (sgr.Underline underline.Dashed) fits ok = lined flag _ 5 refl (omega arith) refl
sgr-spelling flag (sgr.UnderlineColor color.Default) fits ok = single flag _ 59 refl (omega arith) refl
sgr-spelling flag (sgr.UnderlineColor (PaletteIndex i)) fits ok = palette-spelling flag Line i fits refl (omega arith)
sgr-spelling flag (sgr.UnderlineColor (TrueColor c)) fits ok = true_color-spelling flag Line c fits refl (omega arith)
sgr-spelling flag (sgr.Blink blink.None) fits ok = single flag _ 25 refl (omega arith) refl
sgr-spelling flag (sgr.Blink blink.Slow) fits ok = single flag _ 5 refl (omega arith) refl
sgr-spelling flag (sgr.Blink blink.Rapid) fits ok = single flag _ 6 refl (omega arith) refl
sgr-spelling flag (sgr.Italic true) fits ok = single flag _ 3 refl (omega arith) refl
sgr-spelling flag (sgr.Italic false) fits ok = single flag _ 23 refl (omega arith) refl
sgr-spelling flag (sgr.Inverse true) fits ok = single flag _ 7 refl (omega arith) refl
sgr-spelling flag (sgr.Inverse false) fits ok = single flag _ 27 refl (omega arith) refl
sgr-spelling flag (sgr.Invisible true) fits ok = single flag _ 8 refl (omega arith) refl
sgr-spelling flag (sgr.Invisible false) fits ok = single flag _ 28 refl (omega arith) refl
sgr-spelling flag (sgr.StrikeThrough true) fits ok = single flag _ 9 refl (omega arith) refl
sgr-spelling flag (sgr.StrikeThrough false) fits ok = single flag _ 29 refl (omega arith) refl
sgr-spelling flag (sgr.Font font.Default) fits ok = single flag _ 10 refl (omega arith) refl
sgr-spelling flag (sgr.Font (font.Alternate n)) fits ok = font-spelling flag n ok.0 ok.1
sgr-spelling flag (sgr.Foreground color.Default) fits ok = single flag _ 39 refl (omega arith) refl
sgr-spelling flag (sgr.Foreground (PaletteIndex i)) fits ok = ground-spelling flag Front 30 i front-codes fits refl
sgr-spelling flag (sgr.Foreground (TrueColor c)) fits ok = true_color-spelling flag Front c fits refl (omega arith)
sgr-spelling flag (sgr.Background color.Default) fits ok = single flag _ 49 refl (omega arith) refl
sgr-spelling flag (sgr.Background (PaletteIndex i)) fits ok = ground-spelling flag Back 40 i back-codes fits refl
sgr-spelling flag (sgr.Background (TrueColor c)) fits ok = true_color-spelling flag Back c fits refl (omega arith)
sgr-spelling flag (sgr.Overline true) fits ok = single flag _ 53 refl (omega arith) refl
sgr-spelling flag (sgr.Overline false) fits ok = single flag _ 55 refl (omega arith) refl
sgr-spelling flag (sgr.VerticalAlign align.BaseLine) fits ok = single flag _ 75 refl (omega arith) refl
sgr-spelling flag (sgr.VerticalAlign align.SuperScript) fits ok = single flag _ 73 refl (omega arith) refl
sgr-spelling flag (sgr.VerticalAlign align.SubScript) fits ok = single flag _ 74 refl (omega arith) refl
