-- Colours with semicolons are read as the attributes that their normal forms are.
use Rattle.std.proofs.Common.{◌≡◌, ℕ, zero, suc, ◌≤◌, ◌<◌, ◌+◌, ◌*◌, ◌-◌, ◌/◌, ◌%◌, pos, Bool, cond, w8, List, [], ◌∷◌, ◌++◌, false, Some, eqb, get_or, length, map, take, drop, refl, sym, ap, subst, ◌∙◌, append_assoc, append-nil, length-append, arith, rules, lt-ltb, ne_eqb, take-take, take_all, Option, None, replicate}
use Rattle.std.proofs.{lemmas.Fmt.decimal_digit, lemmas.Fmt.digits_decimal, lemmas.Fmt.length-decimal-le, Math.Seq.take-append-add, Math.Seq.take-append_seam}
use Rattle.std.proofs.{lemmas.Int.ints, lemmas.Simd.tops_compared, lemmas.List.map-append, lemmas.List.take-map}
use Rattle.std.specs.{Fmt.decimal, Simd.Lanes.sel_l, Simd.Lanes.top, Simd.Lanes.zip2}
use Rattle.csicodec_tokens.specs.{declared.param.CsiParam.CsiParam, declared.param.CsiParam.TheVariants.Integer, declared.param.CsiParam.TheVariants.P}
use Rattle.csicodec_tokens.specs.{Digits.AreDigits, Sequence.IsSpellable, Sequence.Reads, Sequence.Spellable, Sequence.Spells, Param.spells}
use Rattle.csicodec_tokens.proofs.{Decimal.three_digits, Decimal.two_digits, Printed.printed}
use Rattle.csicodec_names.specs.{declared.color.ColorSpec.ColorSpec, declared.color.ColorSpec.TheVariants.Default}
use Rattle.csicodec_names.specs.{declared.color.ColorSpec.TheVariants.PaletteIndex, declared.color.ColorSpec.TheVariants.TrueColor}
use Rattle.csicodec_names.specs.{declared.color.SrgbaTuple.SrgbaTuple}
use Rattle.csicodec_base.specs.{FrontBy.piece, Shapes.Back, Shapes.Front, Shapes.Line, Shapes.Plane, Shapes.painted, SgrText.sgr_text}
use Rattle.csicodec_actions.specs.Actions.{Action, Sgr}
use Rattle.csicodec_parser.proofs.Cuts.{actions_are}
use Rattle.csicodec_parser.specs.{Private.Steps.actions, Segments.Actions}
use Rattle.csicodec_streams.proofs.OneReading.{seq_of, read_known, read_one, slice_from, own}
use Rattle.csicodec_streams.specs.{Colors.IsColored, Colors.IsOpaque, Colors.color_list, Colors.plane_byte, Known.IsNormal, Private.Steps.IsColor}
use Rattle.csicodec_streams.specs.{Private.Steps.IsPainted, Private.Steps.IsPart, Private.Steps.color_tokens, Private.Steps.styles, Private.Steps.with_colon}
use Rattle.csicodec_base.specs.declared.sgr.Sgr as sgr_type

-- ---- parts

pub part_one : (bytes rest : List ℕ) (a : ℕ) → a < 10 → bytes ≡ (48 + a) ∷ rest → IsPart bytes a rest
part_one bytes rest a fa e = (e ∙ ap (λ (l : List ℕ). l ++ rest) (sym (decimal_digit a fa)), omega (arith, fa))

pub part_two : (bytes mid rest : List ℕ) (a b n : ℕ) → 0 < a → a < 10 → b < 10 → bytes ≡ (48 + a) ∷ mid → mid ≡ (48 + b) ∷ rest
    → n ≡ 10 * a + b → IsPart bytes n rest
part_two bytes mid rest a b n some fa fb e f is =
    let tens : a ≡ n / 10 = omega (arith, is, fa, fb) in
    let ones : b ≡ n % 10 = omega (arith, is, fa, fb) in
    let same : (48 + a) ∷ (48 + b) ∷ [] ≡ decimal n =
    rw (tens, ones) (sym (two_digits n (omega (arith, is, some)) (omega (arith, is, fa, fb)))) in
    (e ∙ ap (λ (l : List ℕ). (48 + a) ∷ l) f ∙ ap (λ (l : List ℕ). l ++ rest) same, omega (arith, is, fa, fb))

pub part_three : (bytes mid last rest : List ℕ) (a b c n : ℕ) → 0 < a → a < 10 → b < 10 → c < 10 → bytes ≡ (48 + a) ∷ mid
    → mid ≡ (48 + b) ∷ last → last ≡ (48 + c) ∷ rest
    → n ≡ 100 * a + 10 * b + c → n < 256 → IsPart bytes n rest
part_three bytes mid last rest a b c n some fa fb fc e f g is fits =
    let hundreds : a ≡ n / 100 = omega (arith, is, fa, fb, fc) in
    let tens : b ≡ n / 10 % 10 = omega (arith, is, fa, fb, fc) in
    let ones : c ≡ n % 10 = omega (arith, is, fa, fb, fc) in
    let same : (48 + a) ∷ (48 + b) ∷ (48 + c) ∷ [] ≡ decimal n =
    rw (hundreds, tens, ones) (sym (three_digits n (omega (arith, is, some)) (omega (arith, fits)))) in
    (e ∙ ap (λ (l : List ℕ). (48 + a) ∷ l) (f ∙ ap (λ (l : List ℕ). (48 + b) ∷ l) g) ∙ ap (λ (l : List ℕ). l ++ rest) same, fits)

part_short : (n : ℕ) → n < 256 → length (decimal n) ≤ 3
part_short n fits = length-decimal-le 3 n (omega arith) (omega (arith, fits)) (omega (arith, fits))

-- ---- colours

pub palette_color : (bytes parts rest : List ℕ) (i : ℕ) → bytes ≡ 53 ∷ 59 ∷ parts → IsPart parts i rest → IsColor bytes (PaletteIndex i) rest
palette_color bytes parts rest i begins (first, fits) = (fits, begins ∙ ap (λ (l : List ℕ). 53 ∷ 59 ∷ l) first)

-- three parts, and what is behind them
parts_joined : (x y z more : List ℕ) → (x ++ 59 ∷ (y ++ 59 ∷ z)) ++ more ≡ x ++ 59 ∷ (y ++ 59 ∷ (z ++ more))
parts_joined x y z more = append_assoc x (59 ∷ (y ++ 59 ∷ z)) more ∙ ap (λ (l : List ℕ). x ++ 59 ∷ l) (append_assoc y (59 ∷ z) more)

pub true_color : (bytes first second third p q rest : List ℕ) (r g b : ℕ) → bytes ≡ 50 ∷ 59 ∷ first → IsPart first r p → p ≡ 59 ∷ second → IsPart second g q → q ≡ 59 ∷ third → IsPart third b rest
    → IsColor bytes (TrueColor (record { 0 = r; 1 = g; 2 = b; 3 = 255 })) rest
true_color bytes first second third p q rest r g b begins (red, fits) then (green, within) next (blue, inside) =
    let behind : second ≡ decimal g ++ 59 ∷ (decimal b ++ rest) = green
    ∙ ap (λ (l : List ℕ). decimal g ++ l) (next ∙ ap (λ (l : List ℕ). 59 ∷ l) blue) in
    let all : first ≡ decimal r ++ 59 ∷ (decimal g ++ 59 ∷ (decimal b ++ rest)) = red
    ∙ ap (λ (l : List ℕ). decimal r ++ l) (then ∙ ap (λ (l : List ℕ). 59 ∷ l) behind) in (
      (fits, within, inside, refl),
      begins ∙ ap (λ (l : List ℕ). 50 ∷ 59 ∷ l)
          (all ∙ sym (parts_joined (decimal r) (decimal g) (decimal b) rest)),
    )

-- ---- sequences

-- the code of a plane's colours
abbrev pub code_of : Plane → ℕ
code_of Front = 38
code_of Back = 48
code_of Line = 58

-- the list of a colour before `m`
abbrev pub listed : Plane → ColorSpec → List CsiParam
listed plane color = Integer (pos (code_of plane)) ∷ P 59 ∷ color_tokens color

number_spellable : (n : ℕ) → n < 256 → IsSpellable (Integer (pos n))
number_spellable n fits = (omega (arith, ints), omega (arith, ints, fits))

mark_spellable : IsSpellable (P 59)
mark_spellable = ((omega arith, omega arith), λ digit. omega (arith, digit))

code_spellable : (plane : Plane) → IsSpellable (Integer (pos (code_of plane)))
code_spellable plane = number_spellable (code_of plane) (elim plane as (λ p. code_of p < 256) [ Front ↦ omega arith | _ ↦ omega arith ])

pub listed_spellable : (plane : Plane) (color : ColorSpec) → IsOpaque color → Spellable (listed plane color)
listed_spellable plane Default o = absurd o
listed_spellable plane (PaletteIndex i) fits = search (rules, code_spellable, number_spellable, mark_spellable)
listed_spellable plane (TrueColor c) (red, green, blue, opaque) = search (rules, code_spellable, number_spellable, mark_spellable)

-- it is one piece, whatever follows behind a `;`
color_piece : (plane : Plane) (color : ColorSpec) (more : List CsiParam) → IsOpaque color
    → let one : Option (sgr_type.Sgr × ℕ) = Some (painted plane color, 2 + length (color_tokens color)) in
    (piece (listed plane color) ≡ one) × (piece (listed plane color ++ P 59 ∷ more) ≡ one)
unfolding piece
color_piece plane Default more o = absurd o
color_piece Front (PaletteIndex i) more fits = rw (lt-ltb i 256 fits) (refl, refl)
color_piece _ (PaletteIndex i) more fits = rw (lt-ltb i 256 fits) (refl, refl)
color_piece Front (TrueColor c) more (red, green, blue, opaque) = rw (lt-ltb c.0 256 red, lt-ltb c.1 256 green, lt-ltb c.2 256 blue) (rw (← opaque) (refl, refl))
color_piece _ (TrueColor c) more (red, green, blue, opaque) = rw (lt-ltb c.0 256 red, lt-ltb c.1 256 green, lt-ltb c.2 256 blue) (rw (← opaque) (refl, refl))

code_text : (plane : Plane) → decimal (code_of plane) ≡ plane_byte plane ∷ 56 ∷ []
code_text Front = two_digits 38 (omega arith) (omega arith)
code_text Back = two_digits 48 (omega arith) (omega arith)
code_text Line = two_digits 58 (omega arith) (omega arith)

color_printed : (color : ColorSpec) → IsOpaque color → spells (color_tokens color) ≡ color_list color
unfolding lib.Utf8.encode
color_printed Default o = refl
color_printed (PaletteIndex i) o = ap (λ (l : List ℕ). l ++ 59 ∷ (decimal i ++ [])) (decimal_digit 5 (omega arith))
    ∙ ap (λ (l : List ℕ). 53 ∷ 59 ∷ l) (append-nil (decimal i))
color_printed (TrueColor c) o = ap (λ (l : List ℕ). l ++ 59 ∷ (decimal c.0 ++ 59 ∷ (decimal c.1 ++ 59 ∷ (decimal c.2 ++ [])))) (decimal_digit 2 (omega arith))
    ∙ ap (λ (l : List ℕ). 50 ∷ 59 ∷ (decimal c.0 ++ 59 ∷ (decimal c.1 ++ 59 ∷ l))) (append-nil (decimal c.2))

-- what stands between `ESC [` and `m`
pub listed_spelled : (plane : Plane) (color : ColorSpec) → IsOpaque color
    → Spells (plane_byte plane ∷ 56 ∷ 59 ∷ color_list color) (listed plane color)
unfolding lib.Utf8.encode
listed_spelled plane color o = subst (λ (t : List ℕ). Spells t (listed plane color))
    (ap (λ (l : List ℕ). l ++ 59 ∷ spells (color_tokens color)) (code_text plane) ∙ ap (λ (l : List ℕ). plane_byte plane ∷ 56 ∷ 59 ∷ l) (color_printed color o))
    (printed (listed plane color) (listed_spellable plane color o))

color_actions : (plane : Plane) (color : ColorSpec) (flag : Bool) → IsOpaque color → actions (listed plane color) flag 109 ≡ Sgr (painted plane color) ∷ []
color_actions plane Default flag o = absurd o
color_actions plane (PaletteIndex i) flag o = rw (color_piece plane (PaletteIndex i) [] o).0 refl
color_actions plane (TrueColor c) flag o = rw (color_piece plane (TrueColor c) [] o).0 refl

pub colors_mean : (plane : Plane) (color : ColorSpec) (flag : Bool) → IsOpaque color
    → Actions (listed plane color) flag 109 (Sgr (painted plane color) ∷ [])
colors_mean plane color flag o = subst (λ (xs : List Action). Actions (listed plane color) flag 109 xs) (color_actions plane color flag o)
    (actions_are (listed plane color) flag 109)

abbrev pub GivesStyles : List ℕ → List ℕ → sgr_type.Sgr → Option sgr_type.Sgr → Type 0
GivesStyles bytes rest first second = (list : List CsiParam) × Reads bytes list 109 rest × ((flag : Bool) → Actions list flag 109 (styles first second))

pub color_read : (bytes rest : List ℕ) (sgr : sgr_type.Sgr) → IsColored bytes sgr rest → GivesStyles bytes rest sgr None
color_read bytes rest sgr (plane, color, o, is, e) =
    let body : List ℕ = plane_byte plane ∷ 56 ∷ 59 ∷ color_list color in (
      listed plane color,
      (
        27 ∷ 91 ∷ (body ++ 109 ∷ []),
        seq_of (listed plane color) 109 body (listed_spellable plane color o) (omega arith, omega arith) (listed_spelled plane color o),
        e ∙ ap (λ (l : List ℕ). 27 ∷ 91 ∷ plane_byte plane ∷ 56 ∷ 59 ∷ l) (sym (append_assoc (color_list color) (109 ∷ []) rest)),
      ),
      λ flag. subst (λ (s : sgr_type.Sgr). Actions (listed plane color) flag 109 (Sgr s ∷ [])) (sym is) (colors_mean plane color flag o),
    )

-- ---- two lists, and two colours

pub spells-joined : (x y : List ℕ) (a b : List CsiParam) → Spells x a → Spells y b → Spells (x ++ 59 ∷ y) (a ++ P 59 ∷ b)
spells-joined x y [] b h k = (59 ∷ [], y, ap (λ (l : List ℕ). l ++ 59 ∷ y) h, refl, k)
spells-joined x y (t ∷ a) b h k =
    (h.0, h.1 ++ 59 ∷ y, ap (λ (l : List ℕ). l ++ 59 ∷ y) h.2 ∙ append_assoc h.0 h.1 (59 ∷ y), h.3, spells-joined h.1 y a b h.4 k)

pub spellable-joined : (a b : List CsiParam) → Spellable a → Spellable b → Spellable (a ++ P 59 ∷ b)
spellable-joined [] b h k = (mark_spellable, tt, k)
spellable-joined (P c ∷ a) b h k = (h.0, tt, spellable-joined a b h.2 k)
spellable-joined (Integer z ∷ []) b h k = (h.0, tt, spellable-joined [] b h.2 k)
spellable-joined (Integer z ∷ P c ∷ a) b h k = (h.0, tt, spellable-joined (P c ∷ a) b h.2 k)
spellable-joined (Integer z ∷ Integer y ∷ a) b h k = absurd h.1

two_actions : (p q : Plane) (c d : ColorSpec) (flag : Bool) → IsOpaque c → IsOpaque d
    → actions (listed p c ++ P 59 ∷ listed q d) flag 109 ≡ Sgr (painted p c) ∷ Sgr (painted q d) ∷ []
two_actions p q Default d flag o more = absurd o
two_actions p q (PaletteIndex i) Default flag o more = absurd more
two_actions p q (TrueColor c) Default flag o more = absurd more
two_actions p q (PaletteIndex i) (PaletteIndex j) flag o more = rw ((color_piece p (PaletteIndex i) (listed q (PaletteIndex j)) o).1, (color_piece q (PaletteIndex j) [] more).0) refl
two_actions p q (PaletteIndex i) (TrueColor d) flag o more = rw ((color_piece p (PaletteIndex i) (listed q (TrueColor d)) o).1, (color_piece q (TrueColor d) [] more).0) refl
two_actions p q (TrueColor c) (PaletteIndex j) flag o more = rw ((color_piece p (TrueColor c) (listed q (PaletteIndex j)) o).1, (color_piece q (PaletteIndex j) [] more).0) refl
two_actions p q (TrueColor c) (TrueColor d) flag o more = rw ((color_piece p (TrueColor c) (listed q (TrueColor d)) o).1, (color_piece q (TrueColor d) [] more).0) refl

pub colors_read : (bytes behind mid more last rest : List ℕ) (first second : sgr_type.Sgr) →
    bytes ≡ 27 ∷ 91 ∷ behind → IsPainted behind first mid → mid ≡ 59 ∷ more →
    IsPainted more second last → last ≡ 109 ∷ rest
    → GivesStyles bytes rest first (Some second)
colors_read bytes behind mid more last rest first second begins (p, c, o, is, e) then (q, d, u, same, f) ends =
    let x : List ℕ = plane_byte p ∷ 56 ∷ 59 ∷ color_list c in
    let y : List ℕ = plane_byte q ∷ 56 ∷ 59 ∷ color_list d in
    let body : List ℕ = x ++ 59 ∷ y in
    let list : List CsiParam = listed p c ++ P 59 ∷ listed q d in
    let next : mid ≡ 59 ∷ (y ++ 109 ∷ rest) = then ∙ ap (λ (l : List ℕ). 59 ∷ l) (f ∙ ap (λ (l : List ℕ). y ++ l) ends) in
    let all : behind ≡ (body ++ 109 ∷ []) ++ rest =
    e ∙ ap (λ (l : List ℕ). x ++ l) next ∙ sym (append_assoc x (59 ∷ y) (109 ∷ rest)) ∙ sym (append_assoc body (109 ∷ []) rest) in (
      list,
      (
        27 ∷ 91 ∷ (body ++ 109 ∷ []),
        seq_of list 109 body (spellable-joined (listed p c) (listed q d) (listed_spellable p c o) (listed_spellable q d u)) (omega arith, omega arith)
            (spells-joined x y (listed p c) (listed q d) (listed_spelled p c o) (listed_spelled q d u)),
        begins ∙ ap (λ (l : List ℕ). 27 ∷ 91 ∷ l) all,
      ),
      λ flag. rw (is, same) (subst (λ (xs : List Action). Actions list flag 109 xs) (two_actions p q c d flag o u) (actions_are list flag 109)),
    )

-- its normal form is the text of the attribute
pub color_normal : (bytes rest said : List ℕ) (sgr : sgr_type.Sgr) (len : ℕ) →
    ((list : List CsiParam) × Reads bytes list 109 rest × Actions list false 109 (Sgr sgr ∷ [])) →
    len ≡ length bytes - length rest
    → said ≡ 27 ∷ 91 ∷ sgr_text sgr → IsNormal (take len bytes) said
color_normal bytes rest said sgr len (list, reads, are) long is =
    ((Sgr sgr ∷ [], read_known bytes rest list 109 (Sgr sgr ∷ []) len reads are long, is ∙ sym (append-nil (27 ∷ 91 ∷ sgr_text sgr))), read_one bytes rest list 109 len reads long)

-- and is short
list_short : (color : ColorSpec) → IsOpaque color → length (color_list color) ≤ 13
list_short Default o = omega arith
list_short (PaletteIndex i) fits = omega (arith, part_short i fits)
list_short (TrueColor c) (red, green, blue, opaque) =
    omega (arith, part_short c.0 red, part_short c.1 green, part_short c.2 blue, length-append {A = ℕ})

pub color_short : (bytes rest : List ℕ) (sgr : sgr_type.Sgr) → IsColored bytes sgr rest
    → (length rest ≤ length bytes) × (length bytes ≤ length rest + 19)
color_short bytes rest sgr (plane, color, o, is, e) =
    let long : length bytes ≡ 6 + length (color_list color) + length rest =
    omega (arith, ap length e, length-append (color_list color) (109 ∷ rest)) in
    (omega (arith, long), omega (arith, long, list_short color o))

-- how it stands in front
pub painted_stands : (plane : Plane) (color : ColorSpec) (sgr : sgr_type.Sgr) (bytes behind rest : List ℕ) → sgr ≡ painted plane color
    → bytes ≡ plane_byte plane ∷ 56 ∷ 59 ∷ behind → IsColor behind color rest → IsPainted bytes sgr rest
painted_stands plane color sgr bytes behind rest is begins (o, list) =
    (plane, color, o, is, begins ∙ ap (λ (l : List ℕ). plane_byte plane ∷ 56 ∷ 59 ∷ l) list)

pub color_stands : (bytes behind end rest : List ℕ) (sgr : sgr_type.Sgr) → bytes ≡ 27 ∷ 91 ∷ behind → IsPainted behind sgr end → end ≡ 109 ∷ rest → IsColored bytes sgr rest
color_stands bytes behind end rest sgr begins (plane, color, o, is, e) ends =
    (plane, color, o, is, begins ∙ ap (λ (l : List ℕ). 27 ∷ 91 ∷ l) (e ∙ ap (λ (l : List ℕ). plane_byte plane ∷ 56 ∷ 59 ∷ (color_list color ++ l)) ends))

-- ---- parts with colons

colon_lanes : (xs : List ℕ) (n : ℕ) → length xs ≡ n → sel_l (zip2 eqb xs (replicate n 59)) (replicate n 58) xs ≡ map with_colon xs
colon_lanes [] zero long = refl
colon_lanes [] (suc n) long = absurd (omega (arith, long))
colon_lanes (x ∷ xs) zero long = absurd (omega (arith, long))
colon_lanes (x ∷ xs) (suc n) long = ap (λ (l : List ℕ). with_colon x ∷ l) (colon_lanes xs n (omega (arith, long)))

digits_kept : (ds : List ℕ) → AreDigits ds → map with_colon ds ≡ ds
digits_kept [] digits = refl
digits_kept (d ∷ ds) (digit, digits) = rw (ne_eqb d 59 (λ is. omega (arith, is, digit.1)))
    (ap (λ (l : List ℕ). d ∷ l) (digits_kept ds digits))

part_kept : (n : ℕ) (more : List ℕ) → n < 256 → map with_colon (decimal n ++ more) ≡ decimal n ++ map with_colon more
part_kept n more fits =
    map-append with_colon (decimal n) more ∙ ap (λ (l : List ℕ). l ++ map with_colon more)
    (digits_kept (decimal n) (digits_decimal own n (omega (arith, fits))))

pub colons_selected : (xs : List ℕ) (n : ℕ) → length xs ≡ n
    → sel_l (map (top 7) (zip2 (λ a b. cond (eqb a b) 255 0) xs (replicate n 59))) (replicate n 58) xs ≡ map with_colon xs
colons_selected xs n long = ap (λ (ms : List Bool). sel_l ms (replicate n 58) xs) (tops_compared w8 eqb xs (replicate n 59))
    ∙ colon_lanes xs n long

take_behind : (k : ℕ) (xs ys : List ℕ) (n : ℕ) → length xs ≡ k → take (k + n) (xs ++ ys) ≡ xs ++ take n ys
take_behind k xs ys n long = ap (λ (i : ℕ). take (i + n) (xs ++ ys)) (sym long) ∙ take-append-add xs ys n

-- the parts of a true colour with its final byte
abbrev parts_of : SrgbaTuple → ℕ → List ℕ
parts_of c mark = decimal c.0 ++ mark ∷ (decimal c.1 ++ mark ∷ (decimal c.2 ++ 109 ∷ []))

colons_in : (c : SrgbaTuple) → c.0 < 256 → c.1 < 256 → c.2 < 256 → map with_colon (parts_of c 59) ≡ parts_of c 58
colons_in c red green blue =
    part_kept c.0 (59 ∷ (decimal c.1 ++ 59 ∷ (decimal c.2 ++ 109 ∷ []))) red
    ∙ ap (λ (l : List ℕ). decimal c.0 ++ 58 ∷ l)
    (part_kept c.1 (59 ∷ (decimal c.2 ++ 109 ∷ [])) green ∙ ap (λ (l : List ℕ). decimal c.1 ++ 58 ∷ l) (part_kept c.2 (109 ∷ []) blue))

true_text : (plane : Plane) (c : SrgbaTuple) → c.3 ≡ 255
    → sgr_text (painted plane (TrueColor c)) ≡ plane_byte plane ∷ 56 ∷ 58 ∷ 50 ∷ 58 ∷ 58 ∷ parts_of c 58
true_text Front c opaque = rw (opaque, two_digits 38 (omega arith) (omega arith)) refl
true_text Back c opaque = rw (opaque, two_digits 48 (omega arith) (omega arith)) refl
true_text Line c opaque = rw (opaque, two_digits 58 (omega arith) (omega arith)) refl

parts_ended : (x y z rest : List ℕ) → (x ++ 59 ∷ (y ++ 59 ∷ z)) ++ 109 ∷ rest ≡ (x ++ 59 ∷ (y ++ 59 ∷ (z ++ 109 ∷ []))) ++ rest
parts_ended x y z rest =
    parts_joined x y z (109 ∷ rest) ∙ ap (λ (l : List ℕ). x ++ 59 ∷ (y ++ 59 ∷ l)) (sym (append_assoc z (109 ∷ []) rest))
    ∙ sym (parts_joined x y (z ++ 109 ∷ []) rest)

-- the sequence with colons, by one copy of its parts
pub colons_normal : (bytes parts rest : List ℕ) (digit len : ℕ) (sgr : sgr_type.Sgr) → IsColored bytes sgr rest → digit ≡ get_or bytes 2 0
    → get_or bytes 5 0 ≡ 50 → parts ≡ take (length bytes - 7) (drop 7 bytes) → len ≡ length bytes - length rest
    → take (len + 1) (27 ∷ 91 ∷ digit ∷ 56 ∷ 58 ∷ 50 ∷ 58 ∷ 58 ∷ map with_colon (take 16 parts)) ≡ 27 ∷ 91 ∷ sgr_text sgr
colons_normal bytes parts rest digit len sgr (plane, Default, o, is, e) third kind all long = absurd o
colons_normal bytes parts rest digit len sgr (plane, PaletteIndex i, o, is, e) third kind all long =
    absurd (omega (arith, kind, ap (λ (l : List ℕ). get_or l 5 0) e))
colons_normal bytes parts rest digit len sgr (plane, TrueColor c, (red, green, blue, opaque), is, e) third kind all long =
    let x : List ℕ = decimal c.0 in
    let y : List ℕ = decimal c.1 in
    let z : List ℕ = decimal c.2 in
    let body : List ℕ = parts_of c 59 in
    let same : parts ≡ body ++ rest = all ∙ slice_from 7 bytes ∙ ap (λ (l : List ℕ). drop 7 l) e ∙ parts_ended x y z rest in
    let first : digit ≡ plane_byte plane = third ∙ ap (λ (l : List ℕ). get_or l 2 0) e in
    let short : length body ≤ 12 =
    omega (arith, part_short c.0 red, part_short c.1 green, part_short c.2 blue, length-append {A = ℕ}) in
    let count : len + 1 ≡ 8 + length body = omega (arith, long, ap length e, ap length (parts_ended x y z rest), length-append body rest) in
    let front : take (length body) (map with_colon (take 16 parts)) ≡ parts_of c 58 =
    take-map with_colon (length body) (take 16 parts)
    ∙ ap (λ (l : List ℕ). map with_colon l) (take-take (length body) 16 parts (omega (arith, short))
    ∙ ap (λ (l : List ℕ). take (length body) l) same ∙ take-append_seam body rest) ∙ colons_in c red green blue in
    ap (λ (n : ℕ). take n (27 ∷ 91 ∷ digit ∷ 56 ∷ 58 ∷ 50 ∷ 58 ∷ 58 ∷ map with_colon (take 16 parts))) count
    ∙ take_behind 8 (27 ∷ 91 ∷ digit ∷ 56 ∷ 58 ∷ 50 ∷ 58 ∷ 58 ∷ []) (map with_colon (take 16 parts)) (length body) refl
    ∙ ap (λ (l : List ℕ). 27 ∷ 91 ∷ digit ∷ 56 ∷ 58 ∷ 50 ∷ 58 ∷ 58 ∷ l) front
    ∙ ap (λ (d : ℕ). 27 ∷ 91 ∷ d ∷ 56 ∷ 58 ∷ 50 ∷ 58 ∷ 58 ∷ parts_of c 58) first
    ∙ ap (λ (l : List ℕ). 27 ∷ 91 ∷ l) (sym (true_text plane c opaque) ∙ ap sgr_text (sym is))

-- ---- what stands in front

pub three_cut : (xs : List ℕ) (a b c : ℕ) → 3 ≤ length xs → get_or xs 0 0 ≡ a → get_or xs 1 0 ≡ b → get_or xs 2 0 ≡ c → xs ≡ a ∷ b ∷ c ∷ take (length xs - 3) (drop 3 xs)
three_cut (x ∷ y ∷ z ∷ xs) a b c some e f g = rw (e, f, g) (ap (λ (l : List ℕ). a ∷ b ∷ c ∷ l) (sym (take_all (length (x ∷ y ∷ z ∷ xs) - 3) xs (omega arith))))
three_cut _ a b c some e f g = absurd (omega (arith, some))
