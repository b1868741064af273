-- Declarations and classes: no byte ends the attribute that it stands in, classes say what styles do, and each has its own name and its rule.
use Rattle.std.proofs.Common.{◌≡◌, ◌/◌, ◌%◌, ℕ, Bool, true, false, zero, suc, Some, None, get_or, List, [], ◌∷◌, ◌++◌, ⊎_elim, refl, arith, Option, codes, ◌&&◌, ◌==◌, if◌then◌else◌, decimal, ◌<◌, ◌≤◌, sym, subst, ◌∙◌, append_assoc, append-nil, not, ◌||◌, drop, cond, ap}
use Rattle.std.proofs.{lemmas.List.get_or_past, lemmas.Fmt.decimal_is_IsNumeral, lemmas.Fmt.length-decimal-le}
use Rattle.csicodec_looks.proofs.Common.{and_parts, cases_Bool, cond_both, nat_tests, AllByRecursion, all_both, ColorSpec, Intensity, SrgbaTuple, Underline, css, has_line, hex_color, hex_digit, Class, Layer, Look, Palette, color_at, class_name, IsHarmless, cases_lt, IsClass, ground_color, text_color}
use Rattle.std.specs.{Fmt.digit_glyph, Fmt.digits, Fmt.digits_onto, Str.Parse.digits_value}
use Rattle.csicodec_looks.specs.Look.{color_text, colored, colors, line_color, line_kind, line_places, lines, own_name, place_text, property, property_of, weight, is_none, slant}
use Rattle.csicodec_looks.specs.Classes.{part_name, true_color, true_colors, class_if, ground_part, lines_class, text_part, weight_class}
use Rattle.csicodec_looks.specs.Sheet.{IsIn, class_rule, class_rules, color_of_lines, color_rules, declaration, declares, fixed_rules, kind_of_lines, line_rule, lined, longhand, places, said, selector}
use Rattle.csicodec_looks.specs.{Palette.pair_of, Palette.pairs, Palette.or_own, Pieces.is_harmless}

abbrev pub Fine : List ℕ → Type 0
Fine bytes = AllByRecursion IsHarmless bytes

abbrev all_harmless : List ℕ → Bool
all_harmless [] = true
all_harmless (b ∷ bytes) = is_harmless b && all_harmless bytes

pub checked : (bytes : List ℕ) → all_harmless bytes ≡ true → Fine bytes
checked [] h = tt
checked (b ∷ bytes) h = let both = and_parts (is_harmless b) (all_harmless bytes) h in (both.0, checked bytes both.1)

when : (b : Bool) (bytes : List ℕ) → Fine bytes → Fine (if b then bytes else [])
when b bytes h = grind arith

digit : (n : ℕ) → is_harmless (hex_digit n) ≡ true
digit n = grind (arith, nat_tests)

pub hex : (c : SrgbaTuple) → Fine (hex_color c)
hex c = (refl, (digit (c.0 / 16), (digit (c.0 % 16), (digit (c.1 / 16), (digit (c.1 % 16), (digit (c.2 / 16), (digit (c.2 % 16), tt)))))))

-- what a colour is of, the page's own, and pairs

pub of_property : (of : Layer) → Fine (property_of of)
of_property Layer.Text = checked (codes "color:") refl
of_property of = checked (property_of of) refl

of_own : (of : Layer) → Fine (own_name of)
of_own Layer.Text = tt
of_own of = checked (own_name of) refl

abbrev pairs_harmless : List (List ℕ × List ℕ) → Bool
pairs_harmless [] = true
pairs_harmless (p ∷ ps) = all_harmless p.0 && (all_harmless p.1 && pairs_harmless ps)

one_checked : (ps : List (List ℕ × List ℕ)) → pairs_harmless ps ≡ true → (i : ℕ) → Fine (get_or ps i ([], [])).0 × Fine (get_or ps i ([], [])).1
one_checked [] h i = (tt, tt)
one_checked (p ∷ ps) h zero =
    let (text, more) = and_parts (all_harmless p.0) (all_harmless p.1 && pairs_harmless ps) h in
    (checked p.0 text, checked p.1 (and_parts (all_harmless p.1) (pairs_harmless ps) more).0)
one_checked (p ∷ ps) h (suc i) =
    let (text, more) = and_parts (all_harmless p.0) (all_harmless p.1 && pairs_harmless ps) h in
    one_checked ps (and_parts (all_harmless p.1) (pairs_harmless ps) more).1 i

pair : (of : Layer) (i : ℕ) → Fine (pair_of of i)
pair Layer.Ground i = (one_checked pairs refl i).1
pair Layer.TextAsGround i = (one_checked pairs refl i).1
pair _ i = (one_checked pairs refl i).0

at_place : (of : Layer) (i : ℕ) (c : Option SrgbaTuple) → Fine (place_text of i c)
at_place of i None = pair of i
at_place of i (Some c) = hex c

colour : (p : Palette) (of : Layer) (c : ColorSpec) → Fine (color_text p of c)
colour p of ColorSpec.Default = of_own of
colour p of (ColorSpec.PaletteIndex i) = at_place of i (color_at p i)
colour p of (ColorSpec.TrueColor c) = hex c

strokes : (i : Intensity) → Fine (weight i)
unfolding weight
strokes Intensity.Normal = tt
strokes i = checked (weight i) refl

line_kinds : (u : Underline) → Fine (line_kind u)
unfolding line_kind
line_kinds Underline.None = tt
line_kinds u = checked (line_kind u) refl

all_places : (l : Look) → Fine (line_places l)
unfolding line_places
all_places l = search (all_both, when, checked)

line : (p : Palette) (c : ColorSpec) → Fine (line_color p c)
unfolding line_color
line p ColorSpec.Default = tt
line p (ColorSpec.PaletteIndex i) = (refl, at_place Layer.Line i (color_at p i))
line p (ColorSpec.TrueColor c) = (refl, hex c)

all_lines : (p : Palette) (l : Look) → Fine (lines p l)
unfolding lines
all_lines p l =
    let what = codes "text-decoration:" in
    let some = line_places l ++ (line_kind l.underline ++ (line_color p l.line ++ 59 ∷ [])) in
    when (has_line l) (what ++ some) (all_both IsHarmless what some (checked what refl) (search (all_both, all_places, line_kinds, line)))

of_one : (p : Palette) (of : Layer) (c : ColorSpec) → Fine (property p of c)
unfolding property
of_one p of c = search (all_both, of_property, colour)

one : (p : Palette) (of : Layer) (c : ColorSpec) → Fine (colored p of c)
unfolding colored
one p of ColorSpec.Default = tt
one p of c = of_one p of c

all_colors : (p : Palette) (l : Look) → Fine (colors p l)
unfolding colors
all_colors p l = ⊎_elim
    (λ (e : l.inverse ≡ true). rw e (search (all_both, of_one)))
    (λ (e : l.inverse ≡ false). rw e (search (all_both, one)))
    (cases_Bool l.inverse)

pub css_fine : (p : Palette) (l : Look) → Fine (css p l)
css_fine p l = search (all_both, strokes, when, checked, all_lines, all_colors)

-- ---- classes, and the style that colours by their parts have

glyph : (d : ℕ) → is_harmless (digit_glyph false d) ≡ true
glyph d = grind (arith, nat_tests)

onto : (k n : ℕ) (behind : List ℕ) → Fine behind → Fine (digits_onto k 10 false n behind)
onto zero n behind h = h
onto (suc k) n behind h =
    let more = digit_glyph false (n % 10) ∷ behind in
    cond_both (n / 10 == 0) more (digits_onto k 10 false (n / 10) more) Fine (λ _. (glyph (n % 10), h)) (λ _. onto k (n / 10) more (glyph (n % 10), h))

number : (n : ℕ) → Fine (decimal n)
unfolding digits
number n = onto 64 n [] tt

of_part : (p : Layer) → Fine (part_name p)
of_part Layer.Text = checked (codes "fg-") refl
of_part p = checked (part_name p) refl

pub name_fine : (c : Class) → Fine (class_name c)
name_fine (Class.Color p i) = all_both IsHarmless (part_name p) (decimal i) (of_part p) (number i)
name_fine c = checked (class_name c) refl

by_parts : (p : Layer) (c : ColorSpec) → Fine (true_color p c)
by_parts p (ColorSpec.TrueColor c) = all_both IsHarmless (property_of p) (hex_color c ++ 59 ∷ []) (of_property p) (all_both IsHarmless (hex_color c) (59 ∷ []) (hex c) (refl, tt))
by_parts p _ = tt

pub true_fine : (l : Look) → Fine (true_colors l)
unfolding true_colors
true_fine l = search (all_both, by_parts)

-- ---- What classes declare is what a style says, and each has its rule in the sheet.

pub weights : (p : Palette) (i : Intensity) → declares p (weight_class i) ≡ weight i
unfolding declaration weight
weights p Intensity.Normal = refl
weights p _ = refl

pub slants : (p : Palette) (b : Bool) → declares p (class_if b Class.Italic) ≡ slant b
unfolding declaration
slants p true = refl
slants p false = refl

pub kinds : (p : Palette) (u : Underline) → declares p (lines_class u) ≡ kind_of_lines u
unfolding declaration kind_of_lines line_kind
kinds p Underline.None = refl
kinds p _ = refl

pub of_line : (p : Palette) (c : ColorSpec) → said p Layer.Line None c ≡ color_of_lines p c
unfolding declaration color_of_lines line_color property
of_line p ColorSpec.Default = refl
of_line p (ColorSpec.PaletteIndex i) = append-nil (property p Layer.Line (ColorSpec.PaletteIndex i))
of_line p (ColorSpec.TrueColor c) = refl

-- where text and background change places
swapped : (p : Palette) (of : Layer) (own : Class) (given : Option SrgbaTuple) (c : ColorSpec) → declaration p own ≡ property p of (or_own given ColorSpec.Default)
    → said p of (Some own) c ≡ property p of (or_own given c)
unfolding declaration property
swapped p of own given ColorSpec.Default e = append-nil _ ∙ e
swapped p of own given (ColorSpec.PaletteIndex i) e = append-nil (property p of (ColorSpec.PaletteIndex i))
swapped p of own given (ColorSpec.TrueColor c) e = refl

-- where they don't
straight : (p : Palette) (of : Layer) (c : ColorSpec) → said p of None c ≡ colored p of c
unfolding declaration colored property
straight p of ColorSpec.Default = refl
straight p of (ColorSpec.PaletteIndex i) = append-nil (property p of (ColorSpec.PaletteIndex i))
straight p of (ColorSpec.TrueColor c) = refl

pub of_colors : (p : Palette) (l : Look)
    → said p (text_part l) (class_if l.inverse Class.TextAsGround) (text_color l) ++ said p (ground_part l) (class_if l.inverse Class.GroundAsText) (ground_color l) ≡ colors p l
unfolding colors declaration
of_colors p l = ⊎_elim
    (λ (e : l.inverse ≡ true).
    let text = swapped p Layer.TextAsGround Class.TextAsGround p.background l.background refl in
    let ground = swapped p Layer.GroundAsText Class.GroundAsText p.foreground l.foreground refl in
    rw (e, text, ground) refl)
    (λ (e : l.inverse ≡ false). rw (e, straight p Layer.Text l.foreground, straight p Layer.Ground l.background) refl)
    (cases_Bool l.inverse)

-- ---- the rules

own : (x : List ℕ) → IsIn x x
own x = ([], [], sym (append-nil x))

ahead : (x a b : List ℕ) → IsIn x a → IsIn x (a ++ b)
ahead x a b (front, behind, e) = (front, behind ++ b, rw e (simp append_assoc))

later : (x a b : List ℕ) → IsIn x b → IsIn x (a ++ b)
later x a b (front, behind, e) = (a ++ front, behind, rw e (simp append_assoc))

-- the colours of so many places
of_place : (p : Palette) (of : Layer) (i n : ℕ) → i < n → IsIn (class_rule p (Class.Color of i)) (color_rules p of n)
unfolding color_rules
of_place p of i zero h = absurd (omega (arith, h))
of_place p of i (suc n) h =
    let x = class_rule p (Class.Color of i) in
    let old = color_rules p of n in
    let new = class_rule p (Class.Color of n) in
    ⊎_elim
    (λ (a : i < n). ahead x old new (of_place p of i n a))
    (λ (a : n ≤ i).
    let e : n ≡ i = omega (arith, a, h) in
    subst (λ (k : ℕ). IsIn (class_rule p (Class.Color of k)) (old ++ new)) e (later new old new (own new)))
    (cases_lt i n)

of_color : (p : Palette) (of : Layer) (i : ℕ) → i < 256 → IsIn (class_rule p (Class.Color of i)) (class_rules p)
unfolding class_rules
of_color p Layer.Text i h = search (ahead, later, of_place) depth 12
of_color p of i h = search (ahead, later, of_place) depth 12

pub ruled : (p : Palette) (c : Class) → IsClass c → IsIn (class_rule p c) (class_rules p)
unfolding class_rules fixed_rules
ruled p (Class.Color of i) h = of_color p of i h
ruled p c h = search (own, ahead, later) depth 12

-- ---- lines

abbrev of_shape : Bool → Bool → Bool → List ℕ
of_shape none above through =
    selector (not none) Class.Underline
    ++ (selector above Class.Overline ++ (selector through Class.Strike
    ++ (codes "{" ++ (longhand (codes "text-decoration-line:")
    ((if not none then codes " underline" else []) ++ ((if above then codes " overline" else []) ++ (if through then codes " line-through" else [])))
    ++ codes "}\n"))))

abbrev IsRuled : Palette → Look → Type 0
IsRuled p l = IsIn (line_rule l) (class_rules p)

several : (p : Palette) → IsRuled p (lined Underline.Single true false) × IsRuled p (lined Underline.Single false true) × IsRuled p (lined Underline.None true true)
    × IsRuled p (lined Underline.Single true true)
unfolding class_rules fixed_rules
several p = (search (own, ahead, later) depth 12, search (own, ahead, later) depth 12, search (own, ahead, later) depth 12, search (own, ahead, later) depth 12)

by_shape : (p : Palette) (none above through : Bool) → (not none || (above || through)) ≡ true → IsIn (of_shape none above through) (class_rules p)
unfolding line_rule places line_places class_rule declaration
by_shape p false false false h = ruled p Class.Underline tt
by_shape p true true false h = ruled p Class.Overline tt
by_shape p true false true h = ruled p Class.Strike tt
by_shape p false true false h = (several p).0
by_shape p false false true h = (several p).1
by_shape p true true true h = (several p).2
by_shape p false true true h = (several p).3
by_shape p true false false h = cc h

pub lines_ruled : (p : Palette) (l : Look) → has_line l ≡ true → IsIn (line_rule l) (class_rules p)
unfolding line_rule places line_places
lines_ruled p l h = by_shape p (is_none l.underline) l.overline l.strike h

-- ---- Each class has a name of its own: the class is class_of by it.

-- lines below by a letter of their kind, what is behind `fg-` or `bg-`, and any other name by its first letter
abbrev below : ℕ → Class
below letter =
    cond (letter == 117) Class.Double (cond (letter == 114) Class.Curly (cond (letter == 116) Class.Dotted (cond (letter == 115) Class.Dashed Class.Underline)))

abbrev swapped_class : ℕ → List ℕ → Class
swapped_class first rest =
    cond (get_or rest 10 0 == 0) (cond (first == 102) Class.TextAsGround Class.GroundAsText) (Class.Color (cond (first == 102) Layer.TextAsGround Layer.GroundAsText) (digits_value 10 (drop 11 rest)))

-- a number has three digits at most
abbrev dashed : ℕ → List ℕ → Class
dashed first rest = cond (get_or rest 3 0 == 0) (Class.Color (cond (first == 102) Layer.Text Layer.Ground) (digits_value 10 rest)) (swapped_class first rest)

abbrev behind_dash : List ℕ → List ℕ
behind_dash (a ∷ b ∷ rest) = rest
behind_dash rest = []

abbrev other : ℕ → List ℕ → Class
other first rest =
    cond (first == 108) (Class.Color Layer.Line (digits_value 10 (behind_dash rest)))
    (cond (first == 98) Class.Bold (cond (first == 102) Class.Faint (cond (first == 105) Class.Italic (cond (first == 111) Class.Overline (cond (first == 115) Class.Strike (below (get_or rest 9 0)))))))

abbrev class_of : List ℕ → Class
class_of (a ∷ b ∷ c ∷ rest) = cond (c == 45) (dashed a rest) (other a rest)
class_of name = Class.Bold

value : (i : ℕ) → i < 256 → digits_value 10 (decimal i) ≡ i
value i h = (decimal_is_IsNumeral i (omega (arith, h))).1

short : (i : ℕ) → i < 256 → get_or (decimal i) 3 0 ≡ 0
short i h = get_or_past (decimal i) 3 0 (length-decimal-le 3 i (omega arith) (omega (arith, h)) (omega (arith, h)))

place_known : (p : Layer) (i : ℕ) → i < 256 → class_of (class_name (Class.Color p i)) ≡ Class.Color p i
place_known Layer.Text i h = rw (short i h, value i h) refl
place_known Layer.Ground i h = rw (short i h, value i h) refl
place_known _ i h = rw (value i h) refl

by_name : (c : Class) → IsClass c → class_of (class_name c) ≡ c
by_name (Class.Color p i) h = place_known p i h
by_name _ h = refl

pub one_class : (c d : Class) → IsClass c → IsClass d → class_name c ≡ class_name d → c ≡ d
one_class c d h k e = sym (by_name c h) ∙ ap class_of e ∙ by_name d k
