-- Text that is settled stands out from its ground and is settled once, and colours are read back.
use Rattle.std.proofs.Common.{◌≡◌, ◌<◌, ◌≤◌, ◌+◌, ◌*◌, ℕ, Bool, true, false, Option, Some, None, refl, sym, ◌∙◌, arith, ⊎_elim, lt-ltb, le-ltb, if◌then◌else◌, ◌/◌, ◌%◌}
use Rattle.std.proofs.lemmas.Bool.{and_right, or_parts}
use Rattle.csicodec_looks.proofs.Common.{cases_Bool, cases_lt, cond_both, false≢true, nat_tests, ColorSpec, SrgbaTuple, Look, Palette, ground_color, text_color, settled, hex_color, hex_digit, color_at}
use Rattle.csicodec_looks.specs.Contrast.{are_near, black, black_or_white, dark, is_near, known, legible, luminance, legible_on, on_ground, on_page, place_like, white}
use Rattle.csicodec_looks.specs.{Look.is_exact, Look.is_mixed, Look.legible_look, Look.settled_color, Palette.has_pairs, Palette.xterm, Given.digit_of}
use Rattle.csicodec_looks.specs.{Given.given_color, Given.part_of, Xterm.palette, Xterm.rgb}

-- ---- black and white

white_apart : (n : ℕ) → n < 29846475000000 → are_near (luminance white) n ≡ false
unfolding luminance are_near
white_apart n h = rw (le-ltb (20 * (165813750000000 + 8290687500000)) (31 * (n + 8290687500000)) (omega (arith, h))) refl

black_apart : (n : ℕ) → 29846475000000 ≤ n → are_near (luminance black) n ≡ false
unfolding luminance are_near
black_apart n h = and_right _ _ (le-ltb (20 * (n + 8290687500000)) (31 * (0 + 8290687500000)) (omega (arith, h)))

-- either can be read on the grounds that it is for
stands : (below : SrgbaTuple) → is_near (black_or_white below) below ≡ false
stands below = ⊎_elim
    (λ (a : luminance below < 29846475000000). rw (lt-ltb (luminance below) 29846475000000 a) (white_apart (luminance below) a))
    (λ (a : 29846475000000 ≤ luminance below). rw (le-ltb (luminance below) 29846475000000 a) (black_apart (luminance below) a))
    (cases_lt (luminance below) 29846475000000)

-- ---- text on a ground

record OnGround (text : ColorSpec) (below : SrgbaTuple) : Type 0 where
  color : SrgbaTuple
  is : known text ≡ Some color
  apart : is_near color below ≡ false

record OnPage (color : SrgbaTuple) : Type 0 where
  light : is_near color white ≡ false
  darker : is_near color dark ≡ false

painted : (below : SrgbaTuple) → OnGround (ColorSpec.TrueColor (black_or_white below)) below
painted below = record { color = black_or_white below; is = refl; apart = stands below }

on_grounds : (below : SrgbaTuple) (text : ColorSpec) (k : Option SrgbaTuple) → known text ≡ k → OnGround (on_ground below text k) below
on_grounds below text None h = painted below
on_grounds below text (Some c) h =
    cond_both (is_near c below) (ColorSpec.TrueColor (black_or_white below)) text (λ t. OnGround t below) (λ _. painted below) (λ e. record { color = c; is = h; apart = e })

place : (least : ℕ) (c : SrgbaTuple) → place_like least c < 8
place least c = grind (arith, nat_tests)

-- one of a pair isn't known
paired : (i : ℕ) → i < 16 → known (ColorSpec.PaletteIndex i) ≡ None
paired i h = rw (lt-ltb i 16 h) refl

on_pages : (text : ColorSpec) (k : Option SrgbaTuple) (c : SrgbaTuple) → known text ≡ k → known (on_page text k) ≡ Some c → OnPage c
on_pages text None c h e = absurd cc
on_pages text (Some d) c h e = by (is_near d white) (is_near d dark) refl refl e
  where
    by : (a b : Bool) → is_near d white ≡ a → is_near d dark ≡ b
        → known (if a then ColorSpec.PaletteIndex (8 + place_like 192 d) else if b then ColorSpec.PaletteIndex (place_like 64 d) else text) ≡ Some c → OnPage c
    by true b x y e = let pair = paired (8 + place_like 192 d) (omega (arith, place 192 d)) in absurd cc
    by false true x y e = let pair = paired (place_like 64 d) (omega (arith, place 64 d)) in absurd cc
    by false false x y e = let same : d ≡ c = cc in record { light = rw (← same) x; darker = rw (← same) y }

legible_ground : (g t : ColorSpec) (below : SrgbaTuple) → known g ≡ Some below → OnGround (legible g t) below
legible_ground g t below h = rw h (on_grounds below t (known t) refl)

legible_page : (g t : ColorSpec) (c : SrgbaTuple) → known g ≡ None → known (legible g t) ≡ Some c → OnPage c
legible_page g t c h = rw h (on_pages t (known t) c refl)

-- ---- looks

look_ground : (l : Look) (below : SrgbaTuple) → known (ground_color (legible_look l)) ≡ Some below → OnGround (text_color (legible_look l)) below
look_ground l below h = ⊎_elim
    (λ (e : l.inverse ≡ true). rw e (legible_ground l.foreground l.background below (rw e at h)))
    (λ (e : l.inverse ≡ false). rw e (legible_ground l.background l.foreground below (rw e at h)))
    (cases_Bool l.inverse)

look_page : (l : Look) (c : SrgbaTuple) → known (ground_color (legible_look l)) ≡ None → known (text_color (legible_look l)) ≡ Some c → OnPage c
look_page l c h k = ⊎_elim
    (λ (e : l.inverse ≡ true). legible_page l.foreground l.background c (rw e at h) (rw e at k))
    (λ (e : l.inverse ≡ false). legible_page l.background l.foreground c (rw e at h) (rw e at k))
    (cases_Bool l.inverse)

-- a colour that isn't exact isn't known
vague : (c : ColorSpec) → is_exact c ≡ false → known c ≡ None
vague c h = grind (arith, nat_tests)

-- neither of its colours is
apart : (p : Palette) (l : Look) → has_pairs p ≡ true → is_mixed p l ≡ false → (known l.foreground ≡ None) × (known l.background ≡ None)
apart p l h e = let (x, y) = or_parts (is_exact l.foreground) (is_exact l.background) (rw h at e) in (vague l.foreground x, vague l.background y)

neither : (l : Look) → (known l.foreground ≡ None) × (known l.background ≡ None) → (known (text_color l) ≡ None) × (known (ground_color l) ≡ None)
neither l (text, ground) = grind arith

-- the look whose text is made legible
abbrev prepared : Look → Look
prepared l = record l { foreground = settled_color l.foreground; background = settled_color l.background }

-- and then, where text and background change places, and where they don't
abbrev made : Look → Bool → Look
made l true = record (prepared l) { background = legible (settled_color l.foreground) (settled_color l.background) }
made l false = record (prepared l) { foreground = legible (settled_color l.background) (settled_color l.foreground) }

pub known_apart : (p : Palette) (l : Look) (below : SrgbaTuple) → has_pairs p ≡ true → known (ground_color (settled p l)) ≡ Some below
    → (text : SrgbaTuple) × (known (text_color (settled p l)) ≡ Some text) × (is_near text below ≡ false)
known_apart p l below h = by (is_mixed p l) refl
  where
    by : (b : Bool) → is_mixed p l ≡ b → known (ground_color (if b then legible_look (prepared l) else l)) ≡ Some below
        → (text : SrgbaTuple) × (known (text_color (if b then legible_look (prepared l) else l)) ≡ Some text) × (is_near text below ≡ false)
    by true e k = let on = look_ground (prepared l) below k in (on.color, on.is, on.apart)
    by false e k = let none = neither l (apart p l h e) in absurd cc

pub own_apart : (p : Palette) (l : Look) (text : SrgbaTuple) → has_pairs p ≡ true → known (ground_color (settled p l)) ≡ None → known (text_color (settled p l)) ≡ Some text
    → (is_near text white ≡ false) × (is_near text dark ≡ false)
own_apart p l text h = by (is_mixed p l) refl
  where
    by : (b : Bool) → is_mixed p l ≡ b → known (ground_color (if b then legible_look (prepared l) else l)) ≡ None
        → known (text_color (if b then legible_look (prepared l) else l)) ≡ Some text → (is_near text white ≡ false) × (is_near text dark ≡ false)
    by true e k m = let on = look_page (prepared l) text k m in (on.light, on.darker)
    by false e k m = let none = neither l (apart p l h e) in absurd cc

-- ---- the rest of a look, and the second time

pub others_stay : (p : Palette) (l : Look) → settled p l ≡ record l { foreground = (settled p l).foreground; background = (settled p l).background }
others_stay p l =
    let Stay = λ (m : Look). m ≡ record l { foreground = m.foreground; background = m.background } in
    cond_both (is_mixed p l) (legible_look (prepared l)) l Stay (λ _. cond_both l.inverse (made l true) (made l false) Stay (λ _. refl) (λ _. refl)) (λ _. refl)

pub chosen_stay : (p : Palette) (l : Look) → has_pairs p ≡ false → settled p l ≡ l
chosen_stay p l h = rw h refl

-- settled colours
settled_twice : (c : ColorSpec) → settled_color (settled_color c) ≡ settled_color c
settled_twice c = grind (arith, nat_tests)

settled_known : (c : ColorSpec) (d : SrgbaTuple) → known c ≡ Some d → settled_color c ≡ c
settled_known c d h = grind (arith, nat_tests)

-- a colour that isn't known isn't exact
unknown : (c : ColorSpec) → known c ≡ None → is_exact c ≡ false
unknown c h = grind (arith, nat_tests)

legible_stays : (g t : ColorSpec) (c : SrgbaTuple) → known t ≡ Some c → ((d : SrgbaTuple) → known g ≡ Some d → is_near c d ≡ false) → (known g ≡ None → OnPage c) → legible g t ≡ t
legible_stays g t c h below page = by (known g) refl
  where
    by : (k : Option SrgbaTuple) → known g ≡ k → legible_on k t ≡ t
    by None e = let q = page e in rw (h, q.light, q.darker) refl
    by (Some d) e = rw (h, below d e) refl

legible_twice : (g t : ColorSpec) (c : SrgbaTuple) → known (legible g t) ≡ Some c → legible g (legible g t) ≡ legible g t
legible_twice g t c h = legible_stays g (legible g t) c h
    (λ d e. let on = legible_ground g t d e in let is = on.is in let same : on.color ≡ c = cc in rw (← same) on.apart)
    (λ e. legible_page g t c e h)

-- where text or ground is exact behind the first time
abbrev Twice : ColorSpec → ColorSpec → Type 0
Twice g r = (settled_color r ≡ r) × (legible g r ≡ r)

twice : (g t : ColorSpec) → (is_exact (legible g t) ≡ false → is_exact g ≡ false → false ≡ true) → Twice g (legible g t)
twice g t mixed = by (known (legible g t)) (known g) refl refl
  where
    by : (j k : Option SrgbaTuple) → known (legible g t) ≡ j → known g ≡ k → Twice g (legible g t)
    by None None e f = absurd (false≢true (mixed (unknown (legible g t) e) (unknown g f)))
    by None (Some d) e f = let is = (legible_ground g t d f).is in absurd cc
    by (Some c) k e f = (settled_known (legible g t) c e, legible_twice g t c e)

made_twice : (p : Palette) (l : Look) (i : Bool) → l.inverse ≡ i → settled p (made l i) ≡ made l i
made_twice p l i e = by i (is_mixed p (made l i)) e refl
  where
    by : (i b : Bool) → l.inverse ≡ i → is_mixed p (made l i) ≡ b → (if b then legible_look (prepared (made l i)) else made l i) ≡ made l i
    by i false e k = refl
    by true true e k =
        let g = settled_color l.foreground in
        let q = twice g (settled_color l.background) (λ x y. sym (and_right (has_pairs p) _ (rw (x, y) refl)) ∙ k) in
        rw (e, settled_twice l.foreground, q.0, q.1) refl
    by false true e k =
        let g = settled_color l.background in
        let q = twice g (settled_color l.foreground) (λ x y. sym (and_right (has_pairs p) _ (rw (x, y) refl)) ∙ k) in
        rw (e, settled_twice l.background, q.0, q.1) refl

pub once : (p : Palette) (l : Look) → settled p (settled p l) ≡ settled p l
once p l = by (is_mixed p l) l.inverse refl refl
  where
    by : (b i : Bool) → is_mixed p l ≡ b → l.inverse ≡ i → settled p (if b then if i then made l true else made l false else l) ≡ (if b then if i then made l true else made l false else l)
    by false i e h = rw e refl
    by true true e h = made_twice p l true h
    by true false e h = made_twice p l false h

-- ---- A colour that is written is read back, and the palette of xterm has its colours.

digit : (n : ℕ) → n < 16 → digit_of (hex_digit n) ≡ Some n
digit n h = grind (arith, nat_tests)

two : (n : ℕ) → n < 256 → part_of (digit_of (hex_digit (n / 16))) (digit_of (hex_digit (n % 16))) ≡ Some n
two n h = grind (arith, nat_tests, digit)

pub color_back : (red green blue : ℕ) → red < 256 → green < 256 → blue < 256 → given_color (hex_color (rgb red green blue)) ≡ Some (rgb red green blue)
color_back red green blue r g b = rw (two red r, two green g, two blue b) refl

pub xterm_colors : (place : ℕ) → color_at xterm place ≡ Some (palette place)
unfolding palette
xterm_colors place = grind arith
