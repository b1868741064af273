-- The colours of a page by number, and the page's own.
use Rattle.std.specs.Prelude.{ℕ, nat_lt, get_or, Bool, List, [], ◌∷◌, codes, if◌then◌else◌, Option, Some, None, is_none}
use Rattle.csicodec_names.specs.{declared.color.ColorSpec.ColorSpec, declared.color.SrgbaTuple.SrgbaTuple}
use Rattle.csicodec_looks.specs.{Xterm.first_places, Xterm.palette, Xterm.rgb, declared.classes.Layer.Layer, declared.palette.Palette.Palette}

-- where nobody chose: the first 16 colours are pairs, and the page's own colours are the browser's
abbrev pub readable : Palette
readable = record { first = None; foreground = None; background = None }

-- each of the first 16 is a pair
abbrev pub has_pairs : Palette → Bool
has_pairs p = is_none p.first

-- xterm's, and the page's own colours are the browser's
abbrev pub xterm : Palette
xterm = record { first = Some first_places; foreground = None; background = None }

abbrev pub first_color : Option (List SrgbaTuple) → ℕ → Option SrgbaTuple
first_color None i = None
first_color (Some cs) i = Some (get_or cs i (rgb 0 0 0))

-- the colour of a place: one that is given below 16, and from there on xterm's cube and greys, which are the same on every terminal
abbrev pub color_at : Palette → ℕ → Option SrgbaTuple
color_at p i = if nat_lt i 16 then first_color p.first i else Some (palette i)

-- the page's own colour is the one that is given for it, if one is
abbrev pub or_own : Option SrgbaTuple → ColorSpec → ColorSpec
or_own (Some own) ColorSpec.Default = ColorSpec.TrueColor own
or_own None ColorSpec.Default = ColorSpec.Default
or_own given (ColorSpec.PaletteIndex i) = ColorSpec.PaletteIndex i
or_own given (ColorSpec.TrueColor c) = ColorSpec.TrueColor c

-- ---- pairs: a colour on a light page, and one on a dark page (CSS Color, level 5, `light-dark`). Of text, and of what is behind it:
-- each text has a contrast of at least 4.5 to 1 (WCAG 2.2, 1.4.3) to each ground, and to the page's own; `.ci/contrast` measures it

abbrev pub pairs : List (List ℕ × List ℕ)
pairs =
    (codes "light-dark(#000000,#a9b1ba)", codes "light-dark(#d8dde2,#000000)")
    ∷ (codes "light-dark(#9f0017,#ff8e86)", codes "light-dark(#fed3ce,#581c1a)")
    ∷ (codes "light-dark(#015a14,#5fc366)", codes "light-dark(#b7eab8,#04390c)")
    ∷ (codes "light-dark(#634901,#dca603)", codes "light-dark(#f7da9c,#3f2d00)")
    ∷ (codes "light-dark(#0049a3,#7ab0ff)", codes "light-dark(#c9dffe,#0f2f5d)")
    ∷ (codes "light-dark(#890092,#e68eec)", codes "light-dark(#fdceff,#49204c)")
    ∷ (codes "light-dark(#03565e,#00c0cf)", codes "light-dark(#93ebf4,#00363b)")
    ∷ (codes "light-dark(#3d444d,#d5dbe1)", codes "light-dark(#eef0f2,#31373d)")
    ∷ (codes "light-dark(#57606a,#b4bcc5)", codes "light-dark(#e2e6ea,#262b31)")
    ∷ (codes "light-dark(#bf001d,#ffb3ac)", codes "light-dark(#ffe4e1,#6f2120)")
    ∷ (codes "light-dark(#006e1a,#77db7d)", codes "light-dark(#bdf9bd,#00470d)")
    ∷ (codes "light-dark(#795900,#f6bd2a)", codes "light-dark(#ffe8b8,#4f3900)")
    ∷ (codes "light-dark(#005ac4,#a3c8fe)", codes "light-dark(#deebfe,#123b76)")
    ∷ (codes "light-dark(#a600b1,#faaafe)", codes "light-dark(#fee1ff,#5c2760)")
    ∷ (codes "light-dark(#046871,#04daeb)", codes "light-dark(#aef6fe,#00434a)")
    ∷ (codes "light-dark(#24292f,#ffffff)", codes "light-dark(#ffffff,#3a4148)") ∷ []

abbrev pub pair_of : Layer → ℕ → List ℕ
pair_of Layer.Ground i = (get_or pairs i ([], [])).1
pair_of Layer.TextAsGround i = (get_or pairs i ([], [])).1
pair_of of i = (get_or pairs i ([], [])).0
