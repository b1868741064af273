-- How text looks by the attributes that are set, and the declarations of CSS that say it.
use Rattle.std.specs.Prelude.{ℕ, ◌+◌, ◌/◌, ◌%◌, Bool, true, false, not, ◌&&◌, ◌||◌, nat_lt, List, [], ◌∷◌, ◌++◌, codes, if◌then◌else◌, Option, Some, None, is_some}
use Rattle.csicodec_names.specs.{declared.color.ColorSpec.ColorSpec, declared.color.Intensity.Intensity, declared.color.SrgbaTuple.SrgbaTuple}
use Rattle.csicodec_names.specs.{declared.color.Underline.Underline}
use Rattle.csicodec_base.specs.declared.sgr.Sgr.{Sgr}
use Rattle.csicodec_looks.specs.{Xterm.palette, declared.classes.Layer.Layer, declared.look.Look.Look, declared.palette.Palette.Palette, Contrast.known}
use Rattle.csicodec_looks.specs.{Contrast.legible, Palette.color_at, Palette.has_pairs, Palette.or_own, Palette.pair_of}
use Rattle.csicodec_names.specs.declared.color.ColorSpec.TheVariants as color
use Rattle.csicodec_names.specs.declared.color.Intensity.TheVariants as intensity
use Rattle.csicodec_names.specs.declared.color.Underline.TheVariants as underline
use Rattle.csicodec_base.specs.declared.sgr.Sgr.TheVariants as sgr
use Rattle.csicodec_looks.specs.declared.classes.Layer.TheVariants as part

-- where nothing is set
abbrev pub plain : Look
plain = record {
  intensity = intensity.Normal;
  italic = false;
  underline = underline.None;
  line = color.Default;
  overline = false;
  strike = false;
  inverse = false;
  foreground = color.Default;
  background = color.Default;
}

-- behind an attribute; concealed text is shown, and what blinks, other fonts and raised text are as any other
abbrev pub behind : Look → Sgr → Look
behind l sgr.Reset = plain
behind l (sgr.Intensity x) = record l { intensity = x }
behind l (sgr.Underline x) = record l { underline = x }
behind l (sgr.UnderlineColor x) = record l { line = x }
behind l (sgr.Italic x) = record l { italic = x }
behind l (sgr.Inverse x) = record l { inverse = x }
behind l (sgr.StrikeThrough x) = record l { strike = x }
behind l (sgr.Foreground x) = record l { foreground = x }
behind l (sgr.Background x) = record l { background = x }
behind l (sgr.Overline x) = record l { overline = x }
behind l s = l

abbrev pub is_normal : Intensity → Bool
is_normal intensity.Normal = true
is_normal i = false

abbrev pub is_none : Underline → Bool
is_none underline.None = true
is_none u = false

abbrev pub is_default : ColorSpec → Bool
is_default color.Default = true
is_default c = false

-- a line below, above or through it
abbrev pub has_line : Look → Bool
has_line l = not (is_none l.underline) || (l.overline || l.strike)

-- it looks as text without attributes
abbrev pub is_plain : Look → Bool
is_plain l = is_normal l.intensity &&
    (not l.italic &&
    (not (has_line l) && (not l.inverse && (is_default l.foreground && is_default l.background))))

-- ---- colours beside pairs

-- one that is the same on a light and on a dark page
abbrev pub is_exact : ColorSpec → Bool
is_exact c = is_some (known c)

abbrev pub settled_color : ColorSpec → ColorSpec
settled_color (color.PaletteIndex i) =
    if nat_lt i 16 then color.TrueColor (palette i) else color.PaletteIndex i
settled_color c = c

-- text or background has one, and pairs could stand beside it
abbrev pub is_mixed : Palette → Look → Bool
is_mixed p l = has_pairs p && (is_exact l.foreground || is_exact l.background)

-- where text and background change places, what is behind text has the text's colour
abbrev pub legible_look : Look → Look
legible_look l =
    if l.inverse then record l { background = legible l.foreground l.background }
    else record l { foreground = legible l.background l.foreground }

-- A pair can be read beside another one, and beside the page's own colour. Where text or background has another colour, both have
-- xterm's, and text that can't be read so gets a colour in which it can.
abbrev pub settled : Palette → Look → Look
settled p l =
    if is_mixed p l then legible_look (record l {
      foreground = settled_color l.foreground;
      background = settled_color l.background;
    })
    else l

-- ---- CSS

-- a digit of base sixteen
abbrev pub hex_digit : ℕ → ℕ
hex_digit n = if nat_lt n 10 then n + 48 else n + 87

abbrev pub two_digits : ℕ → List ℕ
two_digits n = hex_digit (n / 16) ∷ hex_digit (n % 16) ∷ []

-- `#rrggbb`
abbrev pub hex_color : SrgbaTuple → List ℕ
hex_color c = 35 ∷ (two_digits c.0 ++ (two_digits c.1 ++ two_digits c.2))

-- what a colour is of
abbrev pub property_of : Layer → List ℕ
property_of part.Line = codes "text-decoration-color:"
property_of part.Ground = codes "background-color:"
property_of part.GroundAsText = codes "background-color:"
property_of of = codes "color:"

-- the page's own colour that a part has where text and background change places
abbrev pub own_name : Layer → List ℕ
own_name part.TextAsGround = codes "Canvas"
own_name part.GroundAsText = codes "CanvasText"
own_name of = []

-- the colour of a place, or its pair where it has none
abbrev pub place_text : Layer → ℕ → Option SrgbaTuple → List ℕ
place_text of i None = pair_of of i
place_text of i (Some c) = hex_color c

-- a colour, with a name for the page's own
abbrev pub color_text : Palette → Layer → ColorSpec → List ℕ
color_text p of color.Default = own_name of
color_text p of (color.PaletteIndex i) = place_text of i (color_at p i)
color_text p of (color.TrueColor c) = hex_color c

unfoldable pub weight : Intensity → List ℕ
weight intensity.Normal = []
weight intensity.Bold = codes "font-weight:bold;"
weight intensity.Half = codes "opacity:.7;"

abbrev pub slant : Bool → List ℕ
slant italic = if italic then codes "font-style:italic;" else []

-- the kind of the lines, where it isn't a single one
unfoldable pub line_kind : Underline → List ℕ
line_kind underline.Double = codes " double"
line_kind underline.Curly = codes " wavy"
line_kind underline.Dotted = codes " dotted"
line_kind underline.Dashed = codes " dashed"
line_kind u = []

-- a colour of the lines that isn't the text's
unfoldable pub line_color : Palette → ColorSpec → List ℕ
line_color p c = if is_default c then [] else 32 ∷ color_text p part.Line c

unfoldable pub line_places : Look → List ℕ
line_places l =
    (if not (is_none l.underline) then codes " underline" else [])
    ++ ((if l.overline then codes " overline" else [])
    ++ (if l.strike then codes " line-through" else []))

unfoldable pub lines : Palette → Look → List ℕ
lines p l =
    if has_line l then codes "text-decoration:"
    ++ (line_places l ++ (line_kind l.underline ++ (line_color p l.line ++ 59 ∷ [])))
    else []

-- what a colour is of, and the colour
unfoldable pub property : Palette → Layer → ColorSpec → List ℕ
property p of c = property_of of ++ (color_text p of c ++ 59 ∷ [])

-- of one that isn't the page's own
unfoldable pub colored : Palette → Layer → ColorSpec → List ℕ
colored p of c = if is_default c then [] else property p of c

-- text and background: where they change places the page's own colours that aren't given have names
unfoldable pub colors : Palette → Look → List ℕ
colors p l =
    if l.inverse then property p part.TextAsGround (or_own p.background l.background)
    ++ property p part.GroundAsText (or_own p.foreground l.foreground)
    else colored p part.Text l.foreground ++ colored p part.Ground l.background

-- the declarations of a look
abbrev pub css : Palette → Look → List ℕ
css p l = weight l.intensity ++ (slant l.italic ++ (lines p l ++ colors p l))
