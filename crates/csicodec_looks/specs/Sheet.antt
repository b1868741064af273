-- The style sheet of a page of its own.
use Rattle.std.specs.Prelude.{ℕ, ◌≡◌, zero, suc, Bool, true, false, not, List, [], ◌∷◌, ◌++◌, codes, if◌then◌else◌, Option, Some, None}
use Rattle.std.specs.List.{flat_map}
use Rattle.csicodec_names.specs.{declared.color.ColorSpec.ColorSpec, declared.color.SrgbaTuple.SrgbaTuple, declared.color.Underline.Underline}
use Rattle.csicodec_names.specs.{declared.color.Intensity.Intensity}
use Rattle.csicodec_looks.specs.Look.{hex_color, is_none, line_color, line_kind, line_places, plain, property, slant, weight}
use Rattle.csicodec_looks.specs.{declared.classes.Class.Class, declared.classes.Layer.Layer, declared.look.Look.Look, declared.markup.Markup.Markup}
use Rattle.csicodec_looks.specs.{declared.palette.Palette.Palette, Classes.class_name, Classes.color_class, Classes.true_color, Palette.or_own}

-- ---- the page's own colours

-- one that is given
abbrev pub own_color : List ℕ → Option SrgbaTuple → List ℕ
own_color what None = []
own_color what (Some c) = what ++ (hex_color c ++ 59 ∷ [])

-- both, in the rule that the page's front begins
unfoldable pub own_colors : Palette → List ℕ
own_colors p = own_color (codes "color:") p.foreground
    ++ (own_color (codes "background-color:") p.background ++ codes "}\n")

-- ---- what each class means

-- a part of `text-decoration` by itself (CSS Text Decoration, level 3, 2.1 to 2.3): the words have a blank ahead
abbrev pub longhand : List ℕ → List ℕ → List ℕ
longhand what [] = []
longhand what (blank ∷ words) = what ++ (words ++ 59 ∷ [])

-- which lines there are
unfoldable pub places : Look → List ℕ
places l = longhand (codes "text-decoration-line:") (line_places l)

-- of which kind
unfoldable pub kind_of_lines : Underline → List ℕ
kind_of_lines u = longhand (codes "text-decoration-style:") (line_kind u)

-- of which colour
unfoldable pub color_of_lines : Palette → ColorSpec → List ℕ
color_of_lines p c = longhand (codes "text-decoration-color:") (line_color p c)

-- a look that has these lines, and nothing else
abbrev pub lined : Underline → Bool → Bool → Look
lined below above through = record plain { underline = below; overline = above; strike = through }

-- what a class declares: what the style of a look does that has nothing else
unfoldable pub declaration : Palette → Class → List ℕ
declaration p Class.Bold = weight Intensity.Bold
declaration p Class.Faint = weight Intensity.Half
declaration p Class.Italic = slant true
declaration p Class.Underline = places (lined Underline.Single false false)
declaration p Class.Overline = places (lined Underline.None true false)
declaration p Class.Strike = places (lined Underline.None false true)
declaration p Class.Double = kind_of_lines Underline.Double
declaration p Class.Curly = kind_of_lines Underline.Curly
declaration p Class.Dotted = kind_of_lines Underline.Dotted
declaration p Class.Dashed = kind_of_lines Underline.Dashed
declaration p Class.TextAsGround =
    property p Layer.TextAsGround (or_own p.background ColorSpec.Default)
declaration p Class.GroundAsText =
    property p Layer.GroundAsText (or_own p.foreground ColorSpec.Default)
declaration p (Class.Color of i) = property p of (ColorSpec.PaletteIndex i)

abbrev pub rule_of : Class → List ℕ → List ℕ
rule_of c declared = 46 ∷ (class_name c ++ 123 ∷ (declared ++ codes "}\n"))

unfoldable pub class_rule : Palette → Class → List ℕ
class_rule p c = rule_of c (declaration p c)

abbrev pub selector : Bool → Class → List ℕ
selector is_there c = if is_there then codes "." ++ class_name c else []

-- lines, by all their classes: of the rules that fit a span the one of most classes counts (Selectors, level 3, 9)
unfoldable pub line_rule : Look → List ℕ
line_rule l =
    selector (not (is_none l.underline)) Class.Underline
    ++ (selector l.overline Class.Overline ++ (selector l.strike Class.Strike
    ++ (codes "{" ++ (places l ++ codes "}\n"))))

-- the classes that have the same meaning on every page
unfoldable pub fixed_rules : Palette → List ℕ
fixed_rules p =
    flat_map (class_rule p) (Class.Bold ∷ Class.Faint ∷ Class.Italic
    ∷ Class.Underline ∷ Class.Overline ∷ Class.Strike ∷ [])
    ++ (flat_map line_rule (lined Underline.Single true false ∷ lined Underline.Single false true
    ∷ lined Underline.None true true ∷ lined Underline.Single true true ∷ [])
    ++ flat_map (class_rule p) (Class.Double ∷ Class.Curly ∷ Class.Dotted ∷ Class.Dashed ∷ []))

-- the colours of so many places from 0 on
unfoldable pub color_rules : Palette → Layer → ℕ → List ℕ
color_rules p of zero = []
color_rules p of (suc i) = color_rules p of i ++ class_rule p (Class.Color of i)

-- all classes
unfoldable pub class_rules : Palette → List ℕ
class_rules p = fixed_rules p ++ (class_rule p Class.TextAsGround
    ++ (class_rule p Class.GroundAsText ++ (color_rules p Layer.Text 256
    ++ (color_rules p Layer.Ground 256 ++ (color_rules p Layer.Line 256
    ++ (color_rules p Layer.TextAsGround 256 ++ color_rules p Layer.GroundAsText 256))))))

-- what the style sheet has of the markup
unfoldable pub sheet : Markup → List ℕ
sheet m = own_colors m.palette ++ (if m.classes then class_rules m.palette else [])

-- ---- what the attributes of a span say by it

abbrev pub declares : Palette → Option Class → List ℕ
declares p None = []
declares p (Some c) = declaration p c

-- of a colour: its class, or the style beside the classes
abbrev pub said : Palette → Layer → Option Class → ColorSpec → List ℕ
said p of own c = declares p (color_class of own c) ++ true_color of c

-- what stands somewhere in it
abbrev pub IsIn : List ℕ → List ℕ → Type 0
IsIn own all = (front behind : List ℕ) × (all ≡ front ++ (own ++ behind))
