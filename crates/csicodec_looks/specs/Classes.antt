-- Classes of CSS that say how text looks, and the attributes of a span.
use Rattle.std.specs.Prelude.{ℕ, ◌<◌, ⊤, Bool, true, false, not, ◌||◌, List, [], ◌∷◌, ◌++◌, codes, if◌then◌else◌, Option, Some, None}
use Rattle.std.specs.Fmt.{decimal}
use Rattle.csicodec_names.specs.{declared.color.ColorSpec.ColorSpec, declared.color.Intensity.Intensity, declared.color.Underline.Underline}
use Rattle.csicodec_looks.specs.{declared.classes.Class.Class, declared.classes.Layer.Layer, declared.look.Look.Look, declared.markup.Markup.Markup, Look.css}
use Rattle.csicodec_looks.specs.{Look.has_line, Look.hex_color, Look.is_none, Look.property_of, Look.settled}

-- ---- the names

-- what a colour is of
abbrev pub part_name : Layer → List ℕ
part_name Layer.Text = codes "fg-"
part_name Layer.Ground = codes "bg-"
part_name Layer.Line = codes "line-"
part_name Layer.TextAsGround = codes "fg-background-"
part_name Layer.GroundAsText = codes "bg-foreground-"

-- the names of classes: there are no others
abbrev pub class_name : Class → List ℕ
class_name Class.Bold = codes "bold"
class_name Class.Faint = codes "faint"
class_name Class.Italic = codes "italic"
class_name Class.Underline = codes "underline"
class_name Class.Double = codes "underline-double"
class_name Class.Curly = codes "underline-curly"
class_name Class.Dotted = codes "underline-dotted"
class_name Class.Dashed = codes "underline-dashed"
class_name Class.Overline = codes "overline"
class_name Class.Strike = codes "strike"
class_name Class.TextAsGround = codes "fg-background"
class_name Class.GroundAsText = codes "bg-foreground"
class_name (Class.Color p i) = part_name p ++ decimal i

-- a place is below 256
abbrev pub IsClass : Class → Type 0
IsClass (Class.Color p i) = i < 256
IsClass c = ⊤

-- ---- the classes of a look

abbrev pub class_if : Bool → Class → Option Class
class_if is_there c = if is_there then Some c else None

abbrev pub weight_class : Intensity → Option Class
weight_class Intensity.Normal = None
weight_class Intensity.Bold = Some Class.Bold
weight_class Intensity.Half = Some Class.Faint

-- the kind of the lines, where it isn't a single one
abbrev pub lines_class : Underline → Option Class
lines_class Underline.Double = Some Class.Double
lines_class Underline.Curly = Some Class.Curly
lines_class Underline.Dotted = Some Class.Dotted
lines_class Underline.Dashed = Some Class.Dashed
lines_class u = None

-- a colour by its number, and the class for the page's own, if there is one; a colour by its parts has none
abbrev pub color_class : Layer → Option Class → ColorSpec → Option Class
color_class p own ColorSpec.Default = own
color_class p own (ColorSpec.PaletteIndex i) = Some (Class.Color p i)
color_class p own (ColorSpec.TrueColor c) = None

-- what the colours of text and background are of, which may have changed places
abbrev pub text_part : Look → Layer
text_part l = if l.inverse then Layer.TextAsGround else Layer.Text

abbrev pub ground_part : Look → Layer
ground_part l = if l.inverse then Layer.GroundAsText else Layer.Ground

-- the colours that they have, and that of lines, where there are any
abbrev pub text_color : Look → ColorSpec
text_color l = if l.inverse then l.background else l.foreground

abbrev pub ground_color : Look → ColorSpec
ground_color l = if l.inverse then l.foreground else l.background

abbrev pub lines_color : Look → ColorSpec
lines_color l = if has_line l then l.line else ColorSpec.Default

abbrev pub classes_of : Look → List (Option Class)
classes_of l =
    weight_class l.intensity ∷ class_if l.italic Class.Italic
    ∷ class_if (not (is_none l.underline)) Class.Underline ∷ lines_class l.underline
    ∷ class_if l.overline Class.Overline ∷ class_if l.strike Class.Strike
    ∷ color_class (text_part l) (class_if l.inverse Class.TextAsGround) (text_color l)
    ∷ color_class (ground_part l) (class_if l.inverse Class.GroundAsText) (ground_color l)
    ∷ color_class Layer.Line None (lines_color l) ∷ []

-- ---- the attributes of a span

-- what stands ahead of a class, by whether one came before
abbrev pub ahead : Bool → List ℕ
ahead came = if came then 32 ∷ [] else codes " class=\""

abbrev pub slot_text : Bool → Option Class → List ℕ
slot_text came None = []
slot_text came (Some c) = ahead came ++ class_name c

abbrev pub behind_slot : Bool → Option Class → Bool
behind_slot came None = came
behind_slot came (Some c) = true

-- the names of the classes that are there, with a blank between two; no attribute where there are none
abbrev pub names : Bool → List (Option Class) → List ℕ
names came [] = if came then 34 ∷ [] else []
names came (slot ∷ slots) = slot_text came slot ++ names (behind_slot came slot) slots

abbrev pub is_true : ColorSpec → Bool
is_true (ColorSpec.TrueColor c) = true
is_true c = false

-- a colour by its parts
abbrev pub true_color : Layer → ColorSpec → List ℕ
true_color p (ColorSpec.TrueColor c) = property_of p ++ (hex_color c ++ 59 ∷ [])
true_color p c = []

unfoldable pub true_colors : Look → List ℕ
true_colors l =
    true_color Layer.Text (text_color l)
    ++ (true_color Layer.Ground (ground_color l) ++ true_color Layer.Line (lines_color l))

abbrev pub has_true : Look → Bool
has_true l = is_true (text_color l) || (is_true (ground_color l) || is_true (lines_color l))

abbrev pub style_attribute : List ℕ → List ℕ
style_attribute style = codes " style=\"" ++ (style ++ 34 ∷ [])

-- colours by their parts stand in a style where all else is a class
abbrev pub rest_attribute : Look → List ℕ
rest_attribute l = if has_true l then style_attribute (true_colors l) else []

abbrev pub attributes_of : Markup → Look → List ℕ
attributes_of m l =
    if m.classes then names false (classes_of l) ++ rest_attribute l
    else style_attribute (css m.palette l)

-- of the look as it can be read
abbrev pub attributes : Markup → Look → List ℕ
attributes m l = attributes_of m (settled m.palette l)
