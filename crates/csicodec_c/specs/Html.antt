-- What the calls for pages of HTML, and for lines as they stand when they end, answer a C program.
use Rattle.std.specs.Prelude.{ℕ, ◌≡◌, ◌==◌, ◌/◌, ◌%◌, ◌||◌, Bool, true, false, Option, Some, List, ◌++◌, length, map, if◌then◌else◌}
use Rattle.csicodec_names.specs.declared.color.SrgbaTuple.{SrgbaTuple}
use Rattle.csicodec_looks.specs.{Xterm.rgb, declared.markup.Markup.Markup, declared.palette.Palette.Palette, Given.given_palette, Pieces.simple, Sheet.sheet}
use Rattle.csicodec_clean.specs.Page.{IsPageWith, PageWith}
use Rattle.csicodec_html.specs.Sheet.{IsTitle}
use Rattle.csicodec_overwrite.specs.Reading.{Paints}
use Rattle.csicodec_c.specs.{declared.html.PageSettings.PageSettings, declared.html.Choices.Choices, Strip.bit}

-- a colour by its number: eight bits each of red, green and blue, which are the lowest
abbrev pub color_of : ℕ → SrgbaTuple
color_of n = rgb (n / 65536 % 256) (n / 256 % 256) (n % 256)

-- a palette by its colours: without any the one that a page has where nobody chose another
abbrev pub palette_of : List ℕ → Option Palette
palette_of numbers =
    if length numbers == 0 then Some simple.palette else given_palette (map color_of numbers)

-- what is asked for, by its numbers
abbrev pub IsAsked : Choices → Palette → PageSettings → Type 0
IsAsked choices palette asked = (choices.links ≡ bit asked.markup.links)
    × (choices.classes ≡ bit asked.markup.classes) × (choices.fragment ≡ bit asked.fragment)
    × (choices.no_overwrite ≡ bit asked.no_overwrite) × (palette ≡ asked.markup.palette)

-- with the colours
abbrev pub IsAskedIn : Choices → List ℕ → PageSettings → Type 0
IsAskedIn choices colors asked =
    (palette : Palette) × (palette_of colors ≡ Some palette) × IsAsked choices palette asked

-- the piece of a page that bytes become; where text doesn't stay that is written over, that of their lines, each as it stands when it ends
abbrev pub IsPiece : Bool → Markup → List ℕ → List ℕ → Type 0
IsPiece true m bytes piece = PageWith m bytes piece
IsPiece false m bytes piece = (painted : List ℕ) × Paints bytes painted × PageWith m painted piece

-- links are kept by the first alone
abbrev pub IsPieceOf : PageSettings → List ℕ → List ℕ → Type 0
IsPieceOf asked bytes piece =
    IsPiece (asked.no_overwrite || asked.markup.links) asked.markup bytes piece

-- a page of its own: a head with a name and a style sheet, the piece, and what ends it
abbrev pub IsWhole : List ℕ → List ℕ → List ℕ → List ℕ → List ℕ → Markup → List ℕ → List ℕ
    → Type 0
IsWhole name head style body behind m piece page = (title : List ℕ) × IsTitle name title
    × (page ≡ (head ++ (title ++ (style ++ (sheet m ++ body)))) ++ (piece ++ behind))

-- the piece alone, or such a page
abbrev pub IsFramed : Bool → (List ℕ → List ℕ → Type 0) → List ℕ → List ℕ → Type 0
IsFramed true Whole piece page = page ≡ piece
IsFramed false Whole piece page = Whole piece page

-- such a page of the bytes; its piece has text that is shown, escaped, and tags in pairs
abbrev pub IsPage : (Markup → List ℕ → List ℕ → Type 0) → List ℕ → PageSettings → List ℕ → Type 0
IsPage Whole bytes asked page = (piece : List ℕ) × IsPieceOf asked bytes piece × IsPageWith asked.markup piece
    × IsFramed asked.fragment (Whole asked.markup) piece page
