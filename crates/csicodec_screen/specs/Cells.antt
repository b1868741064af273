-- What stands in a row of a screen, cell by cell, and how a row is edited. Columns are counted from 0.
use Rattle.std.specs.Prelude.{ℕ, min, not, Bool, true, false, List, take, drop, replicate, set, get_or, nat_lt, ◌+◌, ◌-◌, ◌∷◌, ◌&&◌, ◌||◌, [], if◌then◌else◌}
use Rattle.csicodec_base.specs.declared.sgr.Sgr.{Sgr}
use Rattle.csicodec_names.specs.{declared.color.ColorSpec.ColorSpec, declared.color.Intensity.Intensity}
use Rattle.csicodec_screen.specs.{Lists.down, Lists.filled, Lists.overlaid, Lists.up, Lists.within, declared.cell.Cell.Cell}
use Rattle.csicodec_screen.specs.{declared.cell.Cell.TheVariants.Behind, declared.cell.Cell.TheVariants.Char, declared.cell.Cell.TheVariants.Empty}
use Rattle.csicodec_screen.specs.{declared.cell.Cell.TheVariants.Wide, declared.cell.Glyph.Glyph, declared.look.Look.Look, declared.look.Pen.Pen}
use Rattle.csicodec_names.specs.declared.color.Blink.TheVariants as blinking
use Rattle.csicodec_names.specs.declared.color.ColorSpec.TheVariants as color
use Rattle.csicodec_names.specs.declared.color.Intensity.TheVariants as intensity
use Rattle.csicodec_base.specs.declared.sgr.Sgr.TheVariants as sgr
use Rattle.csicodec_names.specs.declared.color.Underline.TheVariants as underline

-- ---- how characters look

abbrev pub plain : Look
plain = record {
  bold = false;
  faint = false;
  italic = false;
  underline = underline.None;
  blink = blinking.None;
  inverse = false;
  concealed = false;
  struck = false;
  overlined = false;
  foreground = color.Default;
  background = color.Default;
  line = color.Default;
}

-- bold and faint are set together or alone, and 22 sets neither
abbrev pub with_intensity : Look → Intensity → Look
with_intensity l intensity.Normal = record l { bold = false; faint = false }
with_intensity l intensity.Bold = record l { bold = true }
with_intensity l intensity.Half = record l { faint = true }

-- behind an attribute; fonts and raised text aren't shown
abbrev pub behind : Look → Sgr → Look
behind l sgr.Reset = plain
behind l (sgr.Intensity x) = with_intensity l x
behind l (sgr.Underline x) = record l { underline = x }
behind l (sgr.UnderlineColor x) = record l { line = x }
behind l (sgr.Blink x) = record l { blink = x }
behind l (sgr.Italic x) = record l { italic = x }
behind l (sgr.Inverse x) = record l { inverse = x }
behind l (sgr.Invisible x) = record l { concealed = x }
behind l (sgr.StrikeThrough x) = record l { struck = x }
behind l (sgr.Font x) = l
behind l (sgr.Foreground x) = record l { foreground = x }
behind l (sgr.Background x) = record l { background = x }
behind l (sgr.Overline x) = record l { overlined = x }
behind l (sgr.VerticalAlign x) = l

-- without attributes, link and protection
abbrev pub plain_pen : Pen
plain_pen = record { look = plain; link = 0; protected = false }

-- ---- cells

-- a character has no more marks
abbrev pub most_marks : ℕ
most_marks = 8

-- a character to which no mark is joined
abbrev pub bare : ℕ → Pen → Glyph
bare c pen = record { char = c; marks = replicate most_marks 0; count = 0; pen = pen }

abbrev pub is_behind : Cell → Bool
is_behind Behind = true
is_behind x = false

abbrev pub is_wide : Cell → Bool
is_wide (Wide g) = true
is_wide x = false

-- it isn't erased where only what is unprotected is
abbrev pub is_protected : Cell → Bool
is_protected (Char g) = g.pen.protected
is_protected (Wide g) = g.pen.protected
is_protected x = false

abbrev pub nothing : Cell
nothing = Empty color.Default

abbrev pub cell_at : ℕ → List Cell → Cell
cell_at c cells = get_or cells c nothing

abbrev pub blanks : ColorSpec → ℕ → List Cell
blanks background n = replicate n (Empty background)

-- both columns of a character that is cut in two are spaces of its look
abbrev pub first_half : Cell → Cell
first_half (Wide g) = Char (bare 32 g.pen)
first_half x = x

abbrev pub second_half : Cell → Cell
second_half (Wide g) = Char (bare 32 g.pen)
second_half x = nothing

-- in front of column c and at it
abbrev pub halved : ℕ → List Cell → List Cell
halved c cells = set (set cells (c - 1) (first_half (cell_at (c - 1) cells))) c (second_half (cell_at (c - 1) cells))

-- no character stands on both sides of column c
abbrev pub cut : ℕ → List Cell → List Cell
cut c cells = if is_behind (cell_at c cells) then halved c cells else cells

abbrev pub cut_twice : ℕ → ℕ → List Cell → List Cell
cut_twice c d cells = cut d (cut c cells)

-- the cells from column c to d
abbrev pub between : ℕ → ℕ → List Cell → List Cell
between c d cells = take (d - c) (drop c cells)

-- in a part of a row what is unprotected is empty
abbrev pub unprotected : ColorSpec → Bool → List Cell → List Cell
unprotected background keeps [] = []
unprotected background keeps (x ∷ cells) = (if is_protected x || (keeps && is_behind x) then x else Empty background)
    ∷ unprotected background (is_protected x) cells

-- from column c to d all are empty; where it spares, but for what is protected
abbrev pub emptied : Bool → ColorSpec → ℕ → ℕ → List Cell → List Cell
emptied spares background c d cells = within c d (if spares then unprotected background false else filled (Empty background)) (cut_twice c d cells)

-- ICH (ECMA-48, 8.3.64) and DCH (8.3.26) within the columns from c to d: n empty cells come in at column c, or at the end; no character is left half
abbrev pub inserted : ColorSpec → ℕ → ℕ → ℕ → List Cell → List Cell
inserted background n c d cells = within c d (down n (Empty background)) (cut (d - min n (d - c)) (cut_twice c d cells))

abbrev pub deleted : ColorSpec → ℕ → ℕ → ℕ → List Cell → List Cell
deleted background n c d cells = within c d (up n (Empty background)) (cut (c + min n (d - c)) (cut_twice c d cells))

-- from column c to d each is x
abbrev pub flooded : Cell → ℕ → ℕ → List Cell → List Cell
flooded x c d cells = within c d (filled x) (cut_twice c d cells)

-- from column c on these, and no further than to column d
abbrev pub pasted : List Cell → ℕ → ℕ → List Cell → List Cell
pasted new c d cells = within c d (overlaid new) (cut_twice c d cells)

-- a character of one column, or of two, stands from column c to d
abbrev pub stood : Bool → Glyph → ℕ → ℕ → List Cell → List Cell
stood wide g c d cells = if wide then set (set cells c (Wide g)) (d - 1) Behind else set cells c (Char g)

abbrev pub drawn : Bool → Glyph → ℕ → ℕ → List Cell → List Cell
drawn wide g c d cells = stood wide g c d (cut_twice c d cells)

-- ---- looks of what is written

abbrev pub glyph_with : (Look → Look) → Glyph → Glyph
glyph_with f g = record g { pen = record g.pen { look = f g.pen.look } }

abbrev pub cell_with : (Look → Look) → Cell → Cell
cell_with f (Char g) = Char (glyph_with f g)
cell_with f (Wide g) = Wide (glyph_with f g)
cell_with f x = x

-- ---- marks

abbrev pub glyph_marked : ℕ → Glyph → Glyph
glyph_marked c g = if nat_lt g.count most_marks then record g { marks = set g.marks g.count c; count = g.count + 1 } else g

-- a mark joins the character of a cell
abbrev pub marked : ℕ → Cell → Cell
marked c (Char g) = Char (glyph_marked c g)
marked c (Wide g) = Wide (glyph_marked c g)
marked c x = x

-- the column of the character that stands at a column, or whose second one does
abbrev pub base_at : ℕ → List Cell → ℕ
base_at c cells = if is_behind (cell_at c cells) then c - 1 else c

abbrev pub joined_by : ℕ → ℕ → List Cell → List Cell
joined_by mark c cells = set cells (base_at c cells) (marked mark (cell_at (base_at c cells) cells))

-- ---- a row is whole: behind the first column of a wide character stands its second, and nowhere else

abbrev pub same : Bool → Bool → Bool
same true b = b
same false b = not b

abbrev pub are_whole : Bool → List Cell → Bool
are_whole wide [] = not wide
are_whole wide (x ∷ cells) = same wide (is_behind x) && are_whole (is_wide x) cells
