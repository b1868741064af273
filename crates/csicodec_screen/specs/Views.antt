-- How a screen is written: rows as lines, each with its newline. How lines are written is `Paint` of csicodec_looks.
use Rattle.std.specs.Prelude.{ℕ, ◌≡◌, take, reverse, length, nat_le, Bool, true, false, List, [], ◌∷◌, ◌++◌, ◌/◌, ◌==◌, ◌&&◌, encode_utf8_all, if◌then◌else◌}
use Rattle.std.specs.{List.AllByRecursion, List.flat_map, Str.all_scalars}
use lib.Utf8.{scalar}
use Rattle.csicodec_looks.specs.{declared.cells.Cell.Cell as LineCell, declared.look.Look.Look as LineLook, declared.marking.Marking.Marking, Cells.glyph}
use Rattle.csicodec_looks.specs.{Look.is_default, Look.is_plain, Look.plain as plain_line, Paint.ended, Shown.IsShown, Shown.shown}
use Rattle.csicodec_screen.specs.{declared.cell.Cell.Cell, declared.cell.Glyph.Glyph, declared.look.Look.Look, declared.rows.Row.Row, declared.rows.Size.Size}
use Rattle.csicodec_screen.specs.{declared.rows.Size.TheVariants.Single, declared.screen.Screen.Screen}
use Rattle.csicodec_screen.specs.declared.cell.Cell.TheVariants as cell
use Rattle.csicodec_looks.specs.declared.cells.Cell.TheVariants as line
use Rattle.csicodec_names.specs.declared.color.Intensity.TheVariants as intensity

-- How a look is written: what is bold and faint at once as bold, and blinking and concealed text as any other.
abbrev pub line_look : Look → LineLook
line_look l = record {
  intensity = if l.bold then intensity.Bold else (if l.faint then intensity.Half else intensity.Normal);
  italic = l.italic;
  underline = l.underline;
  line = l.line;
  overline = l.overlined;
  strike = l.struck;
  inverse = l.inverse;
  foreground = l.foreground;
  background = l.background;
}

-- a character of a cell is written: one of Unicode, and no control, so no newline or tab either
abbrev pub is_written : ℕ → Bool
is_written c = scalar c && (nat_le 32 c && shown c)

abbrev pub char_cells : LineLook → ℕ → List LineCell
char_cells look c = if is_written c then line.Char (glyph c look) ∷ [] else []

abbrev pub mark_cells : ℕ → List LineCell
mark_cells c = if is_written c then line.Mark c ∷ [] else []

-- a character, and then its marks
abbrev pub glyph_cells : Glyph → List LineCell
glyph_cells g = char_cells (line_look g.pen.look) g.char ++ flat_map mark_cells (take g.count g.marks)

-- an empty cell with a background is a space that has it; the second column of a character was written with the first
abbrev pub cell_cells : Cell → List LineCell
cell_cells (cell.Empty background) =
    if is_default background then line.Empty ∷ []
    else line.Char (glyph 32 (record plain_line { background = background })) ∷ []
cell_cells (cell.Char g) = glyph_cells g
cell_cells (cell.Wide g) = glyph_cells g
cell_cells cell.Behind = []

-- nothing, or a space that looks as nothing does
abbrev pub is_blank : LineCell → Bool
is_blank line.Empty = true
is_blank (line.Char g) = g.char == 32 && is_plain g.look
is_blank line.Behind = false
is_blank (line.Mark c) = false

abbrev pub is_nil : {A : Type 0} → List A → Bool
is_nil [] = true
is_nil (x ∷ list) = false

-- without those at its end of which this holds
abbrev pub trimmed : {A : Type 0} → (A → Bool) → List A → List A
trimmed p [] = []
trimmed p (x ∷ list) = if is_nil (trimmed p list) && p x then [] else x ∷ trimmed p list

-- of a row of double width the first half is seen
abbrev pub seen : Size → List Cell → List Cell
seen Single cells = cells
seen size cells = take (length cells / 2) cells

-- without blanks at its end
abbrev pub row_cells : Row → List LineCell
row_cells row = trimmed is_blank (flat_map cell_cells (seen row.size row.cells))

-- rows in turn, each with its newline
abbrev pub rows_text : Marking → List Row → List ℕ
rows_text marking rows = flat_map (λ (row : Row). ended marking (row_cells row)) rows

abbrev pub is_bare : Row → Bool
is_bare row = is_nil (row_cells row)

-- rows that left at the top, if they are asked for, the oldest first; then the screen, without the bare rows at its bottom
abbrev pub view : Marking → Bool → Screen → List ℕ
view marking scrollback s = (if scrollback then rows_text marking (reverse s.back) else []) ++ rows_text marking (trimmed is_bare s.grid)

-- UTF-8 of characters that are all shown, as what `strip` leaves
abbrev pub IsText : List ℕ → Type 0
IsText text = (chars : List ℕ) × (all_scalars chars ≡ true) × AllByRecursion IsShown chars × (text ≡ encode_utf8_all chars)
