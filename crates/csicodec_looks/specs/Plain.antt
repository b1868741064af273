-- Text of ASCII that is put at once.
use Rattle.std.specs.Prelude.{ℕ, ◌≡◌, ◌≤◌, ◌==◌, ◌&&◌, ◌||◌, nat_le, nat_lt, Bool, true, false, not, List, [], ◌∷◌, ◌++◌, length, map, Option, Some, None}
use Rattle.std.specs.List.{AllByRecursion}
use Rattle.csicodec_looks.specs.{Bytes.IsPlainByte, Look.plain, declared.look.Look.Look, declared.cells.Cell.Cell, declared.line.Line.Line, Cells.glyph}
use Rattle.csicodec_looks.specs.{Cells.is_empty, declared.cells.Cell.TheVariants.Char, Line.do_all, Line.pen_behind_all, declared.pen.Pen.Pen, Steps.of_chars}

-- characters are put in place of others, without attributes that are painted
abbrev pub PutsPlain : Bool → Pen → Type 0
PutsPlain painted pen = (pen.inserts ≡ false) × (painted ≡ true → pen.look ≡ plain)

-- lines of text alone in front of a rest, of at most so many bytes
abbrev pub AreLines : ℕ → List ℕ → List ℕ → List ℕ → Type 0
AreLines most bytes lines rest = (front : List ℕ) × (lines ≡ front ++ 10 ∷ []) × (bytes ≡ lines ++ rest)
    × AllByRecursion IsPlainByte front × (length lines ≤ most)

-- a tab or a character of ASCII that is no control
abbrev pub line_byte : ℕ → Bool
line_byte b = b == 9 || nat_le 32 b && nat_lt b 127

abbrev pub IsLineByte : ℕ → Type 0
IsLineByte b = line_byte b ≡ true

-- with the pen, the text does in a line what the rest does with another pen in another line, and the rest is none of more bytes
pub record PutsRun (limit : ℕ) (pen : Pen) (l : Line) (text rest : List ℕ) (then : Pen) (m : Line) : Type 0 where
  pub plain : AllByRecursion IsLineByte rest
  pub fewer : length rest ≤ length text
  pub same : do_all limit pen (of_chars text) l ≡ do_all limit then (of_chars rest) m
  pub pens : pen_behind_all limit pen (of_chars text) l ≡ pen_behind_all limit then (of_chars rest) m

-- a byte that is no tab
abbrev pub untabbed_byte : ℕ → Bool
untabbed_byte b = not (b == 9)

abbrev pub IsUntabbed : ℕ → Type 0
IsUntabbed b = untabbed_byte b ≡ true

-- characters of one cell each, which look so
abbrev pub glyphs : Look → List ℕ → List Cell
glyphs look cs = map (λ c. Char (glyph c look)) cs

-- the last of them, or else of what came before
abbrev pub last_of : Option ℕ → List ℕ → Option ℕ
last_of last [] = last
last_of last (c ∷ cs) = last_of (Some c) cs

-- none of the cells is empty
abbrev pub AreFull : List Cell → Type 0
AreFull cells = AllByRecursion (λ cell. is_empty cell ≡ false) cells

-- behind a newline
abbrev pub closed : Pen → Pen
closed pen = record pen { last = None; here = false; row = None }

-- the end of a line, behind a return or none
abbrev pub end_of : Bool → List ℕ
end_of false = 10 ∷ []
end_of true = 13 ∷ 10 ∷ []
