-- What stands in a line, cell by cell, and how many columns that takes.
use Rattle.std.specs.Prelude.{ℕ, ◌+◌, ◌-◌, ◌%◌, ◌==◌, nat_le, min, Bool, true, false, List, [], ◌∷◌, ◌++◌, replicate, unwrap_or, if◌then◌else◌, ◌||◌}
use Rattle.unicode_width.specs.Width.{char_width}
use Rattle.csicodec_looks.specs.{declared.look.Look.Look, declared.cells.Cell.Cell, declared.cells.Glyph.Glyph, declared.cells.Cell.TheVariants.Behind}
use Rattle.csicodec_looks.specs.{declared.cells.Cell.TheVariants.Char, declared.cells.Cell.TheVariants.Empty, declared.cells.Cell.TheVariants.Mark}

-- a character that looks so
abbrev pub glyph : ℕ → Look → Glyph
glyph c look = record { char = c; look = look }

-- the columns of a cell
abbrev pub takes : Cell → ℕ
takes (Mark c) = 0
takes cell = 1

abbrev pub columns : List Cell → ℕ
columns [] = 0
columns (cell ∷ cells) = takes cell + columns cells

-- it belongs to the character before it
abbrev pub belongs : Cell → Bool
belongs Behind = true
belongs (Mark c) = true
belongs cell = false

-- a further column of a character stands in front
abbrev pub begins_behind : List Cell → Bool
begins_behind (Behind ∷ cells) = true
begins_behind cells = false

abbrev pub is_empty : Cell → Bool
is_empty Empty = true
is_empty cell = false

-- a blank, whatever it looks like: nothing, a space, or a column of a tab
abbrev pub is_blank : Cell → Bool
is_blank (Char g) = g.char == 32 || g.char == 9
is_blank (Mark c) = false
is_blank cell = true

-- without so many columns
abbrev pub without : ℕ → List Cell → List Cell
without n [] = []
without n (cell ∷ cells) = if n == 0 then cell ∷ cells else without (n - takes cell) cells

-- behind what belongs to the character before
abbrev pub outside : List Cell → List Cell
outside [] = []
outside (cell ∷ cells) = if belongs cell then outside cells else cell ∷ cells

-- from the first on that isn't empty
abbrev pub trimmed : List Cell → List Cell
trimmed [] = []
trimmed (cell ∷ cells) = if is_empty cell then trimmed cells else cell ∷ cells

-- with the columns in front of the rest empty
abbrev pub emptied : List Cell → List Cell → List Cell
emptied cells rest = replicate (columns cells - columns rest) Empty ++ rest

-- the cells of one side behind those of the other
abbrev pub onto : List Cell → List Cell → List Cell
onto [] cells = cells
onto (cell ∷ side) cells = onto side (cell ∷ cells)

-- without so many columns, nor what belongs to them: of a character that goes on behind them the columns are empty
abbrev pub gone : ℕ → List Cell → List Cell
gone n right = emptied (without n right) (outside (without n right))

-- with so many columns empty, as far as there are some
abbrev pub erased : ℕ → List Cell → List Cell
erased n right = replicate (min n (columns right)) Empty ++ gone n right

-- whether it is a tab or belongs to one, behind a cell that is or does so, or behind another
abbrev pub of_tab : Bool → Cell → Bool
of_tab behind Empty = false
of_tab behind (Char g) = g.char == 9
of_tab behind cell = behind

-- a column of a tab is empty, and a mark stays
abbrev pub untabbed : Bool → Cell → Cell
untabbed tab (Char g) = if tab then Empty else Char g
untabbed tab Behind = if tab then Empty else Behind
untabbed tab cell = cell

-- cells that are shifted, behind a tab or not: in a terminal a tab was a movement, and the columns that it left are empty
abbrev pub shifted : Bool → List Cell → List Cell
shifted tab [] = []
shifted tab (cell ∷ cells) = untabbed (of_tab tab cell) cell ∷ shifted (of_tab tab cell) cells

-- from a column, the columns up to the next tab stop: there is one at every eighth
abbrev pub to_tab_stop : ℕ → ℕ
to_tab_stop column = 8 - column % 8

-- no character of a terminal has more than two columns: U+17D8, which the table gives three, has one
abbrev pub narrowed : ℕ → ℕ
narrowed columns = if nat_le columns 2 then columns else 1

-- the columns that a character takes behind so many: a tab goes up to a tab stop
abbrev pub width : ℕ → ℕ → ℕ
width c column = if c == 9 then to_tab_stop column else narrowed (unwrap_or (char_width false c) 0)

-- the characters of a cell: a blank of an empty one
abbrev pub chars_of : Cell → List ℕ
chars_of Empty = 32 ∷ []
chars_of (Char g) = g.char ∷ []
chars_of Behind = []
chars_of (Mark c) = c ∷ []
