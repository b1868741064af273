-- What moves rows, and what is done to parts of many rows.
use Rattle.std.specs.Prelude.{ℕ, min, not, Bool, true, false, List, map, take, nat_le, ◌+◌, ◌-◌, ◌==◌, ◌∷◌, ◌&&◌, [], if◌then◌else◌}
use Rattle.csicodec_screen.specs.{Cells.between, Cells.blanks, Cells.cut_twice, Cells.deleted, Cells.emptied, Cells.inserted, Cells.pasted, Lists.filled}
use Rattle.csicodec_screen.specs.{Lists.moved, Lists.onto, Lists.within, Screen.blank_row, Screen.background, declared.cell.Cell.Cell, declared.rows.Row.Row}
use Rattle.csicodec_screen.specs.{declared.screen.Screen.Screen}

-- ---- rows that move between the margins

-- left and right margins are the edges of the screen
abbrev pub is_wide_open : Screen → Bool
is_wide_open s = s.margins.left == 0 && s.margins.right + 1 == s.columns

-- the cursor is within left and right margins, or within all
abbrev pub is_beside : Screen → Bool
is_beside s = nat_le s.margins.left s.column && nat_le s.column s.margins.right

abbrev pub is_inside : Screen → Bool
is_inside s = is_beside s && (nat_le s.margins.top s.row && nat_le s.row s.margins.bottom)

-- the cells of a row from column c to d, and rows with others there
abbrev pub segment : ℕ → ℕ → Row → List Cell
segment c d row = between c d (cut_twice c d row.cells)

abbrev pub with_segments : ℕ → ℕ → List (List Cell) → List Row → List Row
with_segments c d [] rows = rows
with_segments c d (x ∷ segments) [] = []
with_segments c d (x ∷ segments) (row ∷ rows) = record row { cells = pasted x c d row.cells } ∷ with_segments c d segments rows

-- rows move with their size
abbrev pub moved_rows : Bool → ℕ → Screen → List Row → List Row
moved_rows upward n s rows = moved upward n (blank_row (background s) s.columns) rows

-- or the cells between left and right margins
abbrev pub moved_parts : Bool → ℕ → Screen → List Row → List Row
moved_parts upward n s rows = with_segments s.margins.left (s.margins.right + 1)
    (moved upward n (blanks (background s) (s.margins.right + 1 - s.margins.left)) (map (segment s.margins.left (s.margins.right + 1)) rows)) rows

-- rows from this one to the bottom margin move up or down by n, and blank ones come in
abbrev pub scrolled : Bool → ℕ → ℕ → Screen → Screen
scrolled upward n top s = record s {
  grid = within top (s.margins.bottom + 1) (if is_wide_open s then moved_rows upward n s else moved_parts upward n s) s.grid;
  wrapped = if is_wide_open s then within top (s.margins.bottom + 1) (moved upward n false) s.wrapped else s.wrapped;
}

-- rows that leave the main screen at its top are kept
abbrev pub is_kept : Screen → Bool
is_kept s = not s.alternate && (s.margins.top == 0 && is_wide_open s)

abbrev pub kept : ℕ → Screen → Screen
kept n s = record s { back = if is_kept s then take s.room (onto (take (min n (s.margins.bottom + 1)) s.grid) s.back) else s.back }

-- all between the margins move up, as for LF and SU
abbrev pub scrolled_up : ℕ → Screen → Screen
scrolled_up n s = scrolled true n s.margins.top (kept n s)

abbrev pub scrolled_down : ℕ → Screen → Screen
scrolled_down n s = scrolled false n s.margins.top s

-- IND: one row down, and at the bottom margin all move up; the column stays, and so does a pending wrap
abbrev pub index : Screen → Screen
index s = if s.row == s.margins.bottom then (if is_beside s then scrolled_up 1 s else s)
    else record s { row = min (s.row + 1) (s.rows - 1) }

-- ---- parts of rows

-- a row whose cells are what f makes of them, and each of these rows
abbrev pub row_with : (List Cell → List Cell) → Row → Row
row_with f row = record row { cells = f row.cells }

abbrev pub each_row : (List Cell → List Cell) → List Row → List Row
each_row f rows = map (row_with f) rows

-- those of the rows from a to b
abbrev pub over : ℕ → ℕ → (List Cell → List Cell) → Screen → Screen
over a b f s = record s { grid = within a b (each_row f) s.grid }

-- those of the cursor's row
abbrev pub in_line : (List Cell → List Cell) → Screen → Screen
in_line f s = over s.row (s.row + 1) f s

-- rows from a to b are blank and of single width
abbrev pub cleared : ℕ → ℕ → Screen → Screen
cleared a b s = record s {
  grid = within a b (filled (blank_row (background s) s.columns)) s.grid;
  wrapped = within a b (filled false) s.wrapped;
}

-- rows from a to b are empty but for what is protected (DECSED, DEC VT510)
abbrev pub spared : ℕ → ℕ → Screen → Screen
spared a b s = over a b (emptied true (background s) 0 s.columns) s

-- SL and SR (8.3.121, 8.3.135), DECIC and DECDC: the columns from c to the right margin, in the rows between the margins
abbrev pub columns_moved : Bool → ℕ → ℕ → Screen → Screen
columns_moved leftward n c s = over s.margins.top (s.margins.bottom + 1)
    (if leftward then deleted (background s) n c (s.margins.right + 1) else inserted (background s) n c (s.margins.right + 1)) s
