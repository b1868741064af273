-- The state of a terminal's screen. Rows and columns are counted from 0.
use Rattle.std.specs.Prelude.{ℕ, zero, suc, min, Bool, true, false, List, length, replicate, get_or, None, nat_lt, ◌+◌, ◌-◌, ◌/◌, ◌%◌, ◌==◌, ◌∷◌, ◌&&◌, ◌≡◌, ◌≤◌, ◌<◌, [], if◌then◌else◌}
use Rattle.std.specs.List.{AllByRecursion}
use Rattle.csicodec_looks.specs.declared.sets.Set.TheVariants.{Ascii}
use Rattle.csicodec_names.specs.declared.color.ColorSpec.{ColorSpec}
use Rattle.csicodec_screen.specs.{Cells.are_whole, Cells.blanks, Cells.plain_pen, declared.rows.Row.Row, declared.rows.Size.Size}
use Rattle.csicodec_screen.specs.{declared.rows.Size.TheVariants.Single, declared.screen.Screen.Screen, declared.sets.Sets.Sets, declared.state.Margins.Margins}
use Rattle.csicodec_screen.specs.{declared.state.Modes.Modes, declared.state.Saved.Saved, declared.state.Titles.Titles}
use Rattle.csicodec_names.specs.declared.color.ColorSpec.TheVariants as color
use Rattle.csicodec_screen.specs.declared.sets.Slot.TheVariants as slot

-- ---- where all is as at first

abbrev pub first_sets : Sets
first_sets = record { g0 = Ascii; g1 = Ascii; g2 = Ascii; g3 = Ascii; left = slot.G0; single = None }

abbrev pub unsaved : Saved
unsaved = record { row = 0; column = 0; pen = plain_pen; origin = false; sets = first_sets }

abbrev pub first_modes : Modes
first_modes = record {
  autowrap = true;
  origin = false;
  columns = false;
  visible = true;
  reverse = false;
  resizes = false;
  inserts = false;
  new_line = false;
  rectangles = false;
}

abbrev pub whole : ℕ → ℕ → Margins
whole rows columns = record { top = 0; bottom = rows - 1; left = 0; right = columns - 1 }

abbrev pub blank_row : ColorSpec → ℕ → Row
blank_row background columns = record { cells = blanks background columns; size = Single }

abbrev pub blank_grid : ColorSpec → ℕ → ℕ → List Row
blank_grid background rows columns = replicate rows (blank_row background columns)

-- at every eighth column from c on, but for column 0
abbrev pub eighths : ℕ → ℕ → List Bool
eighths c zero = []
eighths c (suc n) = (nat_lt 0 c && c % 8 == 0) ∷ eighths (c + 1) n

abbrev pub untitled : Titles
untitled = record { window = []; icon = [] }

abbrev pub fresh : ℕ → ℕ → ℕ → Screen
fresh rows columns room = record {
  rows = rows;
  columns = columns;
  grid = blank_grid color.Default rows columns;
  wrapped = replicate rows false;
  other = blank_grid color.Default rows columns;
  other_wrapped = replicate rows false;
  alternate = false;
  saved = unsaved;
  other_saved = unsaved;
  row = 0;
  column = 0;
  pending = false;
  pen = plain_pen;
  links = [];
  margins = whole rows columns;
  modes = first_modes;
  stops = eighths 0 columns;
  sets = first_sets;
  titles = untitled;
  stack = [];
  last = None;
  back = [];
  room = room;
}

-- ---- places

-- behind the last row one without cells
abbrev pub row_at : ℕ → List Row → Row
row_at r grid = get_or grid r (blank_row color.Default 0)

-- the background that blanks have (xterm, "bce")
abbrev pub background : Screen → ColorSpec
background s = s.pen.look.background

-- the last column of a row: of one that is shown in double width, that of its first half
abbrev pub last_of : ℕ → Size → ℕ
last_of columns Single = columns - 1
last_of columns size = columns / 2 - 1

abbrev pub last_column : Screen → ℕ
last_column s = last_of s.columns (row_at s.row s.grid).size

-- how far a character goes: to the right margin, or from beyond it to the last column
abbrev pub edge : Screen → ℕ
edge s = if nat_lt s.margins.right s.column then last_column s else min s.margins.right (last_column s)

abbrev pub at : ℕ → ℕ → Screen → Screen
at r c s = record s { row = r; column = c; pending = false }

-- to a place, and no further than the screen
abbrev pub go : ℕ → ℕ → Screen → Screen
go r c s = at (min r (s.rows - 1)) (min c (s.columns - 1)) s

-- with the origin on a place is counted from the margins' corner, and no further than their other one (DECOM, DEC VT510)
abbrev pub place : ℕ → ℕ → Screen → Screen
place r c s = if s.modes.origin then at (min (s.margins.top + r) s.margins.bottom) (min (s.margins.left + c) s.margins.right) s
    else go r c s

-- in a row of double width the cursor stands in its first half, and a wrap is pending at the edge alone
abbrev pub in_row : Screen → Screen
in_row s = record s { column = min s.column (last_column s) }

abbrev pub settled : Screen → Screen
settled s = record (in_row s) { pending = s.pending && (in_row s).column == edge (in_row s) }

-- ---- what each call keeps

pub record IsGrid (rows columns : ℕ) (grid : List Row) (wrapped : List Bool) : Type 0 where
  pub height : length grid ≡ rows
  pub flags : length wrapped ≡ rows
  pub width : AllByRecursion (λ (row : Row). length row.cells ≡ columns) grid
  pub are_whole : AllByRecursion (λ (row : Row). are_whole false row.cells ≡ true) grid

pub record IsSaved (rows columns : ℕ) (saved : Saved) : Type 0 where
  pub row : saved.row < rows
  pub column : saved.column < columns

pub record IsFormed (s : Screen) : Type 0 where
  pub grid : IsGrid s.rows s.columns s.grid s.wrapped
  pub other : IsGrid s.rows s.columns s.other s.other_wrapped
  pub saved : IsSaved s.rows s.columns s.saved
  pub other_saved : IsSaved s.rows s.columns s.other_saved
  pub row : s.row < s.rows
  pub column : s.column ≤ last_column s
  pub pending : s.pending ≡ true → s.column ≡ edge s
  pub rows : (s.margins.top ≤ s.margins.bottom) × (s.margins.bottom < s.rows)
  pub columns : (s.margins.left ≤ s.margins.right) × (s.margins.right < s.columns)
  pub origin : s.modes.origin ≡ true → (s.margins.top ≤ s.row) × (s.row ≤ s.margins.bottom)
  pub stops : length s.stops ≡ s.columns
