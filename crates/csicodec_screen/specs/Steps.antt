-- A screen, step by step: each character, control, escape sequence, control sequence and string of a stream.
use Rattle.std.specs.Prelude.{ℕ, min, Bool, true, false, List, length, map, take, drop, replicate, set, Some, None, nat_le, nat_lt, ◌+◌, ◌-◌, ◌==◌, ◌∷◌, ◌++◌, ◌&&◌, ◌||◌, [], if◌then◌else◌}
use Rattle.csicodec_looks.specs.{Sets.set_at, declared.sets.Set.Set, declared.sets.Set.TheVariants.Ascii}
use Rattle.csicodec_actions.specs.{Actions.Action, declared.window.Window.Window}
use Rattle.csicodec_screen.specs.Draws.{by_number, controls, left, next_line, print, reverse_index, right, shift, stop_at}
use Rattle.csicodec_screen.specs.{Acts.of_cursor, Acts.of_device, Acts.of_edit, Acts.of_mode, Acts.reset, Acts.restore, Acts.save, Areas.of_unknown, Cells.bare}
use Rattle.csicodec_screen.specs.{Cells.behind, Cells.blanks, Cells.cut, Cells.plain_pen, Lists.onto, Rows.columns_moved, Rows.index, Screen.at}
use Rattle.csicodec_screen.specs.{Screen.blank_row, Screen.eighths, Screen.row_at, Screen.settled, Screen.whole, declared.cell.Cell.Cell}
use Rattle.csicodec_screen.specs.{declared.cell.Cell.TheVariants.Char, declared.cell.Cell.TheVariants.Empty, declared.rows.Row.Row, declared.rows.Size.Size}
use Rattle.csicodec_screen.specs.{declared.rows.Size.TheVariants.DoubleWidth, declared.rows.Size.TheVariants.LowerHalf, declared.rows.Size.TheVariants.Single}
use Rattle.csicodec_screen.specs.{declared.rows.Size.TheVariants.UpperHalf, declared.screen.Screen.Screen, declared.sets.Slot.Slot}
use Rattle.csicodec_screen.specs.{declared.state.Titles.Titles}
use Rattle.csicodec_actions.specs.Actions as action
use Rattle.csicodec_names.specs.declared.color.ColorSpec.TheVariants as color
use Rattle.csicodec_actions.specs.declared.edit.Edit.TheVariants as edit
use Rattle.csicodec_screen.specs.declared.sets.Slot.TheVariants as slot

-- ---- what comes

-- what a stream says to a screen: a character, a C0 control, the intermediate bytes and the final byte of an escape sequence, an action as terminals take
-- it, the number and the text of an OSC, and from outside a new size, of rows and columns
pub data Input : Type 0 where
  Print : ℕ → Input
  Control : ℕ → Input
  Escape : List ℕ → ℕ → Input
  Csi : Action → Input
  Osc : ℕ → List ℕ → Input
  OtherString : Input
  Resize : ℕ → ℕ → Input

-- ---- escape sequences

abbrev pub in_right_column : Screen → Bool
in_right_column s = s.column == s.margins.right

-- DECBI and DECFI (DEC VT510): a column to the left or right, and at the margin all columns move
abbrev pub back_index : Screen → Screen
back_index s = if s.column == s.margins.left && (nat_le s.margins.top s.row && nat_le s.row s.margins.bottom)
    then columns_moved false 1 s.margins.left s else left 1 s

abbrev pub forward_index : Screen → Screen
forward_index s = if s.column == s.margins.right && (nat_le s.margins.top s.row && nat_le s.row s.margins.bottom)
    then columns_moved true 1 s.margins.left s else right 1 s

abbrev pub single_shift : Slot → Screen → Screen
single_shift n s = record s { sets = record s.sets { single = Some n } }

-- IND D, NEL E, HTS H, RI M, SS2 N, SS3 O, DECBI 6, DECSC 7, DECRC 8, DECFI 9, RIS c, LS2 n, LS3 o (ECMA-48, 8.3; DEC VT510). The others do nothing.
abbrev pub finals : List (ℕ × (Screen → Screen))
finals = (68, index) ∷ (69, next_line) ∷ (72, stop_at true) ∷ (77, reverse_index) ∷ (78, single_shift slot.G2) ∷ (79, single_shift slot.G3) ∷
    (54, back_index) ∷ (55, save) ∷ (56, restore) ∷ (57, forward_index) ∷ (99, reset) ∷ (110, shift slot.G2) ∷ (111, shift slot.G3) ∷ []

-- DECALN (DEC STD 070): each cell an E, and the cursor at home
abbrev pub letter : Cell
letter = Char (bare 69 plain_pen)

abbrev pub aligned : Screen → Screen
aligned s = record (at 0 0 s) {
  grid = replicate s.rows (record { cells = replicate s.columns letter; size = Single });
  wrapped = replicate s.rows false;
  margins = whole s.rows s.columns;
  pen = plain_pen;
  modes = record s.modes { origin = false };
}

-- the cursor's row is shown in another size
abbrev pub sized : Size → Screen → Screen
sized size s = record s { grid = set s.grid s.row (record (row_at s.row s.grid) { size = size }) }

-- behind `#`: DECDHL 3 and 4, DECSWL 5, DECDWL 6, DECALN 8
abbrev pub hashes : List (ℕ × (Screen → Screen))
hashes = (51, sized UpperHalf) ∷ (52, sized LowerHalf) ∷ (53, sized Single) ∷ (54, sized DoubleWidth) ∷ (56, aligned) ∷ []

-- SCS: with another intermediate byte behind the first, a set is taken for ASCII
abbrev pub set_named : List ℕ → ℕ → Set
set_named [] final = set_at final
set_named (b ∷ bytes) final = Ascii

abbrev pub with_set : ℕ → Set → Screen → Screen
with_set b set s = record s {
  sets = record s.sets {
    g0 = if b == 40 then set else s.sets.g0;
    g1 = if b == 41 || b == 45 then set else s.sets.g1;
    g2 = if b == 42 || b == 46 then set else s.sets.g2;
    g3 = if b == 43 || b == 47 then set else s.sets.g3;
  };
}

abbrev pub of_escape : List ℕ → ℕ → Screen → Screen
of_escape [] final s = by_number finals final s
of_escape (b ∷ bytes) final s = if b == 35 && length bytes == 0 then by_number hashes final s
    else if nat_le 40 b && nat_le b 47 then with_set b (set_named bytes final) s else s

-- ---- size

-- from column 0 on as many cells as there are columns
abbrev pub fit_row : ℕ → Row → Row
fit_row columns row = record row { cells = take columns (cut columns row.cells) ++ blanks color.Default (columns - length row.cells) }

abbrev pub fit_columns : ℕ → List Row → List Row
fit_columns columns grid = map (fit_row columns) grid

abbrev pub is_empty_cell : Cell → Bool
is_empty_cell (Empty c) = true
is_empty_cell x = false

abbrev pub is_empty : List Cell → Bool
is_empty [] = true
is_empty (x ∷ cells) = is_empty_cell x && is_empty cells

-- rows too many: at the bottom as many as lie below the cursor, and the others at the top
abbrev pub too_many : ℕ → Screen → ℕ
too_many rows s = (s.row + 1) - rows

-- n rows at the top leave, of the main screen into those that are kept
abbrev pub left_above : ℕ → Screen → Screen
left_above n s = record s {
  grid = drop n s.grid;
  wrapped = drop n s.wrapped;
  row = s.row - n;
  back = if s.alternate then s.back else take s.room (onto (take n s.grid) s.back);
}

-- rows that are missing come back from those that are kept, where the main screen is shown, and else are empty
abbrev pub come_back : ℕ → Screen → ℕ
come_back rows s = if s.alternate then 0 else min (rows - length s.grid) (length s.back)

abbrev pub taken_back : ℕ → Screen → Screen
taken_back n s = record s {
  grid = onto (take n s.back) s.grid;
  wrapped = replicate n false ++ s.wrapped;
  row = s.row + n;
  back = drop n s.back;
}

abbrev pub filled_below : ℕ → Screen → Screen
filled_below rows s = record s {
  grid = take rows s.grid ++ replicate (rows - length s.grid) (blank_row color.Default s.columns);
  wrapped = take rows s.wrapped ++ replicate (rows - length s.wrapped) false;
}

abbrev pub fit_rows : ℕ → Screen → Screen
fit_rows rows s = filled_below rows (taken_back (come_back rows s) (left_above (too_many rows s) s))

-- the other screen: at the bottom
abbrev pub fit_other : ℕ → Screen → Screen
fit_other rows s = record s {
  other = take rows s.other ++ replicate (rows - length s.other) (blank_row color.Default s.columns);
  other_wrapped = take rows s.other_wrapped ++ replicate (rows - length s.other_wrapped) false;
}

abbrev pub resized : ℕ → ℕ → Screen → Screen
resized rows columns s = record (fit_other rows (fit_rows rows s)) {
  rows = rows;
  columns = columns;
  grid = fit_columns columns (fit_rows rows s).grid;
  other = fit_columns columns (fit_other rows s).other;
  back = fit_columns columns (fit_rows rows s).back;
  row = min (fit_rows rows s).row (rows - 1);
  column = min s.column (columns - 1);
  pending = false;
  margins = whole rows columns;
  stops = take columns s.stops ++ eighths (length s.stops) (columns - length s.stops);
}

-- ---- window and titles

abbrev pub most_titles : ℕ
most_titles = 10

abbrev pub pushed : Screen → Screen
pushed s = record s { stack = take most_titles (s.titles ∷ s.stack) }

abbrev pub popped : Bool → Bool → List Titles → Screen → Screen
popped icon window [] s = s
popped icon window (t ∷ stack) s = record s {
  titles = record { window = if window then t.window else s.titles.window; icon = if icon then t.icon else s.titles.icon };
  stack = stack;
}

-- a new size is asked of who has the screen, and comes from there as `Resize`
abbrev pub of_window : Window → Screen → Screen
of_window (Window.ResizeWindowCells width height) s = s
of_window Window.PushIconAndWindowTitle s = pushed s
of_window Window.PushIconTitle s = pushed s
of_window Window.PushWindowTitle s = pushed s
of_window Window.PopIconAndWindowTitle s = popped true true s.stack s
of_window Window.PopIconTitle s = popped true false s.stack s
of_window Window.PopWindowTitle s = popped false true s.stack s
of_window Window.DeIconify s = s
of_window Window.Iconify s = s
of_window (Window.MoveWindow x y) s = s
of_window (Window.ResizeWindowPixels width height) s = s
of_window Window.RaiseWindow s = s
of_window Window.LowerWindow s = s
of_window (Window.ReportCellSizePixelsResponse width height) s = s
of_window Window.RefreshWindow s = s
of_window Window.RestoreMaximizedWindow s = s
of_window Window.MaximizeWindow s = s
of_window Window.MaximizeWindowVertically s = s
of_window Window.MaximizeWindowHorizontally s = s
of_window Window.UndoFullScreenMode s = s
of_window Window.ChangeToFullScreenMode s = s
of_window Window.ToggleFullScreen s = s
of_window Window.ReportWindowState s = s
of_window Window.ReportWindowPosition s = s
of_window Window.ReportTextAreaPosition s = s
of_window Window.ReportTextAreaSizePixels s = s
of_window Window.ReportWindowSizePixels s = s
of_window Window.ReportScreenSizePixels s = s
of_window Window.ReportCellSizePixels s = s
of_window Window.ReportTextAreaSizeCells s = s
of_window Window.ReportScreenSizeCells s = s
of_window Window.ReportIconLabel s = s
of_window Window.ReportWindowTitle s = s
of_window (Window.ChecksumRectangularArea request_id page_number top left bottom right) s = s

-- the address of a link, behind its parameters and a `;` (OSC 8)
abbrev pub behind_semicolon : List ℕ → List ℕ
behind_semicolon [] = []
behind_semicolon (b ∷ bytes) = if b == 59 then bytes else behind_semicolon bytes

-- an address is kept, and the pen has its number from 1 on; without one it has none
abbrev pub linked : List ℕ → Screen → Screen
linked [] s = record s { pen = record s.pen { link = 0 } }
linked (b ∷ address) s = record s { links = s.links ++ ((b ∷ address) ∷ []); pen = record s.pen { link = length s.links + 1 } }

-- OSC 0, 1 and 2 are titles (xterm, ctlseqs), and 8 a link
abbrev pub of_osc : ℕ → List ℕ → Screen → Screen
of_osc n text s = if n == 8 then linked (behind_semicolon text) s
    else if nat_lt 2 n then s
    else record s { titles = record { window = if n == 0 || n == 2 then text else s.titles.window; icon = if n == 0 || n == 1 then text else s.titles.icon } }

-- ---- all

abbrev pub of_action : Action → Screen → Screen
of_action (action.Sgr a) s = record s { pen = record s.pen { look = behind s.pen.look a } }
of_action (action.Cursor c) s = of_cursor c s
of_action (action.Edit e) s = of_edit e s
of_action (action.Mode m) s = of_mode m s
of_action (action.Device d) s = of_device d s
of_action (action.Window w) s = of_window w s
of_action (action.Mouse m) s = s
of_action (action.Keyboard k) s = s
of_action (action.SelectCharacterPath path effect) s = s
of_action (action.Unspecified params flag final) s = of_unknown params final s

abbrev pub does : Input → Screen → Screen
does (Print c) s = print c s
does (Control c) s = by_number controls c s
does (Escape bytes final) s = of_escape bytes final s
does (Csi a) s = of_action a s
does (Osc n text) s = of_osc n text s
does OtherString s = s
does (Resize rows columns) s = resized rows columns s

-- REP repeats only what is directly in front
abbrev pub keeps_last : Input → Bool
keeps_last (Print c) = true
keeps_last (Csi (action.Edit (edit.Repeat n))) = true
keeps_last x = false

abbrev pub forgets : Bool → Screen → Screen
forgets b s = if b then s else record s { last = None }

abbrev pub step : Input → Screen → Screen
step x s = settled (forgets (keeps_last x) (does x s))

-- one after the other
abbrev pub carry : List Input → Screen → Screen
carry [] s = s
carry (x ∷ inputs) s = carry inputs (step x s)
