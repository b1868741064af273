-- What each action and each escape sequence does to a screen.
use Rattle.std.specs.Prelude.{ℕ, min, max, not, Bool, true, false, replicate, nat_le, nat_lt, ◌+◌, ◌-◌, ◌==◌, ◌&&◌, [], if◌then◌else◌}
use Rattle.csicodec_actions.specs.{Devices.Device, declared.cursor.Cursor.Cursor, declared.edit.Edit.Edit, declared.mode.DecPrivateMode.DecPrivateMode}
use Rattle.csicodec_actions.specs.{declared.mode.Mode.Mode, declared.mode.TerminalMode.TerminalMode}
use Rattle.csicodec_names.specs.{declared.enums.EraseInDisplay.EraseInDisplay, declared.enums.EraseInLine.EraseInLine}
use Rattle.csicodec_names.specs.{declared.enums.TabulationClear.TabulationClear, declared.modes.DecPrivateModeCode.DecPrivateModeCode}
use Rattle.csicodec_names.specs.{declared.modes.TerminalModeCode.TerminalModeCode}
use Rattle.csicodec_screen.specs.Draws.{down, left, repeat_last, return, right, stop_at, tab, tab_back, times, up}
use Rattle.csicodec_screen.specs.Rows.{cleared, in_line, is_beside, is_inside, scrolled, scrolled_down, scrolled_up, spared}
use Rattle.csicodec_screen.specs.Screen.{at, blank_grid, edge, first_sets, fresh, go, background, place, whole}
use Rattle.csicodec_screen.specs.{Cells.deleted, Cells.emptied, Cells.inserted, Cells.plain_pen, declared.screen.Screen.Screen}
use Rattle.csicodec_names.specs.declared.color.ColorSpec.TheVariants as color
use Rattle.csicodec_actions.specs.Devices as device

-- ---- cursor

-- a number from 1 on, counted from 0
abbrev pub of_one : ℕ → ℕ
of_one n = n - 1

-- how many times at most anything is done one after the other
abbrev pub few : ℕ → Screen → ℕ
few n s = min n s.columns

-- DECSC
abbrev pub save : Screen → Screen
save s = record s { saved = record { row = s.row; column = s.column; pen = s.pen; origin = s.modes.origin; sets = s.sets } }

-- DECRC: with the saved origin the place is within the margins
abbrev pub within_margins : Screen → Screen
within_margins s = if s.modes.origin
    then at (min (max s.row s.margins.top) s.margins.bottom) (min (max s.column s.margins.left) s.margins.right) s else s

abbrev pub restore : Screen → Screen
restore s = within_margins (go s.saved.row s.saved.column
    (record s { pen = s.saved.pen; sets = s.saved.sets; modes = record s.modes { origin = s.saved.origin } }))

-- a row or a column that is the last one, or more, is the last
abbrev pub up_to_last : ℕ → ℕ → ℕ
up_to_last n count = min (of_one n) (count - 1)

-- DECSTBM (DEC VT510): the first row is ahead of the last
abbrev pub top_and_bottom : ℕ → ℕ → Screen → Screen
top_and_bottom top bottom s = if nat_lt (of_one top) (up_to_last bottom s.rows)
    then place 0 0 (record s { margins = record s.margins { top = of_one top; bottom = up_to_last bottom s.rows } }) else s

-- DECSLRM, where DECLRMM lets it. A last column of 0 is left out, and so is 1, which can be no last one: it is then the screen's.
abbrev pub or_last : ℕ → ℕ → ℕ
or_last n count = if nat_le n 1 then count else n

abbrev pub left_and_right : ℕ → ℕ → Screen → Screen
left_and_right left right s = if s.modes.columns && nat_lt (of_one left) (up_to_last (or_last right s.columns) s.columns)
    then place 0 0 (record s { margins = record s.margins { left = of_one left; right = up_to_last (or_last right s.columns) s.columns } }) else s

-- the row and the column that a place is counted by
abbrev pub own_row : Screen → ℕ
own_row s = if s.modes.origin then s.row - s.margins.top else s.row

abbrev pub own_column : Screen → ℕ
own_column s = if s.modes.origin then s.column - s.margins.left else s.column

abbrev pub of_clear : TabulationClear → Screen → Screen
of_clear TabulationClear.ClearCharacterTabStopAtActivePosition s = stop_at false s
of_clear TabulationClear.ClearAllCharacterTabStops s = record s { stops = replicate s.columns false }
of_clear TabulationClear.ClearLineTabStopAtActiveLine s = s
of_clear TabulationClear.ClearCharacterTabStopsAtActiveLine s = s
of_clear TabulationClear.ClearAllLineTabStops s = s
of_clear TabulationClear.ClearAllTabStops s = s

abbrev pub of_cursor : Cursor → Screen → Screen
of_cursor (Cursor.Up n) s = up n s
of_cursor (Cursor.Down n) s = down n s
of_cursor (Cursor.Right n) s = right n s
of_cursor (Cursor.Left n) s = left n s
of_cursor (Cursor.NextLine n) s = return (down n s)
of_cursor (Cursor.PrecedingLine n) s = return (up n s)
of_cursor (Cursor.CharacterAbsolute col) s = place (own_row s) (of_one col) s
of_cursor (Cursor.CharacterPositionAbsolute col) s = place (own_row s) (of_one col) s
of_cursor (Cursor.Position row col) s = place (of_one row) (of_one col) s
of_cursor (Cursor.CharacterAndLinePosition row col) s = place (of_one row) (of_one col) s
of_cursor (Cursor.LinePositionAbsolute row) s = place (of_one row) (own_column s) s
of_cursor (Cursor.CharacterPositionForward n) s = place (own_row s) (own_column s + n) s
of_cursor (Cursor.LinePositionForward n) s = place (own_row s + n) (own_column s) s
of_cursor (Cursor.CharacterPositionBackward n) s = s
of_cursor (Cursor.LinePositionBackward n) s = s
of_cursor (Cursor.ForwardTabulation n) s = times (few n s) tab s
of_cursor (Cursor.BackwardTabulation n) s = times (few n s) tab_back s
of_cursor (Cursor.LineTabulation n) s = s
of_cursor (Cursor.TabulationControl x) s = s
of_cursor (Cursor.TabulationClear x) s = of_clear x s
of_cursor (Cursor.SetTopAndBottomMargins top bottom) s = top_and_bottom top bottom s
of_cursor (Cursor.SetLeftAndRightMargins first last) s = left_and_right first last s
of_cursor Cursor.SaveCursor s = if s.modes.columns then left_and_right 1 s.columns s else save s
of_cursor Cursor.RestoreCursor s = restore s
of_cursor (Cursor.ActivePositionReport row col) s = s
of_cursor Cursor.RequestActivePositionReport s = s
of_cursor (Cursor.CursorStyle x) s = s

-- ---- edit

-- cells of the cursor's row from column c to d become empty; with `spares` but for what is protected
abbrev pub erase : Bool → ℕ → ℕ → Screen → Screen
erase spares c d s = in_line (emptied spares (background s) c d) s

-- rows from a to b
abbrev pub erase_rows : Bool → ℕ → ℕ → Screen → Screen
erase_rows spares a b s = if spares then spared a b s else cleared a b s

-- EL (8.3.41): nothing to the end of the row where the wrap is pending, since the row is full
abbrev pub erase_line : Bool → EraseInLine → Screen → Screen
erase_line spares EraseInLine.EraseToEndOfLine s = if s.pending && s.modes.autowrap then s else erase spares s.column s.columns s
erase_line spares EraseInLine.EraseToStartOfLine s = erase spares 0 (s.column + 1) s
erase_line spares EraseInLine.EraseLine s = erase spares 0 s.columns s

-- ED (8.3.39); 3 clears what was scrolled out (xterm)
abbrev pub erase_display : Bool → EraseInDisplay → Screen → Screen
erase_display spares EraseInDisplay.EraseToEndOfDisplay s = erase_rows spares (s.row + 1) s.rows (erase spares s.column s.columns s)
erase_display spares EraseInDisplay.EraseToStartOfDisplay s = erase_rows spares 0 s.row (erase spares 0 (s.column + 1) s)
erase_display spares EraseInDisplay.EraseDisplay s = erase_rows spares 0 s.rows s
erase_display spares EraseInDisplay.EraseScrollback s = record s { back = [] }

-- IL and DL (8.3.67, 8.3.32): within the margins, then to the left one
abbrev pub lines_moved : Bool → ℕ → Screen → Screen
lines_moved upward n s = if is_inside s then at s.row s.margins.left (scrolled upward n s.row s) else s

abbrev pub of_edit : Edit → Screen → Screen
of_edit (Edit.InsertCharacter n) s = if is_beside s then in_line (inserted (background s) n s.column (edge s + 1)) s else s
of_edit (Edit.DeleteCharacter n) s = if is_beside s then in_line (deleted (background s) n s.column (edge s + 1)) s else s
of_edit (Edit.InsertLine n) s = lines_moved false n s
of_edit (Edit.DeleteLine n) s = lines_moved true n s
of_edit (Edit.EraseCharacter n) s = erase false s.column (min (s.column + n) s.columns) s
of_edit (Edit.ScrollUp n) s = scrolled_up n s
of_edit (Edit.ScrollDown n) s = scrolled_down n s
of_edit (Edit.Repeat n) s = repeat_last n s.last s
of_edit (Edit.EraseInDisplay x) s = erase_display false x s
of_edit (Edit.EraseInLine x) s = erase_line false x s

-- ---- modes

-- the alternate screen is shown, or the main one; the cursor stays, and each has its saved cursor
abbrev pub shown : Bool → Screen → Screen
shown b s = if (if b then s.alternate else not s.alternate) then s else record s {
  grid = s.other;
  wrapped = s.other_wrapped;
  other = s.grid;
  other_wrapped = s.wrapped;
  saved = s.other_saved;
  other_saved = s.saved;
  alternate = b;
}

-- the screen that is shown is empty; of the alternate one nothing is left where it is left
abbrev pub blanked : Screen → Screen
blanked s = cleared 0 s.rows s

abbrev pub forgotten : Screen → Screen
forgotten s = if s.alternate then record s { grid = blank_grid color.Default s.rows s.columns; wrapped = replicate s.rows false } else s

abbrev pub alternate_1047 : Bool → Screen → Screen
alternate_1047 b s = if b then shown true s else shown false (forgotten s)

abbrev pub alternate_1049 : Bool → Screen → Screen
alternate_1049 b s = if b then blanked (shown true (save s)) else restore (shown false (forgotten s))

abbrev pub whole_columns : Screen → Screen
whole_columns s = record s { margins = record s.margins { left = 0; right = s.columns - 1 } }

abbrev pub whole_margins : Screen → Screen
whole_margins s = record s { margins = whole s.rows s.columns }

-- DECCOLM, where mode 40 lets it: the size is the caller's
abbrev pub columns_set : Screen → Screen
columns_set s = if s.modes.resizes then at 0 0 (whole_margins (blanked s)) else s

-- DECLRMM: without it left and right margins are the edges of the screen
abbrev pub columns_mode : Bool → Screen → Screen
columns_mode b s = record (if b then s else whole_columns s) { modes = record s.modes { columns = b } }

abbrev pub of_code : Bool → DecPrivateModeCode → Screen → Screen
of_code b DecPrivateModeCode.Select132Columns s = columns_set s
of_code b DecPrivateModeCode.ReverseVideo s = record s { modes = record s.modes { reverse = b } }
of_code b DecPrivateModeCode.OriginMode s = place 0 0 (record s { modes = record s.modes { origin = b } })
of_code b DecPrivateModeCode.AutoWrap s = record s { modes = record s.modes { autowrap = b } }
of_code b DecPrivateModeCode.ShowCursor s = record s { modes = record s.modes { visible = b } }
of_code b DecPrivateModeCode.LeftRightMarginMode s = columns_mode b s
of_code b DecPrivateModeCode.EnableAlternateScreen s = shown b s
of_code b DecPrivateModeCode.OptEnableAlternateScreen s = alternate_1047 b s
of_code b DecPrivateModeCode.SaveCursor s = if b then save s else restore s
of_code b DecPrivateModeCode.ClearAndEnableAlternateScreen s = alternate_1049 b s
of_code b DecPrivateModeCode.ApplicationCursorKeys s = s
of_code b DecPrivateModeCode.DecAnsiMode s = s
of_code b DecPrivateModeCode.SmoothScroll s = s
of_code b DecPrivateModeCode.AutoRepeat s = s
of_code b DecPrivateModeCode.StartBlinkingCursor s = s
of_code b DecPrivateModeCode.ReverseWraparound s = s
of_code b DecPrivateModeCode.SixelDisplayMode s = s
of_code b DecPrivateModeCode.MouseTracking s = s
of_code b DecPrivateModeCode.HighlightMouseTracking s = s
of_code b DecPrivateModeCode.ButtonEventMouse s = s
of_code b DecPrivateModeCode.AnyEventMouse s = s
of_code b DecPrivateModeCode.FocusTracking s = s
of_code b DecPrivateModeCode.Utf8Mouse s = s
of_code b DecPrivateModeCode.SGRMouse s = s
of_code b DecPrivateModeCode.SGRPixelsMouse s = s
of_code b DecPrivateModeCode.XTermMetaSendsEscape s = s
of_code b DecPrivateModeCode.XTermAltSendsEscape s = s
of_code b DecPrivateModeCode.UsePrivateColorRegistersForEachGraphic s = s
of_code b DecPrivateModeCode.BracketedPaste s = s
of_code b DecPrivateModeCode.SynchronizedOutput s = s
of_code b DecPrivateModeCode.GraphemeClustering s = s
of_code b DecPrivateModeCode.MinTTYApplicationEscapeKeyMode s = s
of_code b DecPrivateModeCode.SixelScrollsRight s = s
of_code b DecPrivateModeCode.Win32InputMode s = s

-- of the private modes without a name 40 lets DECCOLM (xterm)
abbrev pub of_private : Bool → DecPrivateMode → Screen → Screen
of_private b (DecPrivateMode.Code c) s = of_code b c s
of_private b (DecPrivateMode.Unspecified n) s = if n == 40 then record s { modes = record s.modes { resizes = b } } else s

abbrev pub of_terminal : Bool → TerminalMode → Screen → Screen
of_terminal b (TerminalMode.Code TerminalModeCode.Insert) s = record s { modes = record s.modes { inserts = b } }
of_terminal b (TerminalMode.Code TerminalModeCode.AutomaticNewline) s = record s { modes = record s.modes { new_line = b } }
of_terminal b (TerminalMode.Code TerminalModeCode.KeyboardAction) s = s
of_terminal b (TerminalMode.Code TerminalModeCode.BiDirectionalSupportMode) s = s
of_terminal b (TerminalMode.Code TerminalModeCode.SendReceive) s = s
of_terminal b (TerminalMode.Code TerminalModeCode.ShowCursor) s = s
of_terminal b (TerminalMode.Unspecified n) s = s

abbrev pub of_mode : Mode → Screen → Screen
of_mode (Mode.SetDecPrivateMode m) s = of_private true m s
of_mode (Mode.ResetDecPrivateMode m) s = of_private false m s
of_mode (Mode.SetMode m) s = of_terminal true m s
of_mode (Mode.ResetMode m) s = of_terminal false m s
of_mode (Mode.SaveDecPrivateMode m) s = s
of_mode (Mode.RestoreDecPrivateMode m) s = s
of_mode (Mode.QueryDecPrivateMode m) s = s
of_mode (Mode.QueryMode m) s = s
of_mode (Mode.XtermKeyMode resource value) s = s

-- ---- device and window

-- DECSTR (DEC VT510): the cursor, LNM and the saved cursors stay
abbrev pub soft_reset : Screen → Screen
soft_reset s = record (whole_margins s) {
  pen = plain_pen;
  sets = first_sets;
  modes = record s.modes { autowrap = true; origin = false; columns = false; visible = true; inserts = false };
}

abbrev pub of_device : Device → Screen → Screen
of_device device.SoftReset s = soft_reset s
of_device (device.DeviceAttributes a) s = s
of_device device.RequestPrimaryDeviceAttributes s = s
of_device device.RequestSecondaryDeviceAttributes s = s
of_device device.RequestTertiaryDeviceAttributes s = s
of_device device.RequestTerminalNameAndVersion s = s
of_device (device.RequestTerminalParameters n) s = s
of_device device.StatusReport s = s
of_device (device.XtSmGraphics item action_or_status value) s = s

-- RIS (8.3.105)
abbrev pub reset : Screen → Screen
reset s = fresh s.rows s.columns s.room
