-- What each character, escape sequence and action does in a line. All others do nothing there, but stand behind what was put last.
use Rattle.std.specs.Prelude.{ℕ, ◌==◌, ◌&&◌, ◌||◌, nat_lt, not, min, Bool, true, false, List, [], ◌∷◌, ◌++◌, length, slice_index, Some, None, if◌then◌else◌}
use Rattle.std.specs.List.{flat_map, list_all}
use Rattle.bstr.specs.Utf8.{lossy_chars}
use Rattle.csicodec_tokens.specs.{declared.param.CsiParam.CsiParam, declared.param.CsiParam.TheVariants.Integer, declared.param.CsiParam.TheVariants.P}
use Rattle.csicodec_names.specs.{declared.modes.DecPrivateModeCode.DecPrivateModeCode, declared.enums.EraseInDisplay.EraseInDisplay}
use Rattle.csicodec_names.specs.{declared.enums.EraseInLine.EraseInLine, declared.modes.TerminalModeCode.TerminalModeCode}
use Rattle.csicodec_actions.specs.{declared.cursor.Cursor.Cursor, declared.edit.Edit.Edit, declared.mode.DecPrivateMode.DecPrivateMode, declared.mode.Mode.Mode}
use Rattle.csicodec_actions.specs.{Actions.Action, Devices.Device, declared.mode.TerminalMode.TerminalMode}
use Rattle.csicodec_looks.specs.{Line.widest, declared.step.Step.Step, Steps.of_chars}
use Rattle.csicodec_actions.specs.Devices as device
use Rattle.csicodec_actions.specs.Actions as action

-- IND (ECMA-48:1986) and RI (8.3.104) go to another row, in the same column; NEL (8.3.86) and RIS (8.3.105) to the first, and behind
-- RIS nothing is set; DECSC (7) and DECRC (8) save a place and come back to it
abbrev pub of_final : ℕ → List Step
of_final c = if c == 68 || c == 77 then Step.Leave None ∷ []
    else if c == 69 then Step.Leave (Some 1) ∷ []
    else if c == 55 then Step.Save ∷ [] else if c == 56 then Step.Restore ∷ []
    else if c == 99 then Step.Leave (Some 1) ∷ (Step.Reset ∷ []) else Step.Other ∷ []

-- an escape sequence without an intermediate byte, or DECALN (`ESC # 8`)
abbrev pub of_escape : List ℕ → List Step
of_escape bytes = if length bytes == 2 then of_final (slice_index bytes 1)
    else if length bytes == 3 && (slice_index bytes 1 == 35 && slice_index bytes 2 == 56)
    then Step.Leave (Some 1) ∷ [] else Step.Other ∷ []

-- this step at an ESC: one introduces each control string, and each sequence that went wrong
abbrev pub by_escape : Step → ℕ → List Step
by_escape s b = if b == 27 then s ∷ [] else []

-- a control string does nothing
abbrev pub of_string : List ℕ → List Step
of_string bytes = flat_map (by_escape Step.Other) bytes

-- a sequence that went wrong may go to another row, as terminals carry some out
abbrev pub of_wrong : List ℕ → List Step
of_wrong bytes = flat_map (by_escape (Step.Leave None)) bytes

-- a count or a column goes no further than the widest row
abbrev pub as_far : ℕ → ℕ
as_far n = min n widest

-- so many tab stops there are in the widest
abbrev pub stops : ℕ → ℕ
stops n = min n 64

-- In the line are CUF (8.3.20), CUB (8.3.18), CHA (8.3.9), HPA (8.3.57), HPR (8.3.59), HPB (8.3.58), CHT (8.3.10) and CBT (8.3.7), and
-- SCOSC and SCORC are as DECSC and DECRC. CUP (8.3.21) and HVP (8.3.63) go to a column of a row, and VPA (8.3.158) to the same column.
-- What goes to another row, or maybe so, or does nothing, is so by `in_line` of its row of table/actions.toml, which has its source.
abbrev pub of_cursor : Cursor → List Step
of_cursor (Cursor.Right n) = Step.Right (as_far n) ∷ []
of_cursor (Cursor.Left n) = Step.Left (as_far n) ∷ []
of_cursor (Cursor.CharacterAbsolute col) = Step.Column (as_far col) ∷ []
of_cursor (Cursor.CharacterPositionAbsolute col) = Step.Column (as_far col) ∷ []
of_cursor (Cursor.CharacterPositionForward n) = Step.Right (as_far n) ∷ []
of_cursor (Cursor.CharacterPositionBackward n) = Step.Left (as_far n) ∷ []
of_cursor (Cursor.ForwardTabulation n) = Step.Tabs (stops n) ∷ []
of_cursor (Cursor.BackwardTabulation n) = Step.TabsBack (stops n) ∷ []
of_cursor Cursor.SaveCursor = Step.Save ∷ []
of_cursor Cursor.RestoreCursor = Step.Restore ∷ []
of_cursor (Cursor.Position row col) = Step.Row row (Some (as_far col)) ∷ []
of_cursor (Cursor.CharacterAndLinePosition row col) = Step.Row row (Some (as_far col)) ∷ []
of_cursor (Cursor.LinePositionAbsolute row) = Step.Row row None ∷ []
of_cursor (Cursor.Up x) = Step.Leave None ∷ []
of_cursor (Cursor.Down x) = Step.Leave None ∷ []
of_cursor (Cursor.LineTabulation x) = Step.Leave None ∷ []
of_cursor (Cursor.LinePositionForward x) = Step.Leave None ∷ []
of_cursor (Cursor.LinePositionBackward x) = Step.Leave None ∷ []
of_cursor (Cursor.NextLine x) = Step.Leave (Some 1) ∷ []
of_cursor (Cursor.PrecedingLine x) = Step.Leave (Some 1) ∷ []
of_cursor (Cursor.SetTopAndBottomMargins a b) = Step.Leave (Some 1) ∷ []
of_cursor (Cursor.ActivePositionReport a b) = []
of_cursor (Cursor.TabulationControl x) = []
of_cursor (Cursor.TabulationClear x) = []
of_cursor (Cursor.SetLeftAndRightMargins a b) = []
of_cursor Cursor.RequestActivePositionReport = []
of_cursor (Cursor.CursorStyle x) = []

-- ECH (8.3.38), DCH (8.3.26), ICH (8.3.64), REP (8.3.103) and EL (8.3.41); ED (8.3.39) up to the end of the page, and so to that of the
-- line; otherwise that may erase other rows, but for what was scrolled out. What moves rows is so by table/actions.toml.
abbrev pub of_edit : Edit → List Step
of_edit (Edit.EraseCharacter n) = Step.Erase (as_far n) ∷ []
of_edit (Edit.DeleteCharacter n) = Step.Delete (as_far n) ∷ []
of_edit (Edit.InsertCharacter n) = Step.Insert (as_far n) ∷ []
of_edit (Edit.Repeat n) = Step.Repeat (as_far n) ∷ []
of_edit (Edit.EraseInLine EraseInLine.EraseToEndOfLine) = Step.EraseRight ∷ []
of_edit (Edit.EraseInLine EraseInLine.EraseToStartOfLine) = Step.EraseLeft ∷ []
of_edit (Edit.EraseInLine EraseInLine.EraseLine) = Step.EraseAll ∷ []
of_edit (Edit.EraseInDisplay EraseInDisplay.EraseToEndOfDisplay) = Step.EraseRight ∷ []
of_edit (Edit.EraseInDisplay EraseInDisplay.EraseToStartOfDisplay) = Step.Leave None ∷ []
of_edit (Edit.EraseInDisplay EraseInDisplay.EraseDisplay) = Step.Leave None ∷ []
of_edit (Edit.EraseInDisplay EraseInDisplay.EraseScrollback) = []
of_edit (Edit.ScrollUp x) = Step.Leave None ∷ []
of_edit (Edit.ScrollDown x) = Step.Leave None ∷ []
of_edit (Edit.InsertLine x) = Step.Leave (Some 1) ∷ []
of_edit (Edit.DeleteLine x) = Step.Leave (Some 1) ∷ []

-- a private mode, whatever becomes of it: what goes to another row, or does nothing, is so by `in_line` of its row of table/modes.toml
abbrev pub of_code : DecPrivateModeCode → List Step
of_code DecPrivateModeCode.EnableAlternateScreen = Step.Leave None ∷ []
of_code DecPrivateModeCode.OptEnableAlternateScreen = Step.Leave None ∷ []
of_code DecPrivateModeCode.SaveCursor = Step.Leave None ∷ []
of_code DecPrivateModeCode.ClearAndEnableAlternateScreen = Step.Leave None ∷ []
of_code DecPrivateModeCode.Select132Columns = Step.Leave (Some 1) ∷ []
of_code DecPrivateModeCode.OriginMode = Step.Leave (Some 1) ∷ []
of_code DecPrivateModeCode.ApplicationCursorKeys = []
of_code DecPrivateModeCode.DecAnsiMode = []
of_code DecPrivateModeCode.SmoothScroll = []
of_code DecPrivateModeCode.ReverseVideo = []
of_code DecPrivateModeCode.AutoWrap = []
of_code DecPrivateModeCode.AutoRepeat = []
of_code DecPrivateModeCode.StartBlinkingCursor = []
of_code DecPrivateModeCode.ShowCursor = []
of_code DecPrivateModeCode.ReverseWraparound = []
of_code DecPrivateModeCode.LeftRightMarginMode = []
of_code DecPrivateModeCode.SixelDisplayMode = []
of_code DecPrivateModeCode.MouseTracking = []
of_code DecPrivateModeCode.HighlightMouseTracking = []
of_code DecPrivateModeCode.ButtonEventMouse = []
of_code DecPrivateModeCode.AnyEventMouse = []
of_code DecPrivateModeCode.FocusTracking = []
of_code DecPrivateModeCode.Utf8Mouse = []
of_code DecPrivateModeCode.SGRMouse = []
of_code DecPrivateModeCode.SGRPixelsMouse = []
of_code DecPrivateModeCode.XTermMetaSendsEscape = []
of_code DecPrivateModeCode.XTermAltSendsEscape = []
of_code DecPrivateModeCode.UsePrivateColorRegistersForEachGraphic = []
of_code DecPrivateModeCode.BracketedPaste = []
of_code DecPrivateModeCode.SynchronizedOutput = []
of_code DecPrivateModeCode.GraphemeClustering = []
of_code DecPrivateModeCode.MinTTYApplicationEscapeKeyMode = []
of_code DecPrivateModeCode.SixelScrollsRight = []
of_code DecPrivateModeCode.Win32InputMode = []

-- and where they are set, or reset: 1048 and 1049 save the cursor and come back to it
abbrev pub switched : DecPrivateModeCode → Bool → List Step
switched DecPrivateModeCode.SaveCursor true = Step.Save ∷ []
switched DecPrivateModeCode.SaveCursor false = Step.Restore ∷ []
switched DecPrivateModeCode.ClearAndEnableAlternateScreen true = Step.Save ∷ (Step.Leave None ∷ [])
switched DecPrivateModeCode.ClearAndEnableAlternateScreen false = Step.Leave None ∷ (Step.Restore ∷ [])
switched c set = of_code c

-- a private mode by its code
abbrev pub by_code : (DecPrivateModeCode → List Step) → DecPrivateMode → List Step
by_code steps (DecPrivateMode.Code c) = steps c
by_code steps (DecPrivateMode.Unspecified n) = []

-- a mode that is no private one, set or reset: IRM (ECMA-48, 7.2.10) acts in the line
abbrev pub of_terminal : Bool → TerminalMode → List Step
of_terminal set (TerminalMode.Code TerminalModeCode.Insert) = Step.Inserts set ∷ []
of_terminal set (TerminalMode.Code TerminalModeCode.KeyboardAction) = []
of_terminal set (TerminalMode.Code TerminalModeCode.BiDirectionalSupportMode) = []
of_terminal set (TerminalMode.Code TerminalModeCode.SendReceive) = []
of_terminal set (TerminalMode.Code TerminalModeCode.AutomaticNewline) = []
of_terminal set (TerminalMode.Code TerminalModeCode.ShowCursor) = []
of_terminal set (TerminalMode.Unspecified n) = []

-- DECSET, DECRST, XTRESTORE, SM (8.3.125) and RM (8.3.106)
abbrev pub of_mode : Mode → List Step
of_mode (Mode.SetDecPrivateMode m) = by_code (λ c. switched c true) m
of_mode (Mode.ResetDecPrivateMode m) = by_code (λ c. switched c false) m
of_mode (Mode.RestoreDecPrivateMode m) = by_code of_code m
of_mode (Mode.SetMode m) = of_terminal true m
of_mode (Mode.ResetMode m) = of_terminal false m
of_mode (Mode.SaveDecPrivateMode m) = []
of_mode (Mode.QueryDecPrivateMode m) = []
of_mode (Mode.QueryMode m) = []
of_mode (Mode.XtermKeyMode resource value) = []

-- behind DECSTR nothing is set or saved any more
abbrev pub of_device : Device → List Step
of_device device.SoftReset = Step.Reset ∷ []
of_device (device.DeviceAttributes a) = []
of_device device.RequestPrimaryDeviceAttributes = []
of_device device.RequestSecondaryDeviceAttributes = []
of_device device.RequestTertiaryDeviceAttributes = []
of_device device.RequestTerminalNameAndVersion = []
of_device (device.RequestTerminalParameters n) = []
of_device device.StatusReport = []
of_device (device.XtSmGraphics item action_or_status value) = []

-- ---- a list of which no action is read

-- a private marker or an intermediate byte (5.4)
abbrev pub is_mark : CsiParam → Bool
is_mark (Integer z) = false
is_mark (P b) = nat_lt b 48 || nat_lt 59 b

abbrev pub is_byte : ℕ → CsiParam → Bool
is_byte c (Integer z) = false
is_byte c (P b) = b == c

-- No terminal moves the cursor by these finals: SGR, ED and EL; DA (c), MC (i), DSR (n), DECLL (q), XTWINOPS (t), DECREQTPARM (x) and DECTST (y).
abbrev pub never_moves : ℕ → Bool
never_moves final = final == 109 || (final == 74 || (final == 75 || (final == 99 || (final == 105 || (final == 110 ||
    (final == 113 || (final == 116 || (final == 120 || final == 121))))))))

-- with this token in front of it one may: modes with any, XTRESTORE (`? r`), DECSASD (`$ }`) and DECIC (`' }`), and others with no such byte
abbrev pub may_move_with : ℕ → CsiParam → Bool
may_move_with final token = not (is_mark token) || (final == 104 || (final == 108 ||
    (final == 114 && is_byte 63 token || final == 125 && (is_byte 36 token || is_byte 39 token))))

abbrev pub may_move : List CsiParam → ℕ → Bool
may_move params final = not (never_moves final) && list_all (may_move_with final) params

-- and SGR (8.3.117); what is said of the mouse, the window, the keyboard and paths (SCP) does nothing in a line
abbrev pub of_action : Action → List Step
of_action (action.Sgr s) = Step.Attribute s ∷ []
of_action (action.Cursor c) = of_cursor c
of_action (action.Edit e) = of_edit e
of_action (action.Mode m) = of_mode m
of_action (action.Device d) = of_device d
of_action (action.Mouse m) = []
of_action (action.Window w) = []
of_action (action.Keyboard k) = []
of_action (action.SelectCharacterPath path effect) = []
of_action (action.Unspecified params flag final) = if may_move params final then Step.Leave None ∷ [] else []

abbrev pub of_actions : List Action → List Step
of_actions actions = flat_map of_action actions

-- a control sequence: whatever it does, it stands behind what was put last
abbrev pub of_sequence : List Action → List Step
of_sequence actions = of_actions actions ++ Step.Other ∷ []

-- a run of text is read as UTF-8, with U+FFFD for each piece that is no character
abbrev pub of_run : List ℕ → List Step
of_run run = of_chars (lossy_chars run)
