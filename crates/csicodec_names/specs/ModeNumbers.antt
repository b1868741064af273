-- Written by tools/table from table/modes.toml: change that, and run python3 tools/table.
-- The numbers of modes that have a name.
use Rattle.std.specs.Prelude.{ℕ, List, [], ◌∷◌}
use Rattle.csicodec_names.specs.declared.modes.DecPrivateModeCode.{DecPrivateModeCode}
use Rattle.csicodec_names.specs.declared.modes.DecPrivateModeCode.TheVariants as dec
use Rattle.csicodec_names.specs.declared.modes.TerminalModeCode.{TerminalModeCode}
use Rattle.csicodec_names.specs.declared.modes.TerminalModeCode.TheVariants as terminal

-- private modes, of DEC and of other terminals, a line for each variant
abbrev pub dec_mode_number : DecPrivateModeCode → ℕ
dec_mode_number dec.ApplicationCursorKeys = 1
dec_mode_number dec.DecAnsiMode = 2
dec_mode_number dec.Select132Columns = 3
dec_mode_number dec.SmoothScroll = 4
dec_mode_number dec.ReverseVideo = 5
dec_mode_number dec.OriginMode = 6
dec_mode_number dec.AutoWrap = 7
dec_mode_number dec.AutoRepeat = 8
dec_mode_number dec.StartBlinkingCursor = 12
dec_mode_number dec.ShowCursor = 25
dec_mode_number dec.ReverseWraparound = 45
dec_mode_number dec.EnableAlternateScreen = 47
dec_mode_number dec.LeftRightMarginMode = 69
dec_mode_number dec.SixelDisplayMode = 80
dec_mode_number dec.MouseTracking = 1000
dec_mode_number dec.HighlightMouseTracking = 1001
dec_mode_number dec.ButtonEventMouse = 1002
dec_mode_number dec.AnyEventMouse = 1003
dec_mode_number dec.FocusTracking = 1004
dec_mode_number dec.Utf8Mouse = 1005
dec_mode_number dec.SGRMouse = 1006
dec_mode_number dec.SGRPixelsMouse = 1016
dec_mode_number dec.XTermMetaSendsEscape = 1036
dec_mode_number dec.XTermAltSendsEscape = 1039
dec_mode_number dec.OptEnableAlternateScreen = 1047
dec_mode_number dec.SaveCursor = 1048
dec_mode_number dec.ClearAndEnableAlternateScreen = 1049
dec_mode_number dec.UsePrivateColorRegistersForEachGraphic = 1070
dec_mode_number dec.BracketedPaste = 2004
dec_mode_number dec.SynchronizedOutput = 2026
dec_mode_number dec.GraphemeClustering = 2027
dec_mode_number dec.MinTTYApplicationEscapeKeyMode = 7727
dec_mode_number dec.SixelScrollsRight = 8452
dec_mode_number dec.Win32InputMode = 9001

-- all private modes with a name: the list must be complete
abbrev pub dec_codes : List DecPrivateModeCode
dec_codes =
    dec.ApplicationCursorKeys ∷ dec.DecAnsiMode ∷ dec.Select132Columns ∷ dec.SmoothScroll
    ∷ dec.ReverseVideo ∷ dec.OriginMode ∷ dec.AutoWrap ∷ dec.AutoRepeat ∷ dec.StartBlinkingCursor
    ∷ dec.ShowCursor ∷ dec.ReverseWraparound ∷ dec.EnableAlternateScreen ∷ dec.LeftRightMarginMode
    ∷ dec.SixelDisplayMode ∷ dec.MouseTracking ∷ dec.HighlightMouseTracking ∷ dec.ButtonEventMouse
    ∷ dec.AnyEventMouse ∷ dec.FocusTracking ∷ dec.Utf8Mouse ∷ dec.SGRMouse ∷ dec.SGRPixelsMouse
    ∷ dec.XTermMetaSendsEscape ∷ dec.XTermAltSendsEscape ∷ dec.OptEnableAlternateScreen
    ∷ dec.SaveCursor ∷ dec.ClearAndEnableAlternateScreen ∷ dec.UsePrivateColorRegistersForEachGraphic
    ∷ dec.BracketedPaste ∷ dec.SynchronizedOutput ∷ dec.GraphemeClustering
    ∷ dec.MinTTYApplicationEscapeKeyMode ∷ dec.SixelScrollsRight ∷ dec.Win32InputMode ∷ []

-- modes of the standard (ECMA-48, 7.2), and two of terminals, a line for each variant
abbrev pub terminal_mode_number : TerminalModeCode → ℕ
terminal_mode_number terminal.KeyboardAction = 2
terminal_mode_number terminal.Insert = 4
terminal_mode_number terminal.BiDirectionalSupportMode = 8
terminal_mode_number terminal.SendReceive = 12
terminal_mode_number terminal.AutomaticNewline = 20
terminal_mode_number terminal.ShowCursor = 25

-- all modes with a name that are not private: the list must be complete
abbrev pub terminal_codes : List TerminalModeCode
terminal_codes =
    terminal.KeyboardAction ∷ terminal.Insert ∷ terminal.BiDirectionalSupportMode
    ∷ terminal.SendReceive ∷ terminal.AutomaticNewline ∷ terminal.ShowCursor ∷ []
