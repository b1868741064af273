-- The numbers of the enumerations that stand as a parameter. Each counts from 0.
use Rattle.std.specs.Prelude.{ℕ, List, [], ◌∷◌}
use Rattle.csicodec_names.specs.{declared.enums.CursorStyle.CursorStyle, declared.enums.CursorTabulationControl.CursorTabulationControl}
use Rattle.csicodec_names.specs.{declared.enums.TabulationClear.TabulationClear, declared.enums.EraseInLine.EraseInLine}
use Rattle.csicodec_names.specs.{declared.enums.EraseInDisplay.EraseInDisplay}
use Rattle.csicodec_names.specs.declared.enums.CursorStyle.TheVariants as style
use Rattle.csicodec_names.specs.declared.enums.CursorTabulationControl.TheVariants as control
use Rattle.csicodec_names.specs.declared.enums.TabulationClear.TheVariants as clear
use Rattle.csicodec_names.specs.declared.enums.EraseInLine.TheVariants as line
use Rattle.csicodec_names.specs.declared.enums.EraseInDisplay.TheVariants as display

abbrev pub cursor_style_number : CursorStyle → ℕ
cursor_style_number style.Default = 0
cursor_style_number style.BlinkingBlock = 1
cursor_style_number style.SteadyBlock = 2
cursor_style_number style.BlinkingUnderline = 3
cursor_style_number style.SteadyUnderline = 4
cursor_style_number style.BlinkingBar = 5
cursor_style_number style.SteadyBar = 6

-- all styles of the cursor: the list must be complete, a line for each variant
abbrev pub cursor_styles : List CursorStyle
cursor_styles =
    style.Default ∷ style.BlinkingBlock ∷ style.SteadyBlock ∷ style.BlinkingUnderline
    ∷ style.SteadyUnderline ∷ style.BlinkingBar ∷ style.SteadyBar ∷ []

abbrev pub tabulation_control_number : CursorTabulationControl → ℕ
tabulation_control_number control.SetCharacterTabStopAtActivePosition = 0
tabulation_control_number control.SetLineTabStopAtActiveLine = 1
tabulation_control_number control.ClearCharacterTabStopAtActivePosition = 2
tabulation_control_number control.ClearLineTabstopAtActiveLine = 3
tabulation_control_number control.ClearAllCharacterTabStopsAtActiveLine = 4
tabulation_control_number control.ClearAllCharacterTabStops = 5
tabulation_control_number control.ClearAllLineTabStops = 6

-- all controls of tab stops: the list must be complete, a line for each variant
abbrev pub tabulation_controls : List CursorTabulationControl
tabulation_controls =
    control.SetCharacterTabStopAtActivePosition ∷ control.SetLineTabStopAtActiveLine
    ∷ control.ClearCharacterTabStopAtActivePosition ∷ control.ClearLineTabstopAtActiveLine
    ∷ control.ClearAllCharacterTabStopsAtActiveLine ∷ control.ClearAllCharacterTabStops
    ∷ control.ClearAllLineTabStops ∷ []

abbrev pub tabulation_clear_number : TabulationClear → ℕ
tabulation_clear_number clear.ClearCharacterTabStopAtActivePosition = 0
tabulation_clear_number clear.ClearLineTabStopAtActiveLine = 1
tabulation_clear_number clear.ClearCharacterTabStopsAtActiveLine = 2
tabulation_clear_number clear.ClearAllCharacterTabStops = 3
tabulation_clear_number clear.ClearAllLineTabStops = 4
tabulation_clear_number clear.ClearAllTabStops = 5

-- all ways to clear tab stops: the list must be complete, a line for each variant
abbrev pub tabulation_clears : List TabulationClear
tabulation_clears =
    clear.ClearCharacterTabStopAtActivePosition ∷ clear.ClearLineTabStopAtActiveLine
    ∷ clear.ClearCharacterTabStopsAtActiveLine ∷ clear.ClearAllCharacterTabStops
    ∷ clear.ClearAllLineTabStops ∷ clear.ClearAllTabStops ∷ []

abbrev pub erase_in_line_number : EraseInLine → ℕ
erase_in_line_number line.EraseToEndOfLine = 0
erase_in_line_number line.EraseToStartOfLine = 1
erase_in_line_number line.EraseLine = 2

-- all parts of a line: the list must be complete, a line for each variant
abbrev pub erases_in_line : List EraseInLine
erases_in_line =
    line.EraseToEndOfLine ∷ line.EraseToStartOfLine ∷ line.EraseLine ∷ []

abbrev pub erase_in_display_number : EraseInDisplay → ℕ
erase_in_display_number display.EraseToEndOfDisplay = 0
erase_in_display_number display.EraseToStartOfDisplay = 1
erase_in_display_number display.EraseDisplay = 2
erase_in_display_number display.EraseScrollback = 3

-- all parts of a page: the list must be complete, a line for each variant
abbrev pub erases_in_display : List EraseInDisplay
erases_in_display =
    display.EraseToEndOfDisplay ∷ display.EraseToStartOfDisplay ∷ display.EraseDisplay
    ∷ display.EraseScrollback ∷ []
