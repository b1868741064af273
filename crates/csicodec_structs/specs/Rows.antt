-- The struct of each action, and of an action that has a struct which one is in range and which one is meant. Written by tools/table.
use Rattle.std.specs.{Prelude.ℕ, Prelude.◌≡◌, Prelude.◌<◌, Prelude.◌^◌, Prelude.List, Prelude.[], Prelude.map, Prelude.length, Prelude.false, Prelude.pos}
use Rattle.std.specs.{Prelude.Some, Char.IsScalar, List.All}
use Rattle.csicodec_names.specs.EnumNumbers.{cursor_style_number, erase_in_display_number, erase_in_line_number, tabulation_clear_number, tabulation_control_number}
use Rattle.csicodec_names.specs.FlagBits.{kitty_bits}
use Rattle.csicodec_base.specs.declared.sgr.Sgr.{Sgr}
use Rattle.csicodec_actions.specs.{declared.cursor.Cursor.Cursor, declared.edit.Edit.Edit, declared.mode.Mode.Mode, declared.mouse.MouseReport.MouseReport}
use Rattle.csicodec_actions.specs.{Devices.Device, declared.window.Window.Window, declared.keyboard.Keyboard.Keyboard, Actions.Action, XtSmGraphics.item_number}
use Rattle.csicodec_actions.specs.{Kinds.IsOneBased, Kinds.kitty_mode_number, Kinds.number, Kinds.path_number, Modes.dec_number, Modes.resource_number}
use Rattle.csicodec_actions.specs.{Modes.terminal_number}
use Rattle.csicodec_structs.specs.Structs.{AttributeInRange, HasText, IsNamedAttribute, IsNamedDec, IsNamedItem, IsNamedTerminal, TokenInRange, align_number, area_row, attribute_param, blink_number, color_row, flag_number, font_number, intensity_number, list_row, param_of, report_row, row, sized_row, underline_number, unknown_row, value_param}
use Rattle.csicodec_structs.specs.{declared.structs.Param.Param, declared.structs.Struct.Struct}
use Rattle.csicodec_base.specs.declared.sgr.Sgr.TheVariants as sgr
use Rattle.csicodec_actions.specs.declared.cursor.Cursor.TheVariants as cursor
use Rattle.csicodec_actions.specs.declared.edit.Edit.TheVariants as edit
use Rattle.csicodec_actions.specs.declared.mode.Mode.TheVariants as mode
use Rattle.csicodec_actions.specs.declared.mouse.MouseReport.TheVariants as mouse
use Rattle.csicodec_actions.specs.Devices as device
use Rattle.csicodec_actions.specs.declared.window.Window.TheVariants as window
use Rattle.csicodec_actions.specs.declared.keyboard.Keyboard.TheVariants as keyboard
use Rattle.csicodec_actions.specs.Actions as action
use Rattle.csicodec_actions.specs.Ranges as typed

-- ---- the struct of each action: a row for each kind

abbrev pub sgr_struct : Sgr → Struct
sgr_struct sgr.Reset = row 1 (pos 0) (pos 0)
sgr_struct (sgr.Intensity v) = row 2 (pos (intensity_number v)) (pos 0)
sgr_struct (sgr.Underline v) = row 3 (pos (underline_number v)) (pos 0)
sgr_struct (sgr.UnderlineColor c) = color_row 4 c
sgr_struct (sgr.Blink v) = row 5 (pos (blink_number v)) (pos 0)
sgr_struct (sgr.Italic v) = row 6 (pos (flag_number v)) (pos 0)
sgr_struct (sgr.Inverse v) = row 7 (pos (flag_number v)) (pos 0)
sgr_struct (sgr.Invisible v) = row 8 (pos (flag_number v)) (pos 0)
sgr_struct (sgr.StrikeThrough v) = row 9 (pos (flag_number v)) (pos 0)
sgr_struct (sgr.Font v) = row 10 (pos (font_number v)) (pos 0)
sgr_struct (sgr.Foreground c) = color_row 11 c
sgr_struct (sgr.Background c) = color_row 12 c
sgr_struct (sgr.Overline v) = row 13 (pos (flag_number v)) (pos 0)
sgr_struct (sgr.VerticalAlign v) = row 14 (pos (align_number v)) (pos 0)

abbrev pub cursor_struct : Cursor → Struct
cursor_struct (cursor.Up n) = row 101 (pos n) (pos 0)
cursor_struct (cursor.Down n) = row 102 (pos n) (pos 0)
cursor_struct (cursor.Right n) = row 103 (pos n) (pos 0)
cursor_struct (cursor.Left n) = row 104 (pos n) (pos 0)
cursor_struct (cursor.NextLine n) = row 105 (pos n) (pos 0)
cursor_struct (cursor.PrecedingLine n) = row 106 (pos n) (pos 0)
cursor_struct (cursor.CharacterAbsolute n) = row 107 (pos n) (pos 0)
cursor_struct (cursor.CharacterPositionAbsolute n) = row 108 (pos n) (pos 0)
cursor_struct (cursor.Position line col) = row 109 (pos line) (pos col)
cursor_struct (cursor.ActivePositionReport line col) = row 110 (pos line) (pos col)
cursor_struct (cursor.CharacterAndLinePosition line col) = row 111 (pos line) (pos col)
cursor_struct (cursor.ForwardTabulation n) = row 112 (pos n) (pos 0)
cursor_struct (cursor.BackwardTabulation n) = row 113 (pos n) (pos 0)
cursor_struct (cursor.LineTabulation n) = row 114 (pos n) (pos 0)
cursor_struct (cursor.CharacterPositionForward n) = row 115 (pos n) (pos 0)
cursor_struct (cursor.CharacterPositionBackward n) = row 116 (pos n) (pos 0)
cursor_struct (cursor.LinePositionAbsolute n) = row 117 (pos n) (pos 0)
cursor_struct (cursor.LinePositionForward n) = row 118 (pos n) (pos 0)
cursor_struct (cursor.LinePositionBackward n) = row 119 (pos n) (pos 0)
cursor_struct (cursor.TabulationControl v) = row 120 (pos (tabulation_control_number v)) (pos 0)
cursor_struct (cursor.TabulationClear v) = row 121 (pos (tabulation_clear_number v)) (pos 0)
cursor_struct (cursor.SetTopAndBottomMargins top bottom) = row 122 (pos top) (pos bottom)
cursor_struct (cursor.SetLeftAndRightMargins left right) = row 123 (pos left) (pos right)
cursor_struct cursor.SaveCursor = row 124 (pos 0) (pos 0)
cursor_struct cursor.RestoreCursor = row 125 (pos 0) (pos 0)
cursor_struct cursor.RequestActivePositionReport = row 126 (pos 0) (pos 0)
cursor_struct (cursor.CursorStyle v) = row 127 (pos (cursor_style_number v)) (pos 0)

abbrev pub edit_struct : Edit → Struct
edit_struct (edit.InsertCharacter n) = row 201 (pos n) (pos 0)
edit_struct (edit.InsertLine n) = row 202 (pos n) (pos 0)
edit_struct (edit.DeleteCharacter n) = row 203 (pos n) (pos 0)
edit_struct (edit.DeleteLine n) = row 204 (pos n) (pos 0)
edit_struct (edit.EraseCharacter n) = row 205 (pos n) (pos 0)
edit_struct (edit.ScrollUp n) = row 206 (pos n) (pos 0)
edit_struct (edit.ScrollDown n) = row 207 (pos n) (pos 0)
edit_struct (edit.Repeat n) = row 208 (pos n) (pos 0)
edit_struct (edit.EraseInDisplay v) = row 209 (pos (erase_in_display_number v)) (pos 0)
edit_struct (edit.EraseInLine v) = row 210 (pos (erase_in_line_number v)) (pos 0)

abbrev pub mode_struct : Mode → Struct
mode_struct (mode.SetDecPrivateMode v) = row 301 (pos (dec_number v)) (pos 0)
mode_struct (mode.ResetDecPrivateMode v) = row 302 (pos (dec_number v)) (pos 0)
mode_struct (mode.SaveDecPrivateMode v) = row 303 (pos (dec_number v)) (pos 0)
mode_struct (mode.RestoreDecPrivateMode v) = row 304 (pos (dec_number v)) (pos 0)
mode_struct (mode.QueryDecPrivateMode v) = row 305 (pos (dec_number v)) (pos 0)
mode_struct (mode.SetMode v) = row 306 (pos (terminal_number v)) (pos 0)
mode_struct (mode.ResetMode v) = row 307 (pos (terminal_number v)) (pos 0)
mode_struct (mode.QueryMode v) = row 308 (pos (terminal_number v)) (pos 0)
mode_struct (mode.XtermKeyMode resource value) = sized_row 309 (Some (pos (resource_number resource))) value

abbrev pub device_struct : ℕ → Device → Struct
device_struct place (device.DeviceAttributes device.Vt100WithAdvancedVideoOption) = row 401 (pos 0) (pos 0)
device_struct place (device.DeviceAttributes device.Vt101WithNoOptions) = row 402 (pos 0) (pos 0)
device_struct place (device.DeviceAttributes device.Vt102) = row 403 (pos 0) (pos 0)
device_struct place (device.DeviceAttributes (device.Vt220 list)) = list_row 404 (pos 0) (pos 0) place (length list)
device_struct place (device.DeviceAttributes (device.Vt320 list)) = list_row 405 (pos 0) (pos 0) place (length list)
device_struct place (device.DeviceAttributes (device.Vt420 list)) = list_row 406 (pos 0) (pos 0) place (length list)
device_struct place device.SoftReset = row 407 (pos 0) (pos 0)
device_struct place device.RequestPrimaryDeviceAttributes = row 408 (pos 0) (pos 0)
device_struct place device.RequestSecondaryDeviceAttributes = row 409 (pos 0) (pos 0)
device_struct place device.RequestTertiaryDeviceAttributes = row 410 (pos 0) (pos 0)
device_struct place device.RequestTerminalNameAndVersion = row 411 (pos 0) (pos 0)
device_struct place (device.RequestTerminalParameters z) = row 412 z (pos 0)
device_struct place device.StatusReport = row 413 (pos 0) (pos 0)
device_struct place (device.XtSmGraphics item action_or_status value) = list_row 414 (item_number item) action_or_status place (length value)

abbrev pub mouse_struct : MouseReport → Struct
mouse_struct (mouse.SGR1006 x y button modifiers) = report_row 501 x y button modifiers
mouse_struct (mouse.SGR1016 x_pixels y_pixels button modifiers) = report_row 502 x_pixels y_pixels button modifiers

abbrev pub window_struct : Window → Struct
window_struct window.DeIconify = row 601 (pos 0) (pos 0)
window_struct window.Iconify = row 602 (pos 0) (pos 0)
window_struct (window.MoveWindow x y) = row 603 x y
window_struct (window.ResizeWindowPixels width height) = sized_row 604 width height
window_struct window.RaiseWindow = row 605 (pos 0) (pos 0)
window_struct window.LowerWindow = row 606 (pos 0) (pos 0)
window_struct (window.ReportCellSizePixelsResponse width height) = sized_row 607 width height
window_struct window.RefreshWindow = row 608 (pos 0) (pos 0)
window_struct (window.ResizeWindowCells width height) = sized_row 609 width height
window_struct window.RestoreMaximizedWindow = row 610 (pos 0) (pos 0)
window_struct window.MaximizeWindow = row 611 (pos 0) (pos 0)
window_struct window.MaximizeWindowVertically = row 612 (pos 0) (pos 0)
window_struct window.MaximizeWindowHorizontally = row 613 (pos 0) (pos 0)
window_struct window.UndoFullScreenMode = row 614 (pos 0) (pos 0)
window_struct window.ChangeToFullScreenMode = row 615 (pos 0) (pos 0)
window_struct window.ToggleFullScreen = row 616 (pos 0) (pos 0)
window_struct window.ReportWindowState = row 617 (pos 0) (pos 0)
window_struct window.ReportWindowPosition = row 618 (pos 0) (pos 0)
window_struct window.ReportTextAreaPosition = row 619 (pos 0) (pos 0)
window_struct window.ReportTextAreaSizePixels = row 620 (pos 0) (pos 0)
window_struct window.ReportWindowSizePixels = row 621 (pos 0) (pos 0)
window_struct window.ReportScreenSizePixels = row 622 (pos 0) (pos 0)
window_struct window.ReportCellSizePixels = row 623 (pos 0) (pos 0)
window_struct window.ReportTextAreaSizeCells = row 624 (pos 0) (pos 0)
window_struct window.ReportScreenSizeCells = row 625 (pos 0) (pos 0)
window_struct window.ReportIconLabel = row 626 (pos 0) (pos 0)
window_struct window.ReportWindowTitle = row 627 (pos 0) (pos 0)
window_struct window.PushIconAndWindowTitle = row 628 (pos 0) (pos 0)
window_struct window.PushIconTitle = row 629 (pos 0) (pos 0)
window_struct window.PushWindowTitle = row 630 (pos 0) (pos 0)
window_struct window.PopIconAndWindowTitle = row 631 (pos 0) (pos 0)
window_struct window.PopIconTitle = row 632 (pos 0) (pos 0)
window_struct window.PopWindowTitle = row 633 (pos 0) (pos 0)
window_struct (window.ChecksumRectangularArea request_id page_number top left bottom right) = area_row 634 request_id page_number top left bottom right

abbrev pub keyboard_struct : Keyboard → Struct
keyboard_struct (keyboard.SetKittyState flags mode) = row 701 (pos (kitty_bits flags)) (pos (kitty_mode_number mode))
keyboard_struct (keyboard.PushKittyState flags mode) = row 702 (pos (kitty_bits flags)) (pos (kitty_mode_number mode))
keyboard_struct (keyboard.PopKittyState n) = row 703 (pos n) (pos 0)
keyboard_struct keyboard.QueryKittySupport = row 704 (pos 0) (pos 0)
keyboard_struct (keyboard.ReportKittyState flags) = row 705 (pos (kitty_bits flags)) (pos 0)

-- the tokens of an action: of a terminal's extensions, and the values of graphics
abbrev pub device_params : Device → List Param
device_params (device.DeviceAttributes (device.Vt220 list)) = map attribute_param list
device_params (device.DeviceAttributes (device.Vt320 list)) = map attribute_param list
device_params (device.DeviceAttributes (device.Vt420 list)) = map attribute_param list
device_params (device.XtSmGraphics item action_or_status value) = map value_param value
device_params other = []

-- and of an unknown one
abbrev pub params_of : Action → List Param
params_of (action.Sgr s) = []
params_of (action.Cursor c) = []
params_of (action.Edit e) = []
params_of (action.Mode m) = []
params_of (action.Mouse m) = []
params_of (action.Device d) = device_params d
params_of (action.Window w) = []
params_of (action.Keyboard k) = []
params_of (action.SelectCharacterPath path effect) = []
params_of (action.Unspecified params flag final) = map param_of params

-- an action whose tokens stand from this place on
abbrev pub struct_of : ℕ → Action → Struct
struct_of place (action.Sgr s) = sgr_struct s
struct_of place (action.Cursor c) = cursor_struct c
struct_of place (action.Edit e) = edit_struct e
struct_of place (action.Mode m) = mode_struct m
struct_of place (action.Mouse m) = mouse_struct m
struct_of place (action.Device d) = device_struct place d
struct_of place (action.Window w) = window_struct w
struct_of place (action.Keyboard k) = keyboard_struct k
struct_of place (action.SelectCharacterPath path effect) = row 801 (pos (path_number path)) effect
struct_of place (action.Unspecified params flag final) = unknown_row final place (length params)

-- ---- the actions that a struct can stand for: each number is one that its type lets stand, and a font has a text. What isn't listed is in range

abbrev pub SgrInRange : Sgr → Type 0
SgrInRange (sgr.Font v) = HasText v
SgrInRange other = typed.SgrInRange other

abbrev pub CursorInRange : Cursor → Type 0
CursorInRange (cursor.Up n) = n < 2 ^ 32
CursorInRange (cursor.Down n) = n < 2 ^ 32
CursorInRange (cursor.Right n) = n < 2 ^ 32
CursorInRange (cursor.Left n) = n < 2 ^ 32
CursorInRange (cursor.NextLine n) = n < 2 ^ 32
CursorInRange (cursor.PrecedingLine n) = n < 2 ^ 32
CursorInRange (cursor.CharacterAbsolute n) = IsOneBased n
CursorInRange (cursor.CharacterPositionAbsolute n) = IsOneBased n
CursorInRange (cursor.Position line col) = IsOneBased line × IsOneBased col
CursorInRange (cursor.ActivePositionReport line col) = IsOneBased line × IsOneBased col
CursorInRange (cursor.CharacterAndLinePosition line col) = IsOneBased line × IsOneBased col
CursorInRange (cursor.ForwardTabulation n) = n < 2 ^ 32
CursorInRange (cursor.BackwardTabulation n) = n < 2 ^ 32
CursorInRange (cursor.LineTabulation n) = n < 2 ^ 32
CursorInRange (cursor.CharacterPositionForward n) = n < 2 ^ 32
CursorInRange (cursor.CharacterPositionBackward n) = n < 2 ^ 32
CursorInRange (cursor.LinePositionAbsolute n) = n < 2 ^ 32
CursorInRange (cursor.LinePositionForward n) = n < 2 ^ 32
CursorInRange (cursor.LinePositionBackward n) = n < 2 ^ 32
CursorInRange (cursor.SetTopAndBottomMargins top bottom) = IsOneBased top × IsOneBased bottom
CursorInRange (cursor.SetLeftAndRightMargins left right) = IsOneBased left × IsOneBased right
CursorInRange other = Unit {0}

abbrev pub EditInRange : Edit → Type 0
EditInRange (edit.InsertCharacter n) = n < 2 ^ 32
EditInRange (edit.InsertLine n) = n < 2 ^ 32
EditInRange (edit.DeleteCharacter n) = n < 2 ^ 32
EditInRange (edit.DeleteLine n) = n < 2 ^ 32
EditInRange (edit.EraseCharacter n) = n < 2 ^ 32
EditInRange (edit.ScrollUp n) = n < 2 ^ 32
EditInRange (edit.ScrollDown n) = n < 2 ^ 32
EditInRange (edit.Repeat n) = n < 2 ^ 32
EditInRange other = Unit {0}

abbrev pub ModeInRange : Mode → Type 0
ModeInRange (mode.SetDecPrivateMode v) = dec_number v < 65536
ModeInRange (mode.ResetDecPrivateMode v) = dec_number v < 65536
ModeInRange (mode.SaveDecPrivateMode v) = dec_number v < 65536
ModeInRange (mode.RestoreDecPrivateMode v) = dec_number v < 65536
ModeInRange (mode.QueryDecPrivateMode v) = dec_number v < 65536
ModeInRange (mode.SetMode v) = terminal_number v < 65536
ModeInRange (mode.ResetMode v) = terminal_number v < 65536
ModeInRange (mode.QueryMode v) = terminal_number v < 65536
ModeInRange other = Unit {0}

abbrev pub DeviceInRange : Device → Type 0
DeviceInRange (device.DeviceAttributes (device.Vt220 list)) = All AttributeInRange list
DeviceInRange (device.DeviceAttributes (device.Vt320 list)) = All AttributeInRange list
DeviceInRange (device.DeviceAttributes (device.Vt420 list)) = All AttributeInRange list
DeviceInRange other = Unit {0}

abbrev pub MouseInRange : MouseReport → Type 0
MouseInRange (mouse.SGR1006 x y button modifiers) = (x < 65536) × (y < 65536)
MouseInRange (mouse.SGR1016 x_pixels y_pixels button modifiers) = (x_pixels < 65536) × (y_pixels < 65536)

abbrev pub WindowInRange : Window → Type 0
WindowInRange (window.ChecksumRectangularArea request_id page_number top left bottom right) = IsOneBased top × IsOneBased left × IsOneBased bottom × IsOneBased right
WindowInRange other = Unit {0}

abbrev pub KeyboardInRange : Keyboard → Type 0
KeyboardInRange (keyboard.SetKittyState flags mode) = kitty_bits flags < 65536
KeyboardInRange (keyboard.PushKittyState flags mode) = kitty_bits flags < 65536
KeyboardInRange (keyboard.PopKittyState n) = n < 2 ^ 32
KeyboardInRange (keyboard.ReportKittyState flags) = kitty_bits flags < 65536
KeyboardInRange other = Unit {0}

abbrev pub InRange : Action → Type 0
InRange (action.Sgr a) = SgrInRange a
InRange (action.Cursor a) = CursorInRange a
InRange (action.Edit a) = EditInRange a
InRange (action.Mode a) = ModeInRange a
InRange (action.Device a) = DeviceInRange a
InRange (action.Mouse a) = MouseInRange a
InRange (action.Window a) = WindowInRange a
InRange (action.Keyboard a) = KeyboardInRange a
InRange (action.SelectCharacterPath path effect) = Unit {0}
InRange (action.Unspecified params flag final) = All TokenInRange params × IsScalar final

-- ---- which action is meant, of those that have one struct: a mode, an extension of a terminal and an item of graphics are by their
-- names where they have one, and the flag of an unknown action isn't set. Any other action has no like

abbrev pub IsNamedMode : Mode → Type 0
IsNamedMode (mode.SetDecPrivateMode v) = IsNamedDec v
IsNamedMode (mode.ResetDecPrivateMode v) = IsNamedDec v
IsNamedMode (mode.SaveDecPrivateMode v) = IsNamedDec v
IsNamedMode (mode.RestoreDecPrivateMode v) = IsNamedDec v
IsNamedMode (mode.QueryDecPrivateMode v) = IsNamedDec v
IsNamedMode (mode.SetMode v) = IsNamedTerminal v
IsNamedMode (mode.ResetMode v) = IsNamedTerminal v
IsNamedMode (mode.QueryMode v) = IsNamedTerminal v
IsNamedMode other = Unit {0}

abbrev pub IsNamedDevice : Device → Type 0
IsNamedDevice (device.DeviceAttributes (device.Vt220 list)) = All IsNamedAttribute list
IsNamedDevice (device.DeviceAttributes (device.Vt320 list)) = All IsNamedAttribute list
IsNamedDevice (device.DeviceAttributes (device.Vt420 list)) = All IsNamedAttribute list
IsNamedDevice (device.XtSmGraphics item action_or_status value) = IsNamedItem item
IsNamedDevice other = Unit {0}

abbrev pub IsNamed : Action → Type 0
IsNamed (action.Mode a) = IsNamedMode a
IsNamed (action.Device a) = IsNamedDevice a
IsNamed (action.Unspecified params flag final) = flag ≡ false
IsNamed other = Unit {0}
