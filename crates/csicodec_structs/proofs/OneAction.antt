-- A struct and its tokens are those of one action by its name, whatever action has them. Written by tools/table.
use Rattle.std.proofs.Common.{◌≡◌, ℕ, ◌-◌, List, [], ◌∷◌, Option, None, Some, map, refl, sym, ap, ◌∙◌, pos, get_or, nat_lt}
use Rattle.std.proofs.lemmas.Option.{same_Some}
use Rattle.std.specs.{Prelude.ℤ, Prelude.Bool, Prelude.true, Prelude.false, Prelude.nat_abs, Prelude.◌==◌, Prelude.if◌then◌else◌, Option.option_map}
use Rattle.csicodec_names.specs.{Numbered.is_number, Numbered.with_number, declared.color.ColorSpec.ColorSpec, declared.flags.Modifiers.Modifiers}
use Rattle.csicodec_names.specs.{declared.flags.KittyKeyboardFlags.KittyKeyboardFlags}
use Rattle.csicodec_actions.specs.Kinds.{Clear, Control, Dec, InDisplay, InLine, Kind, Path, Resource, Style, Terminal, Value, Way, read}
use Rattle.csicodec_actions.specs.{declared.device.DeviceAttribute.DeviceAttribute, declared.keyboard.KittyKeyboardMode.KittyKeyboardMode}
use Rattle.csicodec_actions.specs.{declared.mouse.MouseButton.MouseButton, declared.cursor.Cursor.Cursor, declared.edit.Edit.Edit, declared.mode.Mode.Mode}
use Rattle.csicodec_actions.specs.{declared.mouse.MouseReport.MouseReport, Devices.Device, Devices.Attributes, declared.window.Window.Window}
use Rattle.csicodec_actions.specs.{declared.keyboard.Keyboard.Keyboard, Actions.Action, XtSmGraphics.item_number, XtSmGraphics.item_of}
use Rattle.csicodec_base.specs.declared.sgr.Sgr.{Sgr}
use Rattle.csicodec_actions.proofs.Values.{read-good}
use Rattle.csicodec_structs.specs.Rows.{InRange, IsNamed, IsNamedMode, ModeInRange, mode_struct, params_of, struct_of}
use Rattle.csicodec_structs.specs.Structs.{align_number, blink_number, button_number, intensity_number, underline_number}
use Rattle.csicodec_structs.specs.{declared.structs.Param.Param, declared.structs.Struct.Struct}
use Rattle.csicodec_structs.proofs.OneValue.{ByName, attribute_at, attributes-back, attributes-named, color_at, first_at, font-back, font_at, item-back, item_named, second_at, token_at, tokens-back, value_at, values-back}
use Rattle.csicodec_structs.proofs.ModeNumbers.{dec-back, dec-named, terminal-back, terminal-named}
use Rattle.csicodec_names.specs.declared.color.ColorSpec.TheVariants as color
use Rattle.csicodec_names.specs.declared.color.Blink.TheVariants as blink
use Rattle.csicodec_names.specs.declared.color.Intensity.TheVariants as intensity
use Rattle.csicodec_actions.specs.declared.mouse.MouseButton.TheVariants as button
use Rattle.csicodec_names.specs.declared.color.Underline.TheVariants as line
use Rattle.csicodec_names.specs.declared.color.VerticalAlign.TheVariants as align
use Rattle.csicodec_base.specs.declared.sgr.Sgr.TheVariants as sgr
use Rattle.csicodec_actions.specs.declared.cursor.Cursor.TheVariants as cursor
use Rattle.csicodec_actions.specs.declared.edit.Edit.TheVariants as edit
use Rattle.csicodec_actions.specs.declared.mode.Mode.TheVariants as mode
use Rattle.csicodec_actions.specs.declared.mouse.MouseReport.TheVariants as mouse
use Rattle.csicodec_actions.specs.Devices as device
use Rattle.csicodec_actions.specs.declared.window.Window.TheVariants as window
use Rattle.csicodec_actions.specs.declared.keyboard.Keyboard.TheVariants as keyboard
use Rattle.csicodec_actions.specs.Actions as action

abbrev buttons : List MouseButton
buttons =
    button.Button1Press ∷ button.Button2Press ∷ button.Button3Press ∷ button.Button4Press ∷ button.Button5Press ∷ button.Button6Press
    ∷ button.Button7Press ∷ button.Button1Release ∷ button.Button2Release ∷ button.Button3Release ∷ button.Button4Release ∷ button.Button5Release
    ∷ button.Button6Release ∷ button.Button7Release ∷ button.Button1Drag ∷ button.Button2Drag ∷ button.Button3Drag ∷ button.None ∷ []

-- ---- forms: a value by what a struct says

abbrev unit : {A : Type 0} → A → Struct → Option A
unit a given = Some a

abbrev count : {A : Type 0} → (ℕ → A) → Struct → Option A
count make given = Some (make (nat_abs given.first))

abbrev pair : (ℕ → ℕ → Cursor) → Struct → Option Cursor
pair make given = Some (make (nat_abs given.first) (nat_abs given.second))

abbrev sizes : (Option ℤ → Option ℤ → Window) → Struct → Option Window
sizes make given = Some (make (first_at given) (second_at given))

abbrev flag : (Bool → Sgr) → Struct → Option Sgr
flag make given = Some (make (is_number 1 given.first))

abbrev painted : (ColorSpec → Sgr) → Struct → Option Sgr
painted make given = Some (make (color_at given))

abbrev listed : {E : Type 0} → (E → ℕ) → List E → (E → Sgr) → Struct → Option Sgr
listed number all make given = option_map make (with_number number all given.first)

abbrev coded : {A : Type 0} (k : Kind) → (Value k → A) → Struct → Option A
coded k make given = option_map make (read k given.first)

abbrev extended : List Param → (List DeviceAttribute → Attributes) → Struct → Option Device
extended params make given = Some (device.DeviceAttributes (make (map attribute_at params)))

abbrev reported : (ℕ → ℕ → MouseButton → Modifiers → MouseReport) → Struct → Option MouseReport
reported make given =
    let made = λ (b : MouseButton). make (nat_abs given.first) (nat_abs given.second) b (record { bits = given.modifiers }) in
    option_map made (with_number button_number buttons (pos given.button))

abbrev state : (KittyKeyboardFlags → KittyKeyboardMode → Keyboard) → Struct → Option Keyboard
state make given = option_map (λ v. make (record { bits = nat_abs given.first }) v) (read Way given.second)

-- ---- what makes each kind, by its number

abbrev sgr_makers : List (Struct → Option Sgr)
sgr_makers =
    unit sgr.Reset ∷ listed intensity_number (intensity.Normal ∷ intensity.Bold ∷ intensity.Half ∷ []) sgr.Intensity
    ∷ listed underline_number (line.None ∷ line.Single ∷ line.Double ∷ line.Curly ∷ line.Dotted ∷ line.Dashed ∷ []) sgr.Underline
    ∷ painted sgr.UnderlineColor ∷ listed blink_number (blink.None ∷ blink.Slow ∷ blink.Rapid ∷ []) sgr.Blink ∷ flag sgr.Italic ∷ flag sgr.Inverse
    ∷ flag sgr.Invisible ∷ flag sgr.StrikeThrough ∷ (λ given. Some (sgr.Font (font_at given.first))) ∷ painted sgr.Foreground
    ∷ painted sgr.Background ∷ flag sgr.Overline
    ∷ listed align_number (align.BaseLine ∷ align.SuperScript ∷ align.SubScript ∷ []) sgr.VerticalAlign ∷ []

abbrev cursor_makers : List (Struct → Option Cursor)
cursor_makers =
    count cursor.Up ∷ count cursor.Down ∷ count cursor.Right ∷ count cursor.Left ∷ count cursor.NextLine ∷ count cursor.PrecedingLine
    ∷ count cursor.CharacterAbsolute ∷ count cursor.CharacterPositionAbsolute ∷ pair cursor.Position ∷ pair cursor.ActivePositionReport
    ∷ pair cursor.CharacterAndLinePosition ∷ count cursor.ForwardTabulation ∷ count cursor.BackwardTabulation ∷ count cursor.LineTabulation
    ∷ count cursor.CharacterPositionForward ∷ count cursor.CharacterPositionBackward ∷ count cursor.LinePositionAbsolute
    ∷ count cursor.LinePositionForward ∷ count cursor.LinePositionBackward ∷ coded Control cursor.TabulationControl
    ∷ coded Clear cursor.TabulationClear ∷ pair cursor.SetTopAndBottomMargins ∷ pair cursor.SetLeftAndRightMargins ∷ unit cursor.SaveCursor
    ∷ unit cursor.RestoreCursor ∷ unit cursor.RequestActivePositionReport ∷ coded Style cursor.CursorStyle ∷ []

abbrev edit_makers : List (Struct → Option Edit)
edit_makers =
    count edit.InsertCharacter ∷ count edit.InsertLine ∷ count edit.DeleteCharacter ∷ count edit.DeleteLine ∷ count edit.EraseCharacter
    ∷ count edit.ScrollUp ∷ count edit.ScrollDown ∷ count edit.Repeat ∷ coded InDisplay edit.EraseInDisplay ∷ coded InLine edit.EraseInLine ∷ []

abbrev mode_makers : List (Struct → Option Mode)
mode_makers =
    coded Dec mode.SetDecPrivateMode ∷ coded Dec mode.ResetDecPrivateMode ∷ coded Dec mode.SaveDecPrivateMode
    ∷ coded Dec mode.RestoreDecPrivateMode ∷ coded Dec mode.QueryDecPrivateMode ∷ coded Terminal mode.SetMode ∷ coded Terminal mode.ResetMode
    ∷ coded Terminal mode.QueryMode ∷ (λ given. option_map (λ v. mode.XtermKeyMode v (second_at given)) (read Resource given.first)) ∷ []

abbrev device_makers : List Param → List (Struct → Option Device)
device_makers params =
    unit (device.DeviceAttributes device.Vt100WithAdvancedVideoOption) ∷ unit (device.DeviceAttributes device.Vt101WithNoOptions)
    ∷ unit (device.DeviceAttributes device.Vt102) ∷ extended params device.Vt220 ∷ extended params device.Vt320 ∷ extended params device.Vt420
    ∷ unit device.SoftReset ∷ unit device.RequestPrimaryDeviceAttributes ∷ unit device.RequestSecondaryDeviceAttributes
    ∷ unit device.RequestTertiaryDeviceAttributes ∷ unit device.RequestTerminalNameAndVersion
    ∷ (λ given. Some (device.RequestTerminalParameters given.first)) ∷ unit device.StatusReport
    ∷ (λ given. Some (device.XtSmGraphics (item_of given.first) given.second (map value_at params))) ∷ []

abbrev mouse_makers : List (Struct → Option MouseReport)
mouse_makers = reported mouse.SGR1006 ∷ reported mouse.SGR1016 ∷ []

abbrev window_makers : List (Struct → Option Window)
window_makers =
    unit window.DeIconify ∷ unit window.Iconify ∷ (λ given. Some (window.MoveWindow given.first given.second)) ∷ sizes window.ResizeWindowPixels
    ∷ unit window.RaiseWindow ∷ unit window.LowerWindow ∷ sizes window.ReportCellSizePixelsResponse ∷ unit window.RefreshWindow
    ∷ sizes window.ResizeWindowCells ∷ unit window.RestoreMaximizedWindow ∷ unit window.MaximizeWindow ∷ unit window.MaximizeWindowVertically
    ∷ unit window.MaximizeWindowHorizontally ∷ unit window.UndoFullScreenMode ∷ unit window.ChangeToFullScreenMode ∷ unit window.ToggleFullScreen
    ∷ unit window.ReportWindowState ∷ unit window.ReportWindowPosition ∷ unit window.ReportTextAreaPosition ∷ unit window.ReportTextAreaSizePixels
    ∷ unit window.ReportWindowSizePixels ∷ unit window.ReportScreenSizePixels ∷ unit window.ReportCellSizePixels
    ∷ unit window.ReportTextAreaSizeCells ∷ unit window.ReportScreenSizeCells ∷ unit window.ReportIconLabel ∷ unit window.ReportWindowTitle
    ∷ unit window.PushIconAndWindowTitle ∷ unit window.PushIconTitle ∷ unit window.PushWindowTitle ∷ unit window.PopIconAndWindowTitle
    ∷ unit window.PopIconTitle ∷ unit window.PopWindowTitle
    ∷ (λ given. Some (window.ChecksumRectangularArea given.first given.second given.top given.left given.bottom given.right)) ∷ []

abbrev keyboard_makers : List (Struct → Option Keyboard)
keyboard_makers =
    state keyboard.SetKittyState ∷ state keyboard.PushKittyState ∷ count keyboard.PopKittyState ∷ unit keyboard.QueryKittySupport
    ∷ (λ given. Some (keyboard.ReportKittyState (record { bits = nat_abs given.first }))) ∷ []

abbrev pick : {A : Type 0} → List (Struct → Option A) → ℕ → (A → Action) → Struct → Option Action
pick makers at make given = option_map make (get_or makers at (λ _. None) given)

-- the action of a struct and its tokens
action_at : Struct → List Param → Option Action
action_at given params =
    if given.kind == 0 then Some (action.Unspecified (map token_at params) false given.final_char) else
    if nat_lt given.kind 100 then pick sgr_makers (given.kind - 1) action.Sgr given else
    if nat_lt given.kind 200 then pick cursor_makers (given.kind - 101) action.Cursor given else
    if nat_lt given.kind 300 then pick edit_makers (given.kind - 201) action.Edit given else
    if nat_lt given.kind 400 then pick mode_makers (given.kind - 301) action.Mode given else
    if nat_lt given.kind 500 then pick (device_makers params) (given.kind - 401) action.Device given else
    if nat_lt given.kind 600 then pick mouse_makers (given.kind - 501) action.Mouse given else
    if nat_lt given.kind 700 then pick window_makers (given.kind - 601) action.Window given else
    if nat_lt given.kind 800 then pick keyboard_makers (given.kind - 701) action.Keyboard given else
    option_map (λ v. action.SelectCharacterPath v given.second) (read Path given.first)

action-back : (place : ℕ) (a : Action) → InRange a → IsNamed a → action_at (struct_of place a) (params_of a) ≡ Some a
unfolding action_at
action-back place (action.Sgr (sgr.Intensity intensity.Normal)) range named = refl
action-back place (action.Sgr (sgr.Underline line.None)) range named = refl
action-back place (action.Sgr (sgr.UnderlineColor color.Default)) range named = refl
action-back place (action.Sgr (sgr.Blink blink.None)) range named = refl
action-back place (action.Sgr (sgr.Italic true)) range named = refl
action-back place (action.Sgr (sgr.Inverse true)) range named = refl
action-back place (action.Sgr (sgr.Invisible true)) range named = refl
action-back place (action.Sgr (sgr.StrikeThrough true)) range named = refl
action-back place (action.Sgr (sgr.Font v)) range named = rw (font-back v range) refl
action-back place (action.Sgr (sgr.Foreground color.Default)) range named = refl
action-back place (action.Sgr (sgr.Background color.Default)) range named = refl
action-back place (action.Sgr (sgr.Overline true)) range named = refl
action-back place (action.Sgr (sgr.VerticalAlign align.BaseLine)) range named = refl
action-back place (action.Cursor (cursor.TabulationControl v)) range named = rw (read-good Control v tt) refl
action-back place (action.Cursor (cursor.TabulationClear v)) range named = rw (read-good Clear v tt) refl
action-back place (action.Cursor (cursor.CursorStyle v)) range named = rw (read-good Style v tt) refl
action-back place (action.Edit (edit.EraseInDisplay v)) range named = rw (read-good InDisplay v tt) refl
action-back place (action.Edit (edit.EraseInLine v)) range named = rw (read-good InLine v tt) refl
action-back place (action.Mode (mode.XtermKeyMode v None)) range named = rw (read-good Resource v tt) refl
action-back place (action.Mode (mode.XtermKeyMode v (Some z))) range named = rw (read-good Resource v tt) refl
action-back place (action.Device (device.DeviceAttributes (device.Vt220 list))) range named = rw (attributes-back list named) refl
action-back place (action.Device (device.DeviceAttributes (device.Vt320 list))) range named = rw (attributes-back list named) refl
action-back place (action.Device (device.DeviceAttributes (device.Vt420 list))) range named = rw (attributes-back list named) refl
action-back place (action.Device (device.XtSmGraphics item action_or_status list)) range named = rw (item-back item named, values-back list) refl
action-back place (action.Mouse (mouse.SGR1006 x y button.None modifiers)) range named = refl
action-back place (action.Mouse (mouse.SGR1016 x_pixels y_pixels button.None modifiers)) range named = refl
action-back place (action.Window (window.ResizeWindowPixels None None)) range named = refl
action-back place (action.Window (window.ResizeWindowPixels (Some a) None)) range named = refl
action-back place (action.Window (window.ReportCellSizePixelsResponse None None)) range named = refl
action-back place (action.Window (window.ReportCellSizePixelsResponse (Some a) None)) range named = refl
action-back place (action.Window (window.ResizeWindowCells None None)) range named = refl
action-back place (action.Window (window.ResizeWindowCells (Some a) None)) range named = refl
action-back place (action.Keyboard (keyboard.SetKittyState flags v)) range named = rw (read-good Way v tt) refl
action-back place (action.Keyboard (keyboard.PushKittyState flags v)) range named = rw (read-good Way v tt) refl
action-back place (action.Mode m) range named = simp (dec-back, terminal-back)
action-back place (action.SelectCharacterPath v effect) range named = rw (read-good Path v tt) refl
action-back place (action.Unspecified params flag final) range named = rw (tokens-back params, named) refl
action-back place other range named = refl

-- so two by their names with one struct and its tokens are one
pub same-action : (place : ℕ) (a b : Action) → InRange a → IsNamed a → InRange b → IsNamed b → struct_of place a ≡ struct_of place b
    → params_of a ≡ params_of b → a ≡ b
same-action place a b in_a named_a in_b named_b given params =
    let same = ap (λ p. action_at p (params_of a)) given ∙ ap (action_at (struct_of place b)) params in
    same_Some a b (sym (action-back place a in_a named_a) ∙ same ∙ action-back place b in_b named_b)

like : {place : ℕ} {a : Action} (one : Action) → InRange one → IsNamed one → struct_of place one ≡ struct_of place a
    → params_of one ≡ params_of a → ByName place a
like one in_range named given params = record { one = one; in_range = in_range; named = named; given = given; params = params }

alike : {place : ℕ} {M : Type 0} {Named : M → Type 0} {number : M → ℕ} {v : M} (make : M → Mode)
    → ((m : M) × Named m × (number m ≡ number v))
    → ((m : M) → Named m → number m ≡ number v → ModeInRange (make m) × IsNamedMode (make m) × (mode_struct (make m) ≡ mode_struct (make v)))
    → ByName place (action.Mode (make v))
alike make (m, named, is) facts = (let (range, by_name, given) = facts m named is in like (action.Mode (make m)) range by_name given refl)

pub action-named : (place : ℕ) (a : Action) → InRange a → ByName place a
action-named place (action.Mode (mode.SetDecPrivateMode v)) range = alike mode.SetDecPrivateMode (dec-named v range) (λ m n e. (rw e range, n, rw e))
action-named place (action.Mode (mode.ResetDecPrivateMode v)) range = alike mode.ResetDecPrivateMode (dec-named v range) (λ m n e. (rw e range, n, rw e))
action-named place (action.Mode (mode.SaveDecPrivateMode v)) range = alike mode.SaveDecPrivateMode (dec-named v range) (λ m n e. (rw e range, n, rw e))
action-named place (action.Mode (mode.RestoreDecPrivateMode v)) range = alike mode.RestoreDecPrivateMode (dec-named v range) (λ m n e. (rw e range, n, rw e))
action-named place (action.Mode (mode.QueryDecPrivateMode v)) range = alike mode.QueryDecPrivateMode (dec-named v range) (λ m n e. (rw e range, n, rw e))
action-named place (action.Mode (mode.SetMode v)) range = alike mode.SetMode (terminal-named v range) (λ m n e. (rw e range, n, rw e))
action-named place (action.Mode (mode.ResetMode v)) range = alike mode.ResetMode (terminal-named v range) (λ m n e. (rw e range, n, rw e))
action-named place (action.Mode (mode.QueryMode v)) range = alike mode.QueryMode (terminal-named v range) (λ m n e. (rw e range, n, rw e))
action-named place (action.Device (device.DeviceAttributes (device.Vt220 list))) range =
    let l = attributes-named list range in like (action.Device (device.DeviceAttributes (device.Vt220 l.others))) l.in_range l.named (rw l.long) l.same
action-named place (action.Device (device.DeviceAttributes (device.Vt320 list))) range =
    let l = attributes-named list range in like (action.Device (device.DeviceAttributes (device.Vt320 l.others))) l.in_range l.named (rw l.long) l.same
action-named place (action.Device (device.DeviceAttributes (device.Vt420 list))) range =
    let l = attributes-named list range in like (action.Device (device.DeviceAttributes (device.Vt420 l.others))) l.in_range l.named (rw l.long) l.same
action-named place (action.Device (device.XtSmGraphics item action_or_status list)) range =
    let h = item_named (item_number item) in
    like (action.Device (device.XtSmGraphics (item_of (item_number item)) action_or_status list)) range h.0 (rw h.1) refl
action-named place (action.Unspecified params flag final) range = like (action.Unspecified params false final) range refl refl refl
action-named place other range = like other range tt refl refl
