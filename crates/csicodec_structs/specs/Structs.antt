-- The structs that cross to C, and the numbers in them: those that they may have, and of two values with one number which one is meant.
use Rattle.std.specs.Prelude.{ℕ, ℤ, Bool, true, false, Option, Some, None, pos, ◌≡◌, ◌<◌}
use Rattle.csicodec_tokens.specs.{declared.param.CsiParam.CsiParam, declared.param.CsiParam.TheVariants.Integer, declared.param.CsiParam.TheVariants.P}
use Rattle.csicodec_names.specs.{FlagBits.modifier_bits, declared.color.ColorSpec.ColorSpec, declared.color.Intensity.Intensity}
use Rattle.csicodec_names.specs.{declared.color.Underline.Underline, declared.color.Blink.Blink, declared.color.VerticalAlign.VerticalAlign}
use Rattle.csicodec_names.specs.{declared.flags.Modifiers.Modifiers, DeviceNumbers.device_attribute_number, ModeNumbers.dec_mode_number}
use Rattle.csicodec_names.specs.{ModeNumbers.terminal_mode_number, declared.device.DeviceAttributeCodes.DeviceAttributeCodes}
use Rattle.csicodec_names.specs.{declared.modes.DecPrivateModeCode.DecPrivateModeCode, declared.modes.TerminalModeCode.TerminalModeCode}
use Rattle.csicodec_base.specs.declared.sgr.Font.{Font}
use Rattle.csicodec_actions.specs.{Devices.attribute_token, declared.device.DeviceAttribute.DeviceAttribute, declared.mouse.MouseButton.MouseButton}
use Rattle.csicodec_actions.specs.{XtSmGraphics.IsUnnamedItem, declared.xtsmgraphics.XtSmGraphicsItem.XtSmGraphicsItem}
use Rattle.csicodec_actions.specs.{declared.mode.DecPrivateMode.DecPrivateMode, declared.mode.TerminalMode.TerminalMode}
use Rattle.csicodec_structs.specs.{declared.structs.Param.Param, declared.structs.Struct.Struct}
use Rattle.csicodec_names.specs.declared.color.ColorSpec.TheVariants as color
use Rattle.csicodec_names.specs.declared.color.Intensity.TheVariants as intensity
use Rattle.csicodec_names.specs.declared.color.Underline.TheVariants as underline
use Rattle.csicodec_names.specs.declared.color.Blink.TheVariants as blink
use Rattle.csicodec_names.specs.declared.color.VerticalAlign.TheVariants as align
use Rattle.csicodec_base.specs.declared.sgr.Font.TheVariants as font
use Rattle.csicodec_actions.specs.declared.mouse.MouseButton.TheVariants as button
use Rattle.csicodec_actions.specs.declared.device.DeviceAttribute.TheVariants as attribute
use Rattle.csicodec_actions.specs.declared.xtsmgraphics.XtSmGraphicsItem.TheVariants as item
use Rattle.csicodec_actions.specs.declared.mode.DecPrivateMode.TheVariants as dec
use Rattle.csicodec_actions.specs.declared.mode.TerminalMode.TheVariants as terminal

-- ---- structs

-- every field is 0
abbrev pub empty : Struct
empty = record { kind = 0; final_char = 0; first = pos 0; second = pos 0; top = 0; left = 0; bottom = 0; right = 0; place = 0; len = 0; red = 0; green = 0; blue = 0; alpha = 0; modifiers = 0; button = 0; absent = 0 }

-- a kind and two numbers
abbrev pub row : ℕ → ℤ → ℤ → Struct
row kind first second = record empty { kind = kind; first = first; second = second }

-- with tokens from this place on
abbrev pub list_row : ℕ → ℤ → ℤ → ℕ → ℕ → Struct
list_row kind first second place len = record (row kind first second) { place = place; len = len }

-- what none of the rules reads
abbrev pub unknown_row : ℕ → ℕ → ℕ → Struct
unknown_row final place len = record empty { final_char = final; place = place; len = len }

-- a colour: 0 the terminal's own, 1 a place in the palette, 2 its parts
abbrev pub color_row : ℕ → ColorSpec → Struct
color_row kind color.Default = row kind (pos 0) (pos 0)
color_row kind (color.PaletteIndex i) = row kind (pos 1) (pos i)
color_row kind (color.TrueColor c) =
    record (row kind (pos 2) (pos 0)) { red = c.0; green = c.1; blue = c.2; alpha = c.3 }

-- an absent number is 0
abbrev pub number_or_zero : Option ℤ → ℤ
number_or_zero None = pos 0
number_or_zero (Some z) = z

-- 1 where the first is absent, and 2 where the second is
abbrev pub absence : Option ℤ → Option ℤ → ℕ
absence (Some a) (Some b) = 0
absence None (Some b) = 1
absence (Some a) None = 2
absence None None = 3

-- two numbers that may be absent
abbrev pub sized_row : ℕ → Option ℤ → Option ℤ → Struct
sized_row kind first second = record (row kind (number_or_zero first) (number_or_zero second)) { absent = absence first second }

-- four sides, with two numbers
abbrev pub area_row : ℕ → ℤ → ℤ → ℕ → ℕ → ℕ → ℕ → Struct
area_row kind first second top left bottom right =
    record (row kind first second) { top = top; left = left; bottom = bottom; right = right }

-- ---- numbers

abbrev pub flag_number : Bool → ℕ
flag_number false = 0
flag_number true = 1

-- 0 is the primary font
abbrev pub font_number : Font → ℕ
font_number font.Default = 0
font_number (font.Alternate n) = n

abbrev pub intensity_number : Intensity → ℕ
intensity_number intensity.Normal = 0
intensity_number intensity.Bold = 1
intensity_number intensity.Half = 2

abbrev pub underline_number : Underline → ℕ
underline_number underline.None = 0
underline_number underline.Single = 1
underline_number underline.Double = 2
underline_number underline.Curly = 3
underline_number underline.Dotted = 4
underline_number underline.Dashed = 5

abbrev pub blink_number : Blink → ℕ
blink_number blink.None = 0
blink_number blink.Slow = 1
blink_number blink.Rapid = 2

abbrev pub align_number : VerticalAlign → ℕ
align_number align.BaseLine = 0
align_number align.SuperScript = 1
align_number align.SubScript = 2

abbrev pub button_number : MouseButton → ℕ
button_number button.None = 0
button_number button.Button1Press = 1
button_number button.Button2Press = 2
button_number button.Button3Press = 3
button_number button.Button4Press = 4
button_number button.Button5Press = 5
button_number button.Button6Press = 6
button_number button.Button7Press = 7
button_number button.Button1Release = 11
button_number button.Button2Release = 12
button_number button.Button3Release = 13
button_number button.Button4Release = 14
button_number button.Button5Release = 15
button_number button.Button6Release = 16
button_number button.Button7Release = 17
button_number button.Button1Drag = 21
button_number button.Button2Drag = 22
button_number button.Button3Drag = 23

-- a report of the mouse
abbrev pub report_row : ℕ → ℕ → ℕ → MouseButton → Modifiers → Struct
report_row kind x y button modifiers = record (row kind (pos x) (pos y)) { modifiers = modifier_bits modifiers; button = button_number button }

-- ---- tokens

-- a number is of kind 0, a byte of kind 1
abbrev pub param_of : CsiParam → Param
param_of (Integer n) = record { kind = 0; value = n }
param_of (P b) = record { kind = 1; value = pos b }

-- an extension of a terminal as the token that says it
abbrev pub attribute_param : DeviceAttribute → Param
attribute_param a = param_of (attribute_token a)

abbrev pub value_param : ℤ → Param
value_param z = record { kind = 0; value = z }

-- ---- what is in range

-- the primary font, or one of nine others
abbrev pub HasText : Font → Type 0
HasText font.Default = Unit {0}
HasText (font.Alternate n) = (0 < n) × (n < 10)

-- a byte is one
abbrev pub TokenInRange : CsiParam → Type 0
TokenInRange (Integer z) = Unit {0}
TokenInRange (P b) = b < 256

abbrev pub AttributeInRange : DeviceAttribute → Type 0
AttributeInRange (attribute.Code c) = Unit {0}
AttributeInRange (attribute.Unspecified t) = TokenInRange t

-- ---- what stands by its name

-- a private mode by its code, or by a number that no code has
abbrev pub IsNamedDec : DecPrivateMode → Type 0
IsNamedDec (dec.Code c) = Unit {0}
IsNamedDec (dec.Unspecified n) = (c : DecPrivateModeCode) → n ≡ dec_mode_number c → ⊥

-- a mode so
abbrev pub IsNamedTerminal : TerminalMode → Type 0
IsNamedTerminal (terminal.Code c) = Unit {0}
IsNamedTerminal (terminal.Unspecified n) = (c : TerminalModeCode) → n ≡ terminal_mode_number c → ⊥

-- an extension of a terminal so, or by a byte
abbrev pub IsNamedAttribute : DeviceAttribute → Type 0
IsNamedAttribute (attribute.Code c) = Unit {0}
IsNamedAttribute (attribute.Unspecified (Integer z)) = (c : DeviceAttributeCodes) → z ≡ pos (device_attribute_number c) → ⊥
IsNamedAttribute (attribute.Unspecified (P b)) = Unit {0}

-- an item of graphics by its name, or by a number that none with a name has
abbrev pub IsNamedItem : XtSmGraphicsItem → Type 0
IsNamedItem (item.Unspecified z) = IsUnnamedItem z
IsNamedItem other = Unit {0}
