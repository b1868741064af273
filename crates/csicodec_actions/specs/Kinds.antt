-- What a number in a list counts as: kinds of values, each with the numbers that it is read from, the one that it is written as, and the values that are read back.
use Rattle.std.specs.Prelude.{nat_lt, negsuc, ◌^◌, ◌≤ℤ◌, if◌then◌else◌, ◌≡◌, ◌<◌, ◌∷◌}
use Rattle.csicodec_names.specs.EnumNumbers.{cursor_style_number, erase_in_display_number, erase_in_line_number, tabulation_clear_number, tabulation_control_number, cursor_styles, tabulation_controls, tabulation_clears, erases_in_display, erases_in_line}
use Rattle.csicodec_names.specs.{declared.enums.CursorStyle.CursorStyle, declared.enums.CursorTabulationControl.CursorTabulationControl}
use Rattle.csicodec_names.specs.{declared.enums.EraseInDisplay.EraseInDisplay, declared.enums.EraseInLine.EraseInLine}
use Rattle.csicodec_names.specs.{declared.enums.TabulationClear.TabulationClear, ModeNumbers.dec_codes, ModeNumbers.terminal_codes, FlagBits.kitty_bits}
use Rattle.csicodec_tokens.specs.{OneBased.number_or, Digits.largest}
use Rattle.csicodec_actions.specs.Common.{ℕ, ℤ, Option, Some, None, pos, List, [], bit_and, option_map, dec_mode_number, terminal_mode_number, KittyKeyboardFlags, modifier_bits, Modifiers, with_number, Integer, most, DecPrivateMode, TerminalMode, XtermKeyModifierResource, CharacterPath, KittyKeyboardMode, XtSmGraphicsItem, MouseButton}
use Rattle.csicodec_actions.specs.{XtSmGraphics.item_number, XtSmGraphics.item_of, XtSmGraphics.IsUnnamedItem, Modes.dec_number, Modes.terminal_number}
use Rattle.csicodec_actions.specs.{Modes.resource_number, Modes.resources, Mouse.pressed, Mouse.released, Mouse.reported, Mouse.report_code, Mouse.button_code}
use Rattle.csicodec_actions.specs.declared.mode.DecPrivateMode.TheVariants as dec
use Rattle.csicodec_actions.specs.declared.mode.TerminalMode.TheVariants as terminal
use Rattle.csicodec_actions.specs.declared.path.CharacterPath.TheVariants as path
use Rattle.csicodec_actions.specs.declared.keyboard.KittyKeyboardMode.TheVariants as way
use Rattle.csicodec_actions.specs.declared.xtsmgraphics.XtSmGraphicsItem.TheVariants as item

-- ---- the numbers of the keyboard's ways, and of paths of characters

abbrev pub kitty_mode_number : KittyKeyboardMode → ℕ
kitty_mode_number way.AssignAll = 1
kitty_mode_number way.SetSpecified = 2
kitty_mode_number way.ClearSpecified = 3

-- all ways: the list must be complete, a place for each variant
abbrev pub kitty_modes : List KittyKeyboardMode
kitty_modes = way.AssignAll ∷ way.SetSpecified ∷ way.ClearSpecified ∷ []

abbrev pub path_number : CharacterPath → ℕ
path_number path.ImplementationDefault = 0
path_number path.LeftToRightOrTopToBottom = 1
path_number path.RightToLeftOrBottomToTop = 2

-- all paths: the list must be complete, a place for each variant
abbrev pub paths : List CharacterPath
paths =
    path.ImplementationDefault ∷ path.LeftToRightOrTopToBottom ∷ path.RightToLeftOrBottomToTop ∷ []

-- ---- the kinds

-- a count, and a last line or column, from 1 to 4294967295; any number; numbers of enumerations, of modes, of the resources of keys and of what graphics are about
pub data Kind : Type 0 where
  Count : Kind
  Last : Kind
  Any : Kind
  Style : Kind
  Control : Kind
  Clear : Kind
  InDisplay : Kind
  InLine : Kind
  Dec : Kind
  Terminal : Kind
  Resource : Kind
  Flags : Kind
  Way : Kind
  Path : Kind
  Pops : Kind
  Word : Kind
  Pressed : Kind
  Released : Kind
  GraphicsItem : Kind

abbrev pub Value : Kind → Type 0
Value Any = ℤ
Value Style = CursorStyle
Value Control = CursorTabulationControl
Value Clear = TabulationClear
Value InDisplay = EraseInDisplay
Value InLine = EraseInLine
Value Dec = DecPrivateMode
Value Terminal = TerminalMode
Value Resource = XtermKeyModifierResource
Value Flags = KittyKeyboardFlags
Value Way = KittyKeyboardMode
Value Path = CharacterPath
Value Pressed = MouseButton × Modifiers
Value Released = MouseButton × Modifiers
Value GraphicsItem = XtSmGraphicsItem
Value _ = ℕ

-- ---- reading

-- a number from 0 on that is below this bound is itself
abbrev pub below : ℕ → ℤ → Option ℕ
below bound (pos n) = if nat_lt n bound then Some n else None
below bound (negsuc n) = None

abbrev pub short : ℤ → Option ℕ
short z = below 65536 z

-- the code, if there is one, and else the number
abbrev pub code_or : {C M : Type 0} → (C → M) → (ℕ → M) → Option C → Option ℕ → Option M
code_or coded own (Some c) n = Some (coded c)
code_or coded own None (Some n) = Some (own n)
code_or coded own None None = None

-- what a number counts as; 0 as a count is 1, and as a last one 4294967295
unfoldable pub read : (k : Kind) → ℤ → Option (Value k)
read Count z = number_or 1 (Integer z)
read Last z = number_or most (Integer z)
read Any z = Some z
read Style z = with_number cursor_style_number cursor_styles z
read Control z = with_number tabulation_control_number tabulation_controls z
read Clear z = with_number tabulation_clear_number tabulation_clears z
read InDisplay z = with_number erase_in_display_number erases_in_display z
read InLine z = with_number erase_in_line_number erases_in_line z
read Dec z = code_or (λ c. dec.Code c) (λ n.
    dec.Unspecified n) (with_number dec_mode_number dec_codes z) (short z)
read Terminal z = code_or (λ c. terminal.Code c) (λ n.
    terminal.Unspecified n) (with_number terminal_mode_number terminal_codes z) (short z)
read Resource z = with_number resource_number resources z
read Flags z = option_map (λ n. record { bits = bit_and n 31 }) (short z)
read Way z = with_number kitty_mode_number kitty_modes z
read Path z = with_number path_number paths z
read Pops z = below (2 ^ 32) z
read Word z = short z
read Pressed z = reported pressed z
read Released z = reported released z
read GraphicsItem z = Some (item_of z)

-- ---- writing

abbrev pub number : (k : Kind) → Value k → ℤ
number Count n = pos n
number Last n = pos n
number Any z = z
number Style c = pos (cursor_style_number c)
number Control c = pos (tabulation_control_number c)
number Clear c = pos (tabulation_clear_number c)
number InDisplay c = pos (erase_in_display_number c)
number InLine c = pos (erase_in_line_number c)
number Dec m = pos (dec_number m)
number Terminal m = pos (terminal_number m)
number Resource r = pos (resource_number r)
number Flags flags = pos (kitty_bits flags)
number Way mode = pos (kitty_mode_number mode)
number Path path = pos (path_number path)
number Pops n = pos n
number Word n = pos n
number Pressed v = pos (report_code v)
number Released v = pos (report_code v)
number GraphicsItem item = item_number item

-- ---- values that are read back from their numbers

-- a number from 1 on, of 32 bits
pub record IsOneBased (n : ℕ) : Type 0 where
  pub above : 0 < n
  pub fits : n < 2 ^ 32

-- a number that a sequence can have
pub record IsSaid (z : ℤ) : Type 0 where
  pub above : pos 0 ≤ℤ z
  pub fits : z ≤ℤ pos largest

-- a number of 16 bits that no mode with a name has
pub record IsOwn {C : Type 0} (number : C → ℕ) (n : ℕ) : Type 0 where
  pub fits : n < 65536
  pub own : (c : C) → n ≡ number c → ⊥

abbrev pub GoodDec : DecPrivateMode → Type 0
GoodDec (dec.Code c) = Unit {0}
GoodDec (dec.Unspecified n) = IsOwn dec_mode_number n

abbrev pub GoodTerminal : TerminalMode → Type 0
GoodTerminal (terminal.Code c) = Unit {0}
GoodTerminal (terminal.Unspecified n) = IsOwn terminal_mode_number n

-- the modifiers are SHIFT, ALT and CTRL
abbrev pub AreHeld : Modifiers → Type 0
AreHeld m = bit_and (modifier_bits m) 14 ≡ modifier_bits m

-- a report of one of these buttons
pub record IsReport (buttons : List MouseButton) (v : MouseButton × Modifiers) : Type 0 where
  pub one : with_number button_code buttons (pos (button_code v.0)) ≡ Some v.0
  pub held : AreHeld v.1

-- an item with a name, or a number of a sequence that none has
abbrev pub GoodItem : XtSmGraphicsItem → Type 0
GoodItem (item.Unspecified z) = IsSaid z × IsUnnamedItem z
GoodItem i = Unit {0}

-- the number of the value counts as this value, as that of an enumeration always does
abbrev pub Good : (k : Kind) → Value k → Type 0
Good Count n = IsOneBased n
Good Last n = IsOneBased n
Good Any z = IsSaid z
Good Dec m = GoodDec m
Good Terminal m = GoodTerminal m
Good Flags f = kitty_bits f < 32
Good Pops n = n < 2 ^ 32
Good Word n = n < 65536
Good Pressed v = IsReport pressed v
Good Released v = IsReport released v
Good GraphicsItem i = GoodItem i
Good _ c = Unit {0}
