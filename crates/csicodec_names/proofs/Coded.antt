-- Each variant is found by its number.
use Rattle.std.proofs.{Common.◌≡◌, Common.ℕ, Common.◌≤◌, Common.List, Common.[], Common.◌∷◌, Common.Option, Common.None, Common.Some, Common.refl, Common.sym}
use Rattle.std.proofs.{Common.ap, Common.◌∙◌, Common.arith, Common.pos, lemmas.Bool.eqb-true, lemmas.Int.to_z-of_z}
use Rattle.std.specs.Prelude.{ℤ, negsuc, ◌↔◌, true}
use mir.{Syntax.w64, Val.SFits, Val.of_z, Val.to_z}
use Rattle.csicodec_names.specs.EnumNumbers.{cursor_style_number, cursor_styles, erase_in_display_number, erases_in_display, erase_in_line_number, erases_in_line, tabulation_clear_number, tabulation_clears, tabulation_control_number, tabulation_controls}
use Rattle.csicodec_names.specs.{DeviceNumbers.device_attribute_codes, DeviceNumbers.device_attribute_number, ModeNumbers.dec_mode_number}
use Rattle.csicodec_names.specs.{ModeNumbers.dec_codes, ModeNumbers.terminal_mode_number, ModeNumbers.terminal_codes, Numbered.is_number, Numbered.with_number}
use Rattle.csicodec_names.specs.{declared.device.DeviceAttributeCodes.DeviceAttributeCodes, declared.enums.CursorStyle.CursorStyle}
use Rattle.csicodec_names.specs.{declared.enums.CursorTabulationControl.CursorTabulationControl, declared.enums.EraseInDisplay.EraseInDisplay}
use Rattle.csicodec_names.specs.{declared.enums.EraseInLine.EraseInLine, declared.enums.TabulationClear.TabulationClear}
use Rattle.csicodec_names.specs.{declared.modes.DecPrivateModeCode.DecPrivateModeCode, declared.modes.TerminalModeCode.TerminalModeCode}

pub is_number-pos : (k : ℕ) (z : ℤ) → is_number k z ≡ true → z ≡ pos k
is_number-pos k (pos n) e = ap pos (eqb-true n k e)
is_number-pos k (negsuc n) e = cc

-- what is found has the number
pub listed-number : {E : Type 0} (number : E → ℕ) (xs : List E) (z : ℤ) (x : E) → with_number number xs z ≡ Some x → z ≡ pos (number x)
listed-number number [] z c e = cc
listed-number number (x ∷ xs) z c e = grind (arith, listed-number number xs z c, is_number-pos)

-- a number that none has finds nothing
pub none-found : {E : Type 0} (number : E → ℕ) (all : List E) (z : ℤ) → ((x : E) → z ≡ pos (number x) → ⊥) → with_number number all z ≡ None
none-found number all z none = go (with_number number all z) refl
  where
    go : (o : Option _) → with_number number all z ≡ o → with_number number all z ≡ None
    go None e = e
    go (Some x) e = absurd (none x (listed-number number all z x e))

-- the list is complete: each is found by its number
pub record Coded {E : Type 0} (number : E → ℕ) (all : List E) : Type 0 where
  pub each : (x : E) → with_number number all (pos (number x)) ≡ Some x

-- an answer that is each one exactly at its number is the one that has the number
pub found : {E : Type 0} (number : E → ℕ) (all : List E) → Coded number all → (z : ℤ) (o : Option E) → ((x : E) → (o ≡ Some x) ↔ (z ≡ pos (number x))) → o ≡ with_number number all z
found number all coded z (Some x) h = let here : z ≡ pos (number x) = (h x).0 refl in rw here (sym (coded.each x))
found number all coded z None h = sym (none-found number all z (λ x same. (let none = (h x).1 same in cc)))

-- the same for a number as it is passed
pub found-of : {E : Type 0} (number : E → ℕ) (all : List E) → Coded number all → (z : ℤ) → SFits w64 z → (o : Option E)
    → ((x : E) → (o ≡ Some x) ↔ (to_z w64 (of_z w64 z) ≡ pos (number x))) → o ≡ with_number number all z
found-of number all coded z fits o h = found number all coded _ o h ∙ ap (with_number number all) (to_z-of_z w64 z fits)

-- no number of the list is above the bound
abbrev pub AllBelow : {E : Type 0} → (E → ℕ) → ℕ → List E → Type 0
AllBelow number bound [] = Unit {0}
AllBelow number bound (x ∷ xs) = (number x ≤ bound) × AllBelow number bound xs

pub small : {E : Type 0} (number : E → ℕ) (all : List E) → Coded number all → (bound : ℕ) → AllBelow number bound all → (x : E) → number x ≤ bound
small number all is bound below x = among all (pos (number x)) x below (is.each x)
  where
    among : (xs : List _) (z : ℤ) (y : _) → AllBelow number bound xs → with_number number xs z ≡ Some y → number y ≤ bound
    among [] z y below e = cc
    among (w ∷ ws) z y below e = grind (arith, among ws z y)

pub styles : Coded cursor_style_number cursor_styles
styles = record { each = λ c. elim c as (λ x. with_number cursor_style_number cursor_styles (pos (cursor_style_number x)) ≡ Some x) [ CursorStyle.Default ↦ refl | _ ↦ refl ] }

pub controls : Coded tabulation_control_number tabulation_controls
controls = record {
  each = λ c. elim c as (λ x. with_number tabulation_control_number tabulation_controls (pos (tabulation_control_number x)) ≡ Some x) [ CursorTabulationControl.ClearAllLineTabStops ↦ refl | _ ↦ refl ];
}

pub clears : Coded tabulation_clear_number tabulation_clears
clears = record { each = λ c. elim c as (λ x. with_number tabulation_clear_number tabulation_clears (pos (tabulation_clear_number x)) ≡ Some x) [ TabulationClear.ClearAllTabStops ↦ refl | _ ↦ refl ] }

pub lines : Coded erase_in_line_number erases_in_line
lines = record { each = λ c. elim c as (λ x. with_number erase_in_line_number erases_in_line (pos (erase_in_line_number x)) ≡ Some x) [ EraseInLine.EraseLine ↦ refl | _ ↦ refl ] }

pub displays : Coded erase_in_display_number erases_in_display
displays = record { each = λ c. elim c as (λ x. with_number erase_in_display_number erases_in_display (pos (erase_in_display_number x)) ≡ Some x) [ EraseInDisplay.EraseDisplay ↦ refl | _ ↦ refl ] }

pub decs : Coded dec_mode_number dec_codes
decs = record { each = λ c. elim c as (λ x. with_number dec_mode_number dec_codes (pos (dec_mode_number x)) ≡ Some x) [ DecPrivateModeCode.AutoWrap ↦ refl | _ ↦ refl ] }

pub terminals : Coded terminal_mode_number terminal_codes
terminals = record { each = λ c. elim c as (λ x. with_number terminal_mode_number terminal_codes (pos (terminal_mode_number x)) ≡ Some x) [ TerminalModeCode.Insert ↦ refl | _ ↦ refl ] }

pub attributes : Coded device_attribute_number device_attribute_codes
attributes = record { each = λ c. elim c as (λ x. with_number device_attribute_number device_attribute_codes (pos (device_attribute_number x)) ≡ Some x) [ DeviceAttributeCodes.Printer ↦ refl | _ ↦ refl ] }
