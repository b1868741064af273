-- The code of a mouse report: a button, and the modifiers that are held.
use Rattle.std.specs.Prelude.{◌+◌, negsuc, ◌/◌, ◌==◌, ◌∷◌, if◌then◌else◌}
use Rattle.csicodec_actions.specs.Common.{ℕ, ℤ, Bool, true, false, List, [], Option, None, pos, bit_and, option_map, with_number, modifier_bits, Modifiers, MouseButton}

abbrev pub button_code : MouseButton → ℕ
button_code MouseButton.Button1Press = 0
button_code MouseButton.Button2Press = 1
button_code MouseButton.Button3Press = 2
button_code MouseButton.Button4Press = 64
button_code MouseButton.Button5Press = 65
button_code MouseButton.Button6Press = 66
button_code MouseButton.Button7Press = 67
button_code MouseButton.Button1Release = 0
button_code MouseButton.Button2Release = 1
button_code MouseButton.Button3Release = 2
button_code MouseButton.Button4Release = 64
button_code MouseButton.Button5Release = 65
button_code MouseButton.Button6Release = 66
button_code MouseButton.Button7Release = 67
button_code MouseButton.Button1Drag = 32
button_code MouseButton.Button2Drag = 33
button_code MouseButton.Button3Drag = 34
button_code MouseButton.None = 35

-- the buttons of reports before M, and of those before m: each variant stands in one of the two lists, or in both
abbrev pub pressed : List MouseButton
pressed =
    MouseButton.Button1Press
    ∷ MouseButton.Button2Press
    ∷ MouseButton.Button3Press
    ∷ MouseButton.Button4Press
    ∷ MouseButton.Button5Press
    ∷ MouseButton.Button6Press
    ∷ MouseButton.Button7Press
    ∷ MouseButton.Button1Drag
    ∷ MouseButton.Button2Drag
    ∷ MouseButton.Button3Drag
    ∷ MouseButton.None
    ∷ []

abbrev pub released : List MouseButton
released =
    MouseButton.Button1Release
    ∷ MouseButton.Button2Release
    ∷ MouseButton.Button3Release
    ∷ MouseButton.Button4Release
    ∷ MouseButton.Button5Release
    ∷ MouseButton.Button6Release
    ∷ MouseButton.Button7Release
    ∷ MouseButton.None
    ∷ []

-- the bits of the button; 3 stands for no button, as 35 does
abbrev pub button_bits : ℕ → ℕ
button_bits n = if n == 3 then 35 else n

-- the bits 4, 8 and 16 are SHIFT, ALT and CTRL, which are 2, 4 and 8; other bits are ignored
abbrev pub reported : List MouseButton → ℤ → Option (MouseButton × Modifiers)
reported buttons (pos n) = option_map (λ b. (b, record { bits = bit_and n 28 / 2 })) (with_number button_code buttons (pos (button_bits (bit_and n 99))))
reported buttons (negsuc n) = None

-- the set has this bit
abbrev pub has : Modifiers → ℕ → Bool
has m bit = bit_and (modifier_bits m) bit == bit

-- 4 for SHIFT, 8 for ALT and 16 for CTRL, each where the set has it; other bits of a set are in no report
abbrev pub modifiers_code : Modifiers → ℕ
modifiers_code m =
    (if has m 2 then 4 else 0) + (if has m 4 then 8 else 0) + (if has m 8 then 16 else 0)

abbrev pub report_code : MouseButton × Modifiers → ℕ
report_code v = button_code v.0 + modifiers_code v.1

abbrev pub is_release : MouseButton → Bool
is_release MouseButton.Button1Release = true
is_release MouseButton.Button2Release = true
is_release MouseButton.Button3Release = true
is_release MouseButton.Button4Release = true
is_release MouseButton.Button5Release = true
is_release MouseButton.Button6Release = true
is_release MouseButton.Button7Release = true
is_release b = false

-- the bits of what is held: LEFT 1, RIGHT 2, MIDDLE 4; the wheels VERT_WHEEL 8 and HORZ_WHEEL 16, and WHEEL_POSITIVE 32. A release holds nothing
abbrev pub held_buttons : MouseButton → ℕ
held_buttons MouseButton.Button1Press = 1
held_buttons MouseButton.Button2Press = 4
held_buttons MouseButton.Button3Press = 2
held_buttons MouseButton.Button4Press = 40
held_buttons MouseButton.Button5Press = 8
held_buttons MouseButton.Button6Press = 48
held_buttons MouseButton.Button7Press = 16
held_buttons MouseButton.Button1Drag = 1
held_buttons MouseButton.Button2Drag = 4
held_buttons MouseButton.Button3Drag = 2
held_buttons b = 0
