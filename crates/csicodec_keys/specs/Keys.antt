-- A key as it is said: which one, what is held down, what happens to it, and what it types.
use Rattle.std.specs.Prelude.{ℕ, nat_le, nat_lt, ◌&&◌, Bool, true, false, List, length}
use Rattle.csicodec_keys.specs.{declared.code.KeyCode.KeyCode, declared.key.Key.Key, declared.key.KeyEvent.KeyEvent}
use Rattle.csicodec_keys.specs.{declared.modifiers.KeyModifiers.KeyModifiers}
use lib.Utf8.{scalar, scalars}

abbrev pub modifier_bits : KeyModifiers → ℕ
modifier_bits modifiers = modifiers.bits

abbrev pub is_press : KeyEvent → Bool
is_press KeyEvent.Press = true
is_press _ = false

abbrev pub is_release : KeyEvent → Bool
is_release KeyEvent.Release = true
is_release _ = false

pub record Stroke : Type 0 where
  pub code : KeyCode
  pub held : ℕ
  pub event : KeyEvent
  pub text : List ℕ

abbrev pub stroke_of : Key → Stroke
stroke_of key =
    record { code = key.code; held = key.modifiers.bits; event = key.event; text = key.text.items }

-- its numbers are in their ranges: those of a value of Rust are
abbrev pub is_code : KeyCode → Bool
is_code (KeyCode.Char c) = scalar c
is_code (KeyCode.F n) = nat_lt n 256
is_code _ = true

abbrev pub is_stroke : Stroke → Bool
is_stroke s = is_code s.code && nat_lt s.held 256 && scalars s.text && nat_le (length s.text) 32
