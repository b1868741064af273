-- The bits of sets, as a number.
use Rattle.std.specs.Prelude.{ℕ}
use Rattle.csicodec_names.specs.{declared.flags.KittyKeyboardFlags.KittyKeyboardFlags, declared.flags.Modifiers.Modifiers}
use Rattle.csicodec_names.specs.{declared.flags.MouseButtons.MouseButtons}

abbrev pub modifier_bits : Modifiers → ℕ
modifier_bits modifiers = modifiers.bits

abbrev pub button_bits : MouseButtons → ℕ
button_bits buttons = buttons.bits

abbrev pub kitty_bits : KittyKeyboardFlags → ℕ
kitty_bits flags = flags.bits
