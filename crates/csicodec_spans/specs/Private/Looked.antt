-- How many bytes are looked at for a control sequence where none stands.
use Rattle.std.specs.Prelude.{ℕ, ◌+◌}
use Rattle.csicodec_tokens.specs.declared.reader.ReadError.TheVariants.{NotCsi, BadByte, NumberTooLarge, Truncated, Memory}
use Rattle.csicodec_tokens.specs.declared.reader.ReadError.{ReadError}

-- those up to the fault, and the one there; where they end too early, all; where memory was refused, nothing is said
abbrev pub looks_met : ReadError → ℕ
looks_met (NotCsi place) = place + 1
looks_met (BadByte place) = place + 1
looks_met (NumberTooLarge place) = place + 1
looks_met (Truncated place) = place
looks_met Memory = 0
