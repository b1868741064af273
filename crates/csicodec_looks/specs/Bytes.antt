-- Classes of bytes: text that is told without reading its characters.
use Rattle.std.specs.{Prelude.ℕ, Prelude.◌≡◌, Prelude.◌==◌, Prelude.Bool, Prelude.true, Prelude.◌&&◌, Prelude.◌||◌, Prelude.if◌then◌else◌, Prelude.nat_le}
use Rattle.std.specs.{Prelude.nat_lt, Prelude.List, Prelude.drop, Int.w64, Int.trailing_zeros, List.prefix_len}

-- what is behind the bytes of a class in front
abbrev pub behind : (ℕ → Bool) → List ℕ → List ℕ
behind class bytes = drop (prefix_len class bytes) bytes

-- the place of the lowest bit that is set, and 16 where none is
abbrev pub first_set : ℕ → ℕ
first_set mask = if mask == 0 then 16 else trailing_zeros w64 mask

-- a newline, a tab or a character of ASCII that is no control
abbrev pub plain_byte : ℕ → Bool
plain_byte b = b == 10 || b == 9 || nat_le 32 b && nat_lt b 127

abbrev pub IsPlainByte : ℕ → Type 0
IsPlainByte b = plain_byte b ≡ true
