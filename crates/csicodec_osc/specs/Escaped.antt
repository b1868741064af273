-- How bytes are shown in ASCII.
use Rattle.std.specs.Prelude.{ℕ, ◌+◌, ◌++◌, ◌/◌, ◌%◌, ◌&&◌, ◌==◌, nat_lt, if◌then◌else◌, List, [], ◌∷◌, codes}

-- a digit of base sixteen, from '0' to '9' and from 'a' to 'f'
abbrev pub hex_digit : ℕ → ℕ
hex_digit n = if nat_lt n 10 then n + 48 else n + 87

-- ESC, tab, line feed, carriage return and the backslash have a letter behind a backslash; any other byte from ' ' to '~'
-- stands for itself, and the rest are shown as their number in base sixteen
abbrev pub escaped : ℕ → List ℕ
escaped b =
    if b == 27 then codes "\\e"
    else if b == 9 then codes "\\t"
    else if b == 10 then codes "\\n"
    else if b == 13 then codes "\\r"
    else if b == 92 then codes "\\\\"
    else if nat_lt 31 b && nat_lt b 127 then b ∷ []
    else codes "\\x" ++ (hex_digit (b / 16) ∷ hex_digit (b % 16) ∷ [])
