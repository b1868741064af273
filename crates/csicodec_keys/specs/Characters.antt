-- Which characters keys type.
use Rattle.std.specs.Prelude.{ℕ, nat_le, nat_lt, not, ◌==◌, ◌&&◌, ◌||◌, Bool}
use lib.Utf8.{scalar}

-- it is typed as text: a character of Unicode, and no control of C0 or C1, nor DEL
abbrev pub is_typed : ℕ → Bool
is_typed c = scalar c && not (nat_lt c 32) && not (nat_le 127 c && nat_lt c 160)

-- Behind ESC it is a key with alt, whatever follows: ASCII, and what begins no sequence or string: O, P, X, [, ], ^ and _.
abbrev pub is_alt : ℕ → Bool
is_alt c =
    not (nat_lt c 32) && nat_lt c 127
    && not (c == 79 || c == 80 || c == 88 || c == 91 || (nat_le 93 c && nat_le c 95))
