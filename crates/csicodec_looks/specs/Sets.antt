-- Graphic sets, as SCS designates them (DEC VT220 Programmer Reference, EK-VT220-RM, "Character sets"; DEC STD 070).
use Rattle.std.specs.Prelude.{ℕ, List, [], ◌∷◌, ◌-◌, ◌==◌, ◌&&◌, get_or, nat_le, if◌then◌else◌}
use Rattle.csicodec_looks.specs.{declared.sets.Set.Set, declared.sets.Set.TheVariants.Ascii, declared.sets.Set.TheVariants.British}
use Rattle.csicodec_looks.specs.{declared.sets.Set.TheVariants.Graphics}

-- what `_` to `~` are in the special graphic set (DEC VT100 User Guide, table 3-9; in Unicode as xterm has them)
abbrev pub graphics : List ℕ
graphics = 32 ∷ 9670 ∷ 9618 ∷ 9225 ∷ 9228 ∷ 9229 ∷ 9226 ∷ 176 ∷ 177 ∷ 9252 ∷ 9227 ∷ 9496 ∷ 9488 ∷ 9484 ∷ 9492 ∷ 9532 ∷
    9146 ∷ 9147 ∷ 9472 ∷ 9148 ∷ 9149 ∷ 9500 ∷ 9508 ∷ 9524 ∷ 9516 ∷ 9474 ∷ 8804 ∷ 8805 ∷ 960 ∷ 8800 ∷ 163 ∷ 183 ∷ []

-- what a character of ASCII is in a set
abbrev pub char_in : Set → ℕ → ℕ
char_in Ascii c = c
char_in Graphics c = if nat_le 95 c && nat_le c 126 then get_or graphics (c - 95) c else c
char_in British c = if c == 35 then 163 else c

-- the set that a final byte names: `0` is the special graphic set, `A` the British one, and any other is taken for ASCII
abbrev pub set_at : ℕ → Set
set_at last = if last == 48 then Graphics else if last == 65 then British else Ascii
