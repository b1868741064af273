-- The characters that may be shown.
use Rattle.std.specs.Prelude.{ℕ, ◌≡◌, ◌==◌, Bool, true, ◌&&◌, ◌||◌, nat_le, nat_lt}

-- a newline, a tab, or no control: none of C0, not DEL, none of C1
abbrev pub shown : ℕ → Bool
shown c = c == 10 || c == 9 || nat_le 32 c && (nat_lt c 127 || nat_le 160 c)

abbrev pub IsShown : ℕ → Type 0
IsShown c = shown c ≡ true
