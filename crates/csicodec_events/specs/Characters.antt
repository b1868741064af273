-- The beginnings of characters in UTF-8 (Unicode, table 3-7, well-formed byte sequences).
use Rattle.std.specs.Prelude.{ℕ, ◌≡◌, ◌==◌, ◌&&◌, Bool, false, nat_le, List, [], ◌∷◌, ◌++◌, if◌then◌else◌}

abbrev pub is_from : ℕ → ℕ → ℕ → Bool
is_from low high b = nat_le low b && nat_le b high

-- the first bytes of characters of two bytes and more: c2 to f4
abbrev pub leads : ℕ → Bool
leads b = is_from 194 244 b

-- the second byte, behind this first one: behind e0 it is a0 to bf, behind ed 80 to 9f, behind f0 90 to bf, behind f4 80 to 8f,
-- and behind any other 80 to bf
abbrev pub follows : ℕ → ℕ → Bool
follows a b =
    if a == 224 then is_from 160 191 b else
    if a == 237 then is_from 128 159 b else
    if a == 240 then is_from 144 191 b else
    if a == 244 then is_from 128 143 b else
    is_from 128 191 b

-- the bytes are the beginning of a character, and not all of it: one byte of two to four, two of three or four (from e0 on), or
-- three of four (from f0 on)
abbrev pub is_unfinished : List ℕ → Bool
is_unfinished [] = false
is_unfinished (a ∷ []) = leads a
is_unfinished (a ∷ b ∷ []) = leads a && nat_le 224 a && follows a b
is_unfinished (a ∷ b ∷ c ∷ []) = leads a && nat_le 240 a && follows a b && is_from 128 191 c
is_unfinished (a ∷ b ∷ c ∷ d ∷ bytes) = false

-- no end of the text is the beginning of a character
abbrev pub EndsWhole : List ℕ → Type 0
EndsWhole text = (before last : List ℕ) → text ≡ before ++ last → is_unfinished last ≡ false
