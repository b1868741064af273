-- Whether all characters of a stream are of a class, as those of plain text are, and where the first stands that isn't.
use Rattle.std.specs.Prelude.{ℕ, ◌≡◌, ◌≢◌, ◌==◌, ◌<◌, ◌-◌, ◌^◌, suc, min, Bool, false, List, [], ◌∷◌, ◌++◌, length, count_by, Some}
use Rattle.bstr.specs.Utf8.{decoded}
use Rattle.csicodec_clean.specs.Shown.{IsTextOf}

-- no character of the class stands in front: none at all, another, or what is no UTF-8
abbrev pub IsOutside : (ℕ → Bool) → List ℕ → Type 0
IsOutside class bytes = (c : ℕ) → (decoded bytes).char ≡ Some c → class c ≡ false

-- The same stands in front, whatever follows: the same character, or none. It is no ESC alone, of which the next byte tells what it begins.
abbrev pub IsSure : List ℕ → Type 0
IsSure bytes = (bytes ≢ 27 ∷ []) × ((more : List ℕ) → decoded (bytes ++ more) ≡ decoded bytes)

-- how many lines end in the text
abbrev pub line_ends : List ℕ → ℕ
line_ends text = count_by (λ b. b == 10) text

-- what a count of 64 bits says of a number: it stops at the last
abbrev pub counted : ℕ → ℕ
counted n = min n (2 ^ 64 - 1)

-- The rest of the bytes stands at this place, counted from 0, and in this line, counted from 1, and each character in front of it is of the class.
pub record Stands (class : ℕ → Bool) (bytes rest : List ℕ) (at line : ℕ) : Type 0 where
  pub front : List ℕ
  pub whole : bytes ≡ front ++ rest
  pub text : IsTextOf class front
  pub place : at ≡ counted (length front)
  pub number : line ≡ counted (suc (line_ends front))

-- there stands the first that isn't
abbrev pub IsFault : (ℕ → Bool) → List ℕ → List ℕ → ℕ → ℕ → Type 0
IsFault class bytes rest at line = Stands class bytes rest at line × (0 < length rest) × IsOutside class rest
