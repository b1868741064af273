-- Control sequences (ECMA-48, 5.4): ESC and '[', a spelling of a list of tokens, and a final byte.
use Rattle.std.specs.Prelude.{◌≡◌, ℕ, ◌≤◌, ◌<◌, pos, ◌≤ℤ◌, List, [], ◌∷◌, ◌++◌, length}
use Rattle.csicodec_tokens.specs.{declared.param.CsiParam.CsiParam, declared.param.CsiParam.TheVariants.Integer, declared.param.CsiParam.TheVariants.P}
use Rattle.csicodec_tokens.specs.{Digits.IsDigit, Digits.AreDigits, Digits.value, Digits.largest}

-- an intermediate byte, 02/00 to 02/15, or a parameter byte, 03/00 to 03/15
abbrev pub IsBodyByte : ℕ → Type 0
IsBodyByte b = (32 ≤ b) × (b ≤ 63)

-- a final byte, 04/00 to 07/14
abbrev pub IsFinal : ℕ → Type 0
IsFinal b = (64 ≤ b) × (b ≤ 126)

-- a number is spelled by any run of digits of that value, and a byte by itself
abbrev pub SpellsToken : List ℕ → CsiParam → Type 0
SpellsToken text (Integer z) = (0 < length text) × AreDigits text × (z ≡ pos (value text))
SpellsToken text (P b) = text ≡ b ∷ []

-- the text is one spelling for each token, in turn
abbrev pub Spells : List ℕ → List CsiParam → Type 0
Spells text [] = text ≡ []
Spells text (t ∷ list) = (front : List ℕ) × (rest : List ℕ) × (text ≡ front ++ rest)
    × SpellsToken front t × Spells rest list

-- a number from 0 to the largest, or an intermediate or parameter byte that is no digit
abbrev pub IsSpellable : CsiParam → Type 0
IsSpellable (Integer z) = (pos 0 ≤ℤ z) × (z ≤ℤ pos largest)
IsSpellable (P b) = IsBodyByte b × ¬ IsDigit b

-- a number doesn't stand before a list that begins with a number
abbrev pub Apart : CsiParam → List CsiParam → Type 0
Apart (Integer m) (Integer n ∷ list) = ⊥
Apart _ _ = Unit {0}

-- every token is spellable, and no two numbers stand side by side
abbrev pub Spellable : List CsiParam → Type 0
Spellable [] = Unit {0}
Spellable (t ∷ list) = IsSpellable t × Apart t list × Spellable list

-- the bytes are one control sequence of this list and this final byte
pub record Seq (bytes : List ℕ) (list : List CsiParam) (final : ℕ) : Type 0 where
  pub spellable : Spellable list
  pub ends : IsFinal final
  pub body : List ℕ
  pub spelled : Spells body list
  pub whole : bytes ≡ 27 ∷ 91 ∷ (body ++ final ∷ [])

-- some front of the bytes is a sequence of this list and this final byte, and the rest is behind it
abbrev pub Reads : List ℕ → List CsiParam → ℕ → List ℕ → Type 0
Reads bytes list final rest = (front : List ℕ) × Seq front list final × (bytes ≡ front ++ rest)
