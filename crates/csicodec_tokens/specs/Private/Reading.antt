-- What the private steps of the reader say of each other; no public contract cites this file.
use Rattle.std.specs.Prelude.{◌≡◌, ℕ, ◌+◌, ◌-◌, ◌*◌, ◌<◌, ◌≤◌, if◌then◌else◌, List, [], ◌∷◌, ◌++◌, length}
use Rattle.csicodec_tokens.specs.{declared.param.CsiParam.CsiParam, declared.param.CsiParam.TheVariants.Integer, declared.param.CsiParam.TheVariants.P}
use Rattle.csicodec_tokens.specs.{declared.reader.Part.Part, declared.reader.Part.TheVariants.Token, declared.reader.Part.TheVariants.Final}
use Rattle.csicodec_tokens.specs.{declared.reader.Part.TheVariants.Wrong, declared.reader.ReadError.TheVariants.BadByte}
use Rattle.csicodec_tokens.specs.{declared.reader.ReadError.TheVariants.NumberTooLarge, declared.reader.ReadError.TheVariants.Truncated, Digits.IsDigit}
use Rattle.csicodec_tokens.specs.{Digits.AreDigits, Digits.value, Digits.largest, Sequence.IsFinal, Sequence.SpellsToken, Sequence.Spells, Sequence.IsSpellable}
use Rattle.csicodec_tokens.specs.{Sequence.Spellable, Fault.FaultOf, Private.Walking.body_byte, declared.reader.ReadError.ReadError}

-- the first of the bytes is a digit
abbrev pub BeginsWithDigit : List ℕ → Type 0
BeginsWithDigit [] = ⊥
BeginsWithDigit (b ∷ bs) = IsDigit b

-- some digits in front, with one before them, write the number, and the others are behind them
pub record IsRun (first : ℕ) (text : List ℕ) (number : ℕ) (others : List ℕ) : Type 0 where
  pub run : List ℕ
  pub parts : text ≡ run ++ others
  pub digits : AreDigits run
  pub total : number ≡ value (first ∷ run)
  pub fits : number ≤ largest

-- some digits in front write a number that is read, but not with the next one
pub record IsTooLarge (first : ℕ) (text left : List ℕ) : Type 0 where
  pub number : ℕ
  pub run : IsRun first text number left
  pub digit : ℕ
  pub others : List ℕ
  pub begins : left ≡ digit ∷ others
  pub next : IsDigit digit
  pub large : largest < 10 * number + (digit - 48)

-- a number isn't followed by a digit
abbrev pub IsWhole : CsiParam → List ℕ → Type 0
IsWhole (Integer z) others = BeginsWithDigit others → ⊥
IsWhole (P b) others = Unit {0}

-- the first token that a text spells, and the bytes behind its spelling
pub record IsFirstToken (text : List ℕ) (token : CsiParam) (others : List ℕ) : Type 0 where
  pub front : List ℕ
  pub parts : text ≡ front ++ others
  pub spelled : SpellsToken front token
  pub spellable : IsSpellable token
  pub whole : IsWhole token others

-- the last of the tokens isn't followed by a digit, if it is a number
abbrev pub EndsWhole : List CsiParam → List ℕ → Type 0
EndsWhole [] rest = Unit {0}
EndsWhole (t ∷ []) rest = IsWhole t rest
EndsWhole (t ∷ u ∷ list) rest = EndsWhole (u ∷ list) rest

-- the list that the bytes between ESC and '[' and the rest spell
pub record HasRead (bytes : List ℕ) (list : List CsiParam) (rest : List ℕ) : Type 0 where
  pub body : List ℕ
  pub parts : bytes ≡ 27 ∷ 91 ∷ (body ++ rest)
  pub spelled : Spells body list
  pub spellable : Spellable list
  pub whole : EndsWhole list rest

-- why bytes begin with no sequence, by the place where the rest begins that they go wrong with
abbrev pub fault_at : ℕ → List ℕ → ReadError
fault_at at [] = Truncated at
fault_at at (b ∷ others) = if body_byte b then NumberTooLarge at else BadByte at

-- behind what was read, bytes that begin with this text go wrong from the rest on
pub record IsWrong (text left : List ℕ) : Type 0 where
  pub within : length left ≤ length text
  pub fault : (bytes : List ℕ) (list : List CsiParam) → HasRead bytes list text
      → FaultOf bytes (fault_at (length bytes - length left) left)

-- the part of a sequence that a text begins with
abbrev pub IsPart : List ℕ → Part → Type 0
IsPart text (Token token others) = IsFirstToken text token others.now
IsPart text (Final final others) = IsFinal final × (text ≡ final ∷ others.now)
IsPart text (Wrong left) = IsWrong text left.now
