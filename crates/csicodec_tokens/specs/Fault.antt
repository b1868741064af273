-- What stands in front of bytes: a control sequence, or the fault that keeps them from beginning with one.
use Rattle.std.specs.{Prelude.◌≡◌, Prelude.ℕ, Prelude.◌+◌, Prelude.◌≤◌, Prelude.◌<◌, Prelude.◌⊎◌, Prelude.List, Prelude.[], Prelude.◌∷◌, Prelude.◌++◌}
use Rattle.std.specs.{Prelude.length, Prelude.take, Prelude.slice_index, List.AllByRecursion}
use Rattle.csicodec_tokens.specs.declared.reader.ReadError.TheVariants.{NotCsi, BadByte, NumberTooLarge, Truncated, Memory}
use Rattle.csicodec_tokens.specs.{declared.param.CsiParam.CsiParam, declared.reader.ReadError.ReadError, Digits.AreDigits, Digits.value, Digits.largest}
use Rattle.csicodec_tokens.specs.{Sequence.IsBodyByte, Sequence.Reads}

-- intermediate and parameter bytes in any order, in which no run of digits has a value above the largest
pub record IsBody (text : List ℕ) : Type 0 where
  pub bytes : AllByRecursion IsBodyByte text
  pub runs : (before run after : List ℕ) → text ≡ before ++ (run ++ after) → AreDigits run
      → value run ≤ largest

-- the beginning of some sequence, without its final byte
abbrev pub Begins : List ℕ → Type 0
Begins bytes =
    (bytes ≡ []) ⊎ (bytes ≡ 27 ∷ []) ⊎ ((body : List ℕ) × (bytes ≡ 27 ∷ 91 ∷ body) × IsBody body)

-- no front is a sequence
abbrev pub NoSeq : List ℕ → Type 0
NoSeq bytes = (list : List CsiParam) (final : ℕ) (rest : List ℕ) → Reads bytes list final rest → ⊥

-- the least place at which the front up to there, with it, begins no sequence
pub record IsLeast (bytes : List ℕ) (place : ℕ) : Type 0 where
  pub within : place < length bytes
  pub before : (k : ℕ) → k ≤ place → Begins (take k bytes)
  pub there : Begins (take (place + 1) bytes) → ⊥

-- a byte that stands nowhere behind ESC and '[': 00/00 to 01/15, or 07/15 and above
abbrev pub IsBad : ℕ → Type 0
IsBad b = (b < 32) ⊎ (126 < b)

-- the fault of bytes: they end too early, or else by the least place and the byte there
abbrev pub Fault : List ℕ → ReadError → Type 0
Fault bytes (NotCsi place) = IsLeast bytes place × (place < 2)
Fault bytes (BadByte place) = IsLeast bytes place × (2 ≤ place) × IsBad (slice_index bytes place)
Fault bytes (NumberTooLarge place) =
    IsLeast bytes place × (2 ≤ place) × ¬ IsBad (slice_index bytes place)
Fault bytes (Truncated place) = Begins bytes × (place ≡ length bytes)
Fault bytes Memory = ⊥

-- the fault of bytes that begin with no sequence
abbrev pub FaultOf : List ℕ → ReadError → Type 0
FaultOf bytes e = NoSeq bytes × Fault bytes e

-- the fault is met at this place
abbrev pub IsMetAt : ReadError → ℕ → Type 0
IsMetAt (NotCsi place) n = n ≡ place
IsMetAt (BadByte place) n = n ≡ place
IsMetAt (NumberTooLarge place) n = n ≡ place
IsMetAt _ n = ⊥

-- why these bytes may be refused so, where there is room for a number of tokens already
abbrev pub Refuses : List ℕ → ℕ → ReadError → Type 0
Refuses bytes room Memory = (list : List CsiParam) × (final : ℕ) × (rest : List ℕ)
    × Reads bytes list final rest × (room < length list)
Refuses bytes room e = FaultOf bytes e
