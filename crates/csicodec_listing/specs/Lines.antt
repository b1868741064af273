-- The lines of a text, and the bytes that they stand for.
use Rattle.std.specs.Prelude.{ℕ, ◌≡◌, ◌≢◌, ◌⊎◌, ◌≤◌, ◌+◌, ◌-◌, ◌^◌, ◌==◌, min, not, true, List, [], ◌∷◌, ◌++◌, length, nat_lt, Some, Result, Ok, Err, if◌then◌else◌}
use Rattle.std.specs.{List.list_all, Str.is_utf8}
use Rattle.hex.specs.Hex.{IsBytes}
use Rattle.serde_json.specs.{Data.Data, Read.read}
use Rattle.csicodec_listing.specs.{declared.object.Fault.Fault, declared.object.Refusal.Refusal, Object.HasMany, Object.Shows, Object.of_line}

-- the most bytes of a line: 16 MiB
abbrev pub most : ℕ
most = 16777216

-- a line that nothing follows; an empty one is none
abbrev pub last_line : List ℕ → List (List ℕ)
last_line [] = []
last_line (b ∷ line) = (b ∷ line) ∷ []

-- the lines of bytes that go on with a line, without the LF that ends each
abbrev pub lines_from : List ℕ → List ℕ → List (List ℕ)
lines_from line [] = last_line line
lines_from line (b ∷ bytes) = if b == 10 then line ∷ lines_from [] bytes else lines_from (line ++ b ∷ []) bytes

-- the bytes that a line stands for, if it isn't too long
abbrev pub of_bounded : List ℕ → Result (List ℕ) Fault
of_bounded line = if nat_lt most (length line) then Err Fault.TooLong else of_line line

-- bytes, and what follows
abbrev pub before : Result (List ℕ) Fault → Result (List ℕ) Fault → Result (List ℕ) Fault
before (Ok bytes) (Ok others) = Ok (bytes ++ others)
before (Ok bytes) (Err f) = Err f
before (Err f) others = Err f

-- the bytes that lines stand for, one after the other, or what is wrong with the first that stands for none
abbrev pub of_lines : List (List ℕ) → Result (List ℕ) Fault
of_lines [] = Ok []
of_lines (line ∷ lines) = before (of_bounded line) (of_lines lines)

-- the bytes that a text stands for
abbrev pub assembled : List ℕ → Result (List ℕ) Fault
assembled text = of_lines (lines_from [] text)

-- the most bytes of a line for which bytes are found: 8 MiB
abbrev pub most_found : ℕ
most_found = 8388608

-- A line gives the bytes that it stands for. One that isn't too long, and is refused for its actions, gives any that are found.
abbrev pub Gives : List ℕ → List ℕ → Type 0
Gives line bytes = (of_line line ≡ Ok bytes)
    ⊎ ((length line ≤ most_found) × (of_line line ≡ Err Fault.NoSequence) × IsBytes bytes)

-- lines give this, one after the other
abbrev pub GiveAll : List (List ℕ) → List ℕ → Type 0
GiveAll [] text = text ≡ []
GiveAll (line ∷ lines) text = (bytes : List ℕ) × (others : List ℕ) × (text ≡ bytes ++ others)
    × (length line ≤ most) × Gives line bytes × GiveAll lines others

-- and those of a text
abbrev pub Assembles : List ℕ → List ℕ → Type 0
Assembles text bytes = GiveAll (lines_from [] text) bytes

-- none of the lines is refused for its actions
abbrev pub AreKept : List (List ℕ) → Type 0
AreKept [] = Unit {0}
AreKept (line ∷ lines) = (of_line line ≢ Err Fault.NoSequence) × AreKept lines

-- Where a line had begun, and bytes came: the lines that are over, what they give, and the line that has begun then.
-- Whatever comes behind the bytes goes on with that line.
pub record Passes (first bytes : List ℕ) (over : List (List ℕ)) (text last : List ℕ) : Type 0 where
  pub lines : (more : List ℕ) → lines_from first (bytes ++ more) ≡ over ++ lines_from last more
  pub all : GiveAll over text

-- the first of some lines is refused, or memory ran out
abbrev pub IsFirst : Refusal → List (List ℕ) → Type 0
IsFirst (Refusal.Line f) lines = (line : List ℕ) × (others : List (List ℕ)) × (lines ≡ line ∷ others)
    × ((of_bounded line ≡ Err f) ⊎ HasMany f line)
IsFirst Refusal.Memory lines = Unit {0}

-- so is the line with which bytes go on, whatever comes behind them
abbrev pub IsRefused : Refusal → List ℕ → List ℕ → Type 0
IsRefused e line bytes = (more : List ℕ) → IsFirst e (lines_from line (bytes ++ more))

-- one more in 64 bits, which stays at the largest number
abbrev pub one_more : ℕ → ℕ
one_more n = min (n + 1) (2 ^ 64 - 1)

-- how many lines are over with these, where so many were ahead of them
abbrev pub counted : ℕ → List (List ℕ) → ℕ
counted over [] = over
counted over (line ∷ lines) = counted (one_more over) lines

-- The line of this number in a text is refused, and those ahead of it give these bytes.
pub record Refuses (number : ℕ) (f : Fault) (text bytes : List ℕ) : Type 0 where
  pub ahead : List (List ℕ)
  pub line : List ℕ
  pub behind : List (List ℕ)
  pub split : lines_from [] text ≡ ahead ++ line ∷ behind
  pub stand : GiveAll ahead bytes
  pub counted : number ≡ one_more (length ahead)
  pub refused : (of_bounded line ≡ Err f) ⊎ HasMany f line

-- A line that shows some bytes as `explain --json` does, without its end.
pub record IsLineOf (line bytes : List ℕ) : Type 0 where
  pub within : list_all (λ b. not (b == 10)) line ≡ true
  pub short : length line ≤ most
  pub utf8 : is_utf8 line ≡ true
  pub value : Data
  pub is_read : read line ≡ Some value
  pub shows : Shows value bytes
  pub fit : IsBytes bytes

-- lines that show pieces, one each
abbrev pub AreShown : List (List ℕ) → List (List ℕ) → Type 0
AreShown [] pieces = pieces ≡ []
AreShown (line ∷ lines) pieces = (piece : List ℕ) × (others : List (List ℕ))
    × (pieces ≡ piece ∷ others) × IsLineOf line piece × AreShown lines others

-- lines, an LF behind each
abbrev pub ended : List (List ℕ) → List ℕ
ended [] = []
ended (line ∷ lines) = line ++ 10 ∷ ended lines
