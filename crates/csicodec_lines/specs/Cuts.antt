-- Where a stream may be cut, so that each piece is as good as a stream of its own, but for the graphic sets that the one before it leaves.
use Rattle.std.specs.Prelude.{ℕ, suc, ◌≡◌, ◌==◌, ◌+◌, Bool, true, false, ◌&&◌, ◌||◌, nat_le, nat_lt, if◌then◌else◌, List, [], ◌∷◌, ◌++◌, map, take}
use Rattle.std.specs.{Fmt.decimal, List.flat_map}
use Rattle.csicodec_spans.specs.{Parts.Part, Parts.part, Parts.AreFirstParts, Parts.IsWhole, declared.table.Kind.Kind, declared.table.Mode.Mode}
use Rattle.csicodec_clean.specs.{Check.counted, Cleaned.is_text, Cleaned.longest, Titles.title_open, Titles.with_titles}

-- So far from the start the stream may be cut: the bytes up to there are whole parts, of which the last is a byte of text, in no title,
-- and of ASCII, behind which no character goes on.
pub record IsPlace (bytes : List ℕ) (at : ℕ) : Type 0 where
  pub before : List Part
  pub byte : ℕ
  pub parts : AreFirstParts longest Mode.Text (take at bytes) (before ++ part Kind.Text (byte ∷ []) ∷ []) [] Mode.Text
  pub untitled : title_open false before ≡ false
  pub ascii : nat_lt byte 128 ≡ true

-- What was found: how many bytes at least stand between two places, the last place (0 at first), and how many bytes have come.
pub record Found : Type 0 where
  pub every : ℕ
  pub last : ℕ
  pub at : ℕ

abbrev pub first : ℕ → Found
first every = record { every = every; last = 0; at = 0 }

-- how many bytes a newline is waited for
abbrev pub patience : ℕ
patience = 65536

-- an ASCII character that is no control
abbrev pub is_shown : ℕ → Bool
is_shown b = nat_le 32 b && nat_lt b 127

-- bytes, each by whether it is text, and those of parts: what stands in a title isn't
abbrev pub each_of : Bool → List ℕ → List (Bool × ℕ)
each_of text bytes = map (λ b. (text, b)) bytes

abbrev pub each_byte : Bool → List Part → List (Bool × ℕ)
each_byte titled parts = flat_map (λ p. each_of (is_text p.kind) p.bytes) (with_titles titled parts)

-- The next place is behind this byte: it is text, far enough from the last one, and a newline. Or it is so far that none is waited for,
-- and such a character.
abbrev pub is_cut : Found → Bool × ℕ → Bool
is_cut s b = b.0 && (nat_le (s.last + s.every) (suc s.at)
    && (b.1 == 10 || nat_le (s.last + s.every + patience) (suc s.at) && is_shown b.1))

-- behind a byte, and behind more of them
abbrev pub behind_byte : Found → Bool × ℕ → Found
behind_byte s b = record { every = s.every; last = if is_cut s b then suc s.at else s.last; at = suc s.at }

abbrev pub behind : Found → List (Bool × ℕ) → Found
behind s [] = s
behind s (b ∷ bytes) = behind (behind_byte s b) bytes

-- the places in them
abbrev pub cuts : Found → List (Bool × ℕ) → List ℕ
cuts s [] = []
cuts s (b ∷ bytes) = (if is_cut s b then suc s.at ∷ [] else []) ++ cuts (behind_byte s b) bytes

-- the places of a stream, in the text that is in no title
pub record AreCuts (every : ℕ) (bytes places : List ℕ) : Type 0 where
  pub parts : List Part
  pub whole : IsWhole longest Mode.Text bytes parts
  pub all : places ≡ cuts (first every) (each_byte false parts)

-- what is told of them: a line for each, with its decimal digits
abbrev pub line_of : ℕ → List ℕ
line_of place = decimal place ++ 10 ∷ []

abbrev pub told : List ℕ → List ℕ
told places = flat_map (λ n. line_of (counted n)) places

abbrev pub Tells : ℕ → List ℕ → List ℕ → Type 0
Tells every bytes text = (places : List ℕ) × AreCuts every bytes places × (text ≡ told places)
