-- A log: its lines, each cleaned by itself, with a newline between two.
use Rattle.std.specs.Prelude.{ℕ, ◌≡◌, ◌==◌, Bool, false, ◌&&◌, ◌||◌, if◌then◌else◌, List, [], ◌∷◌, ◌++◌}

-- LF and CR end a line
abbrev pub ends_line : ℕ → Bool
ends_line b = b == 10 || b == 13

-- but the LF of CR LF, which stands directly behind an end by CR, ends no other
abbrev pub joins : Bool → ℕ → Bool
joins returned b = returned && b == 10

-- the line that goes on with these bytes, and the lines behind it, by whether a CR has just ended one
abbrev pub lines_from : Bool → List ℕ → List ℕ → List (List ℕ)
lines_from returned line [] = line ∷ []
lines_from returned line (b ∷ bytes) =
    if joins returned b then lines_from false line bytes
    else if ends_line b then line ∷ lines_from (b == 13) [] bytes
    else lines_from false (line ++ b ∷ []) bytes

-- the lines of some bytes, without what ends them: behind the last end stands one too, which may be empty
abbrev pub lines_of : List ℕ → List (List ℕ)
lines_of bytes = lines_from false [] bytes

-- each line has the text at its place
abbrev pub AreOf : (List ℕ → List ℕ → Type 0) → List (List ℕ) → List (List ℕ) → Type 0
AreOf Out [] texts = texts ≡ []
AreOf Out (line ∷ lines) texts = (text : List ℕ) × (others : List (List ℕ))
    × (texts ≡ text ∷ others) × Out line text × AreOf Out lines others

-- texts with a newline between two
abbrev pub joined : List (List ℕ) → List ℕ
joined [] = []
joined (text ∷ []) = text
joined (text ∷ next ∷ texts) = text ++ 10 ∷ joined (next ∷ texts)

-- the text of a log: those of its lines, each made by itself, with a newline between two
pub record ByLines (Out : List ℕ → List ℕ → Type 0) (bytes text : List ℕ) : Type 0 where
  pub texts : List (List ℕ)
  pub each : AreOf Out (lines_of bytes) texts
  pub all : text ≡ joined texts
