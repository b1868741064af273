-- What a stream becomes, chunk by chunk, from a reader to a writer.
use Rattle.std.specs.Prelude.{ℕ, ◌≡◌, ◌⊎◌, List, ◌++◌}

-- from one state to another, by these bytes, with this text
abbrev pub PassesOf : Type 0 → Type 1
PassesOf S = S → List ℕ → List ℕ → S → Type 0

-- in this state, this text at the end
abbrev pub EndsOf : Type 0 → Type 1
EndsOf S = S → List ℕ → Type 0

-- a chunk more, and its text, behind all that passed before, be it bytes or parts
abbrev pub GoesOn : {S X : Type 0} → (S → List X → List ℕ → S → Type 0) → S → List X → List ℕ → S
    → Type 0
GoesOn {S} {X} Passes old chunk more new = (first : S) (before : List X) (text : List ℕ)
    → Passes first before text old → Passes first (before ++ chunk) (text ++ more) new

-- for these bytes or parts this was appended, and what passed goes on so
abbrev pub Adds : {S X : Type 0} → (S → List X → List ℕ → S → Type 0) → S → List X → List ℕ
    → List ℕ → S → Type 0
Adds Passes old chunk before after new =
    (more : List ℕ) × GoesOn Passes old chunk more new × (after ≡ before ++ more)

-- so for bytes in front of a rest
abbrev pub AddsFront : {S : Type 0} → PassesOf S → S → List ℕ → List ℕ → List ℕ → List ℕ → S
    → Type 0
AddsFront Passes old bytes rest before after new =
    (front : List ℕ) × (bytes ≡ front ++ rest) × Adds Passes old front before after new

-- so far these bytes have this text
abbrev pub Sends : {S : Type 0} → PassesOf S → S → List ℕ → List ℕ → Type 0
Sends {S} Passes first bytes text = (last : S) × Passes first bytes text last

-- they are all, and this is the text with its end
abbrev pub Transforms : {S : Type 0} → PassesOf S → EndsOf S → S → List ℕ → List ℕ → Type 0
Transforms {S} Passes Ends first bytes text =
    (last : S) × (sure : List ℕ) × (rest : List ℕ) × Passes first bytes sure last × Ends last rest
    × (text ≡ sure ++ rest)

-- what went out is a front of the text of these bytes: as far as it is sure, or, where they are all, with its end
abbrev pub Begins : (List ℕ → List ℕ → Type 0) → (List ℕ → List ℕ → Type 0) → Type 0 → List ℕ
    → List ℕ → Type 0
Begins Sure Whole AreAll bytes sent = (unsent : List ℕ)
    × (Sure bytes (sent ++ unsent) ⊎ (AreAll × Whole bytes (sent ++ unsent)))
