-- What a filter makes of the parts of a stream.
use Rattle.std.specs.Prelude.{ℕ, ◌≡◌, List, [], ◌∷◌, ◌++◌}
use Rattle.csicodec_spans.specs.{Parts.Part, Parts.AreFirstParts, Parts.IsUnsure, Parts.IsWhole, declared.table.Kind.Kind, declared.table.Mode.Mode}

-- one text is written for each sequence
abbrev pub WritesOne : (List ℕ → List ℕ → Type 0) → Type 0
WritesOne Writes = (bytes one other : List ℕ) → Writes bytes one → Writes bytes other → one ≡ other

-- a control sequence becomes what is written for it, and all else stays as it is
abbrev pub IsWritten : (List ℕ → List ℕ → Type 0) → Kind → List ℕ → List ℕ → Type 0
IsWritten Writes Kind.Csi bytes text = Writes bytes text
IsWritten Writes _ bytes text = text ≡ bytes

-- the same of each part in turn
abbrev pub AreWritten : (List ℕ → List ℕ → Type 0) → List Part → List ℕ → Type 0
AreWritten Writes [] text = text ≡ []
AreWritten Writes (p ∷ parts) text =
    (first : List ℕ) × (others : List ℕ) × (text ≡ first ++ others)
    × IsWritten Writes p.kind p.bytes first × AreWritten Writes parts others

-- between two pushes: what is open, the bytes of which nothing is sure yet, and what rewrites
pub record Held (R : Type 0) : Type 0 where
  pub rewrite : R
  pub limit : ℕ
  pub mode : Mode
  pub bytes : List ℕ

-- behind these bytes, the parts that are sure make this text, and the others are held
pub record PassesBy (Made : List Part → List ℕ → Type 0) (limit : ℕ) (m : Mode) (bytes : List ℕ)
    (text : List ℕ) (held : List ℕ) (after : Mode) : Type 0 where
  pub parts : List Part
  pub first : AreFirstParts limit m bytes parts held after
  pub unsure : IsUnsure limit after held
  pub written : Made parts text

abbrev pub Passes : (List ℕ → List ℕ → Type 0) → ℕ → Mode → List ℕ → List ℕ → List ℕ → Mode → Type 0
Passes Writes = PassesBy (AreWritten Writes)

-- a whole stream of bytes makes this text
pub record MakesBy (Made : List Part → List ℕ → Type 0) (limit : ℕ) (m : Mode) (bytes : List ℕ)
    (text : List ℕ) : Type 0 where
  pub parts : List Part
  pub whole : IsWhole limit m bytes parts
  pub written : Made parts text

abbrev pub Filters : (List ℕ → List ℕ → Type 0) → ℕ → Mode → List ℕ → List ℕ → Type 0
Filters Writes = MakesBy (AreWritten Writes)

-- these bytes are a front of the text of the whole stream, where each sequence has one
abbrev pub IsFrontOf : (List ℕ → List ℕ → Type 0) → ℕ → Mode → List ℕ → List ℕ → Type 0
IsFrontOf Writes limit m bytes sent = WritesOne Writes → (whole : List ℕ)
    → Filters Writes limit m bytes whole → (unsent : List ℕ) × (whole ≡ sent ++ unsent)
