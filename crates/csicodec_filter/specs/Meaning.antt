-- What a filter writes, cut as a stream once more.
use Rattle.std.specs.{Prelude.ℕ, Prelude.◌≡◌, Prelude.◌≢◌, Prelude.◌≤◌, Prelude.◌⊎◌, Prelude.List, Prelude.[], Prelude.◌∷◌, Prelude.◌++◌, Prelude.false}
use Rattle.std.specs.{Prelude.length, List.AllByRecursion, List.flat_map}
use Rattle.csicodec_actions.specs.Actions.{Action}
use Rattle.csicodec_streams.specs.Decoding.{Decodes}
use Rattle.csicodec_spans.specs.{Parts.Part, Parts.bytes_of, declared.table.Kind.Kind}

abbrev pub AreCsi : List Part → Type 0
AreCsi parts = AllByRecursion (λ (p : Part). p.kind ≡ Kind.Csi) parts

-- control sequences side by side, and a text that is read as the same actions, in order
pub record Means (run : List Part) (text : List ℕ) : Type 0 where
  pub all : AreCsi run
  pub actions : List Action
  pub came : Decodes (flat_map bytes_of run) false actions
  pub written : Decodes text false actions

-- control sequences side by side, and others that are read as the same actions, in order
pub record MeanTheSame (run others : List Part) : Type 0 where
  pub means : Means run (flat_map bytes_of others)
  pub all : AreCsi others

-- such, or one part that is no control sequence, as it came
abbrev pub StandFor : List Part → List Part → Type 0
StandFor others run = MeanTheSame run others
    ⊎ ((p : Part) × (run ≡ p ∷ []) × (p.kind ≢ Kind.Csi) × (others ≡ p ∷ []))

-- the parts are these runs in turn, and the others stand for them in turn
abbrev pub StandInPlace : List (List Part) → List Part → List Part → Type 0
StandInPlace [] parts others = (parts ≡ []) × (others ≡ [])
StandInPlace (run ∷ runs) parts others =
    (behind : List Part) × (first : List Part) × (later : List Part) × (parts ≡ run ++ behind)
    × (others ≡ first ++ later) × StandFor first run × StandInPlace runs behind later

-- each part by itself
abbrev pub singles : List Part → List (List Part)
singles [] = []
singles (p ∷ parts) = (p ∷ []) ∷ singles parts

-- what is written for a control sequence is read as the same actions
abbrev pub KeepsMeaning : (List ℕ → List ℕ → Type 0) → Type 0
KeepsMeaning Writes = (bytes text : List ℕ) → Writes bytes text
    → (actions : List Action) × Decodes bytes false actions × Decodes text false actions

-- the same rule, where it writes no more than `limit` bytes for a sequence
abbrev pub Within : ℕ → (List ℕ → List ℕ → Type 0) → List ℕ → List ℕ → Type 0
Within limit Writes bytes text = Writes bytes text × (length text ≤ limit)
