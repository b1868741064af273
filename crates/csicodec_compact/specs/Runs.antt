-- What `compact` makes of a stream: control sequences side by side may go into one.
use Rattle.std.specs.{Prelude.ℕ, Prelude.◌≡◌, Prelude.◌≢◌, Prelude.◌≤◌, Prelude.◌⊎◌, Prelude.List, Prelude.[], Prelude.◌∷◌, Prelude.◌++◌, Prelude.true}
use Rattle.std.specs.{Prelude.false, Prelude.length, List.AllByRecursion, List.flat_map}
use Rattle.csicodec_tokens.specs.{declared.param.CsiParam.CsiParam, Sequence.Seq}
use Rattle.csicodec_actions.specs.Actions.{Action}
use Rattle.csicodec_streams.specs.{Decoding.Decodes, Faithful.stays}
use Rattle.csicodec_spans.specs.{declared.table.Mode.Mode, Parts.Part, Parts.bytes_of, declared.table.Kind.Kind}
use Rattle.csicodec_filter.specs.Filter.{MakesBy, PassesBy}

-- a control sequence that stays as it came
abbrev pub IsStaying : List ℕ → Type 0
IsStaying bytes = (list : List CsiParam) × (final : ℕ) × Seq bytes list final
    × (stays list final ≡ true)

abbrev pub NoneStays : List Part → Type 0
NoneStays run = AllByRecursion (λ (p : Part). ¬ IsStaying p.bytes) run

-- the most bytes of one sequence in the place of several
abbrev pub most_joined : ℕ
most_joined = 4096

-- Control sequences side by side, and a text in their place: it is read as exactly their actions, in order, and is no longer. One that stays
-- stands alone, as it came.
pub record Shortens (run : List Part) (text : List ℕ) : Type 0 where
  pub all : AllByRecursion (λ (p : Part). p.kind ≡ Kind.Csi) run
  pub actions : List Action
  pub came : Decodes (flat_map bytes_of run) false actions
  pub written : Decodes text false actions
  pub short : length text ≤ length (flat_map bytes_of run)
  pub within : (length text ≤ most_joined) ⊎ ((p : Part) × (run ≡ p ∷ []))
  pub kept : NoneStays run ⊎ ((p : Part) × (run ≡ p ∷ []) × (text ≡ p.bytes))

-- such a run, or one part that is no control sequence, as it came
abbrev pub IsRun : List Part → List ℕ → Type 0
IsRun run text = Shortens run text
    ⊎ ((p : Part) × (run ≡ p ∷ []) × (p.kind ≢ Kind.Csi) × (text ≡ p.bytes))

-- the parts are these runs in turn, and the text is theirs
abbrev pub AreRuns : List (List Part) → List Part → List ℕ → Type 0
AreRuns [] parts text = (parts ≡ []) × (text ≡ [])
AreRuns (run ∷ runs) parts text =
    (behind : List Part) × (first : List ℕ) × (others : List ℕ) × (parts ≡ run ++ behind)
    × (text ≡ first ++ others) × IsRun run first × AreRuns runs behind others

abbrev pub IsShortened : List Part → List ℕ → Type 0
IsShortened parts text = (runs : List (List Part)) × AreRuns runs parts text

-- between two pushes: what is open, and the bytes of which nothing is sure yet
pub record Open : Type 0 where
  pub limit : ℕ
  pub mode : Mode
  pub bytes : List ℕ

-- behind these bytes, the parts that are sure make this text, and the others are held
abbrev pub PassesShort : ℕ → Mode → List ℕ → List ℕ → List ℕ → Mode → Type 0
PassesShort = PassesBy IsShortened

-- a whole stream makes this text
abbrev pub CompactsAll : ℕ → Mode → List ℕ → List ℕ → Type 0
CompactsAll = MakesBy IsShortened
