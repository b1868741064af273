-- What a run writes of inputs that all went well.
use Rattle.std.specs.{Prelude.ℕ, Prelude.◌≡◌, Prelude.◌⊎◌, Prelude.Bool, Prelude.true, Prelude.List, Prelude.[], Prelude.◌∷◌, Prelude.◌++◌, Prelude.Option}
use Rattle.std.specs.{Prelude.Some, Prelude.Ok, List.concat}
use Rattle.csicodec_lines.specs.Lines.{AreOf}
use Rattle.csicodec_command.specs.{Recorded.recorded, Runs.At, Runs.IsRun, Runs.MayBeRecording}
use Rattle.csicodec_inspect.specs.Sent.{IsAppended}
use Rattle.csicodec_tool.specs.{declared.rewrite.Job.Job, declared.rewrite.Work.Work, Writes.Heads, Writes.JobSteps, Writes.Tails, Writes.Writes}
use Rattle.csicodec_tool.specs.{Writes.begun_of, Writes.writes_data}

-- An input of a name with these bytes has these to write: the bytes themselves, or where it may be a recording, the data of that.
abbrev pub IsTaken : List ℕ → List ℕ → List ℕ → Type 0
IsTaken name bytes input = (input ≡ bytes) ⊎ (MayBeRecording name (Some bytes) × (input ≡ recorded bytes))

-- the inputs of these names have these to write
abbrev pub AreTaken : (List ℕ → Option (List ℕ)) → List (List ℕ) → List (List ℕ) → Type 0
AreTaken holds [] inputs = inputs ≡ []
AreTaken holds (name ∷ names) inputs = (bytes : List ℕ) × (input : List ℕ) × (others : List (List ℕ)) × (inputs ≡ input ∷ others)
    × (holds name ≡ Some bytes) × IsTaken name bytes input × AreTaken holds names others

-- The inputs of these names have known bytes. Where of a recording one is made, none of them may be a recording.
abbrev pub AreKnown : (List ℕ → Option (List ℕ)) → Bool → List (List ℕ) → Type 0
AreKnown holds unwraps [] = Unit {0}
AreKnown holds unwraps (name ∷ names) = (bytes : List ℕ) × (holds name ≡ Some bytes)
    × ((unwraps ≡ true) ⊎ (¬ MayBeRecording name (Some bytes))) × AreKnown holds unwraps names

-- what stands ahead of the first input, the texts of all, one behind the other, and what stands behind the last
pub record IsWhole (w : Work) (inputs : List (List ℕ)) (text : List ℕ) : Type 0 where
  pub head : List ℕ
  pub texts : List (List ℕ)
  pub tail : List ℕ
  pub heads : Heads w head
  pub each : AreOf (Writes w) inputs texts
  pub tails : Tails (begun_of w) tail
  pub all : text ≡ head ++ (concat texts ++ tail)

-- a run over some inputs that ended well wrote just that
abbrev pub WholeRuns : Type 0
WholeRuns = (holds : List ℕ → Option (List ℕ)) (name : List ℕ) (names : List (List ℕ)) (start end : At Job)
    → AreKnown holds (writes_data start.0) (name ∷ names) → IsRun JobSteps holds (name ∷ names) start (Ok tt) end
    → (inputs : List (List ℕ)) × AreTaken holds (name ∷ names) inputs × IsAppended (IsWhole start.0.work inputs) start.1 end.1
