-- What `compact` writes in the place of a control sequence.
use Rattle.std.specs.{Prelude.ℕ, Prelude.◌≡◌, Prelude.◌≤◌, Prelude.true, Prelude.false, Prelude.List, Prelude.length, List.AllByRecursion}
use Rattle.csicodec_tokens.specs.{declared.param.CsiParam.CsiParam, Sequence.Seq}
use Rattle.csicodec_actions.specs.{Actions.Action, Table.texts}
use Rattle.csicodec_streams.specs.{Decoding.Decodes, Faithful.stays, Exact.ReadsAlone}

-- what the bytes are read as the text is read as too: exactly these actions, in order
abbrev pub ReadsAlike : List ℕ → List ℕ → Type 0
ReadsAlike bytes text = (actions : List Action) → Decodes bytes false actions
    → Decodes text false actions

-- a sequence that stays is written as it came
abbrev pub KeepsStaying : List ℕ → List ℕ → Type 0
KeepsStaying bytes text = (list : List CsiParam) (final : ℕ) → Seq bytes list final
    → stays list final ≡ true → text ≡ bytes

-- the text is read as the bytes are, is no longer, and is the bytes where they stay
pub record Compacts (bytes text : List ℕ) : Type 0 where
  pub alike : ReadsAlike bytes text
  pub short : length text ≤ length bytes
  pub kept : KeepsStaying bytes text

-- The text is no longer than the texts of the actions joined, and is read as these actions where each of them is read back from its own text.
pub record Encodes (actions : List Action) (text : List ℕ) : Type 0 where
  pub back : AllByRecursion (λ (a : Action). ReadsAlone a false) actions
      → Decodes text false actions
  pub short : length text ≤ length (texts actions)
