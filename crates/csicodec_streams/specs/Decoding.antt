-- Bytes as sequences, one after the other, and all their actions.
use Rattle.std.specs.Prelude.{ℕ, ◌≡◌, ◌<◌, List, [], ◌∷◌, ◌++◌, Bool, false, length}
use Rattle.csicodec_tokens.specs.{declared.param.CsiParam.CsiParam, declared.reader.ReadError.ReadError, Sequence.Seq, Fault.FaultOf}
use Rattle.csicodec_actions.specs.{Actions.Action, Table.texts}
use Rattle.csicodec_parser.specs.Segments.{Actions}

-- the bytes are the sequences of these lists and finals, one after the other
abbrev pub Joins : List ℕ → List (List CsiParam × ℕ) → Type 0
Joins bytes [] = bytes ≡ []
Joins bytes (s ∷ ss) = (front : List ℕ) × (back : List ℕ) × (bytes ≡ front ++ back)
    × Seq front s.0 s.1 × Joins back ss

-- the actions of these lists and finals, each with the flag, in turn
abbrev pub AreActions : List (List CsiParam × ℕ) → Bool → List Action → Type 0
AreActions [] flag actions = actions ≡ []
AreActions (s ∷ ss) flag actions =
    (first : List Action) × (others : List Action) × (actions ≡ first ++ others)
    × Actions s.0 flag s.1 first × AreActions ss flag others

-- the bytes are a join of sequences, and these are all its actions
pub record Decodes (bytes : List ℕ) (flag : Bool) (actions : List Action) : Type 0 where
  pub sequences : List (List CsiParam × ℕ)
  pub join : Joins bytes sequences
  pub each : AreActions sequences flag actions

-- the text is the normal form of the bytes: the texts of their actions
abbrev pub NormalisesTo : List ℕ → List ℕ → Type 0
NormalisesTo bytes text = (actions : List Action) × Decodes bytes false actions
    × (text ≡ texts actions)

-- behind a join of sequences stands what begins with none, and this is its fault
pub record FaultAt (bytes : List ℕ) (start : ℕ) (error : ReadError) : Type 0 where
  pub front : List ℕ
  pub rest : List ℕ
  pub parts : bytes ≡ front ++ rest
  pub sequences : List (List CsiParam × ℕ)
  pub join : Joins front sequences
  pub place : start ≡ length front
  pub some : 0 < length rest
  pub fault : FaultOf rest error
