-- Bytes as sequences, one after the other, and all their actions as terminals take them.
use Rattle.std.specs.Prelude.{ℕ, ◌≡◌, List, [], ◌∷◌, ◌++◌, false}
use Rattle.csicodec_tokens.specs.declared.param.CsiParam.{CsiParam}
use Rattle.csicodec_actions.specs.Actions.{Action}
use Rattle.csicodec_terminal.specs.Terminal.{Terminal}
use Rattle.csicodec_streams.specs.Decoding.{Joins}

-- the actions that terminals take these lists and finals for, in turn
abbrev pub AreTaken : List (List CsiParam × ℕ) → List Action → Type 0
AreTaken [] actions = actions ≡ []
AreTaken (s ∷ ss) actions =
    (first : List Action) × (others : List Action) × (actions ≡ first ++ others)
    × Terminal s.0 false s.1 first × AreTaken ss others

-- the bytes are a join of sequences, and terminals take them for these actions
pub record Takes (bytes : List ℕ) (actions : List Action) : Type 0 where
  pub sequences : List (List CsiParam × ℕ)
  pub join : Joins bytes sequences
  pub each : AreTaken sequences actions
