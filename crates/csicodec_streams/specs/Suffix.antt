-- What an unknown action that parsing makes holds.
use Rattle.std.specs.Prelude.{◌≡◌, ℕ, Bool, true, false, List, [], ◌∷◌, ◌++◌}
use Rattle.csicodec_tokens.specs.{declared.param.CsiParam.CsiParam, declared.param.CsiParam.TheVariants.P}
use Rattle.csicodec_actions.specs.Actions.{Action, Mode, Unspecified}
use Rattle.csicodec_parser.specs.Segments.{Actions}
use Rattle.csicodec_actions.specs.declared.mode.Mode.TheVariants as mode

-- the list ends in it
abbrev pub IsSuffix : List CsiParam → List CsiParam → Type 0
IsSuffix list suffix = (front : List CsiParam) × (list ≡ front ++ suffix)

-- the list ends in it, or behind a private mode in what stands there after a `?`
abbrev pub HoldsEnd : Bool → List CsiParam → List CsiParam → Type 0
HoldsEnd false list params = IsSuffix list params
HoldsEnd true list params = (rest : List CsiParam) × (params ≡ P 63 ∷ rest) × IsSuffix list rest

-- private modes are set, reset, saved and restored by lists that begin with `?`
abbrev pub changes_private : Action → Bool
changes_private (Mode (mode.SetDecPrivateMode m)) = true
changes_private (Mode (mode.ResetDecPrivateMode m)) = true
changes_private (Mode (mode.SaveDecPrivateMode m)) = true
changes_private (Mode (mode.RestoreDecPrivateMode m)) = true
changes_private action = false

-- Each unknown action is the last, has this flag and this final, and holds an end of the list. What stands directly before decides whether a
-- `?` is put ahead.
abbrev pub EndsUnknown : Bool → List CsiParam → Bool → ℕ → List Action → Type 0
EndsUnknown behind list flag final [] = Unit {0}
EndsUnknown behind list flag final (Unspecified params own last ∷ more) =
    (more ≡ []) × (own ≡ flag) × (last ≡ final) × HoldsEnd behind list params
EndsUnknown behind list flag final (action ∷ more) =
    EndsUnknown (changes_private action) list flag final more

abbrev pub SuffixLaw : List CsiParam → Bool → ℕ → Type 0
SuffixLaw list flag final = (actions : List Action) → Actions list flag final actions
    → EndsUnknown false list flag final actions
