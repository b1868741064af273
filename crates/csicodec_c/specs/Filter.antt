-- What a step of a filter, and the calls for fewer bytes, answer a C program.
use Rattle.std.specs.Prelude.{ℕ, ◌≡◌, ◌⊎◌, ◌≤◌, List, drop, length}
use Rattle.csicodec_spans.specs.declared.table.Mode.{Mode}
use Rattle.csicodec_filter.specs.Filter.{Passes}
use Rattle.csicodec_c.specs.{declared.filter.Filtered.Filtered, Strip.IsRefused}
use Rattle.csicodec_structs.specs.{Room.Fills, Status.status_number, declared.status.Status.Status, declared.encode.Encoded.Encoded}
use Rattle.csicodec_structs.specs.{declared.structs.Param.Param, declared.structs.Struct.Struct, Encode.AllStand, Encode.IsPut}
use Rattle.csicodec_actions.specs.Actions.{Action}
use Rattle.csicodec_compact.specs.Compacts.{Encodes}

abbrev pub mode_number : Mode → ℕ
mode_number Mode.Text = 0
mode_number Mode.Osc = 1
mode_number Mode.Dcs = 2
mode_number Mode.Str = 3
mode_number Mode.BadCsi = 4
mode_number Mode.BadEsc = 5

abbrev pub refused : Status → Filtered
refused why = record { status = status_number why; mode = 0; used = 0; needed = 0 }

-- the text of the parts that are sure, which is put where it fits; the bytes behind them are held, in this mode
pub record IsStep (Writes : List ℕ → List ℕ → Type 0) (number limit : ℕ) (bytes old new : List ℕ)
    (answer : Filtered) : Type 0 where
  pub before : Mode
  pub after : Mode
  pub text : List ℕ
  pub began : number ≡ mode_number before
  pub within : answer.used ≤ length bytes
  pub passes : Passes Writes limit before bytes text (drop answer.used bytes) after
  pub tells : answer ≡ record { status = status_number Status.Done; mode = mode_number after; used = answer.used; needed = length text }
  pub fills : Fills old new text

-- why a state is none
abbrev pub IsBadState : ℕ → ℕ → Type 0
IsBadState number limit = (limit ≡ 0) ⊎ ((mode : Mode) → number ≡ mode_number mode → ⊥)

-- such a step, or a refusal
abbrev pub Steps : (List ℕ → List ℕ → Type 0) → ℕ → ℕ → List ℕ → List ℕ → List ℕ → Filtered → Type 0
Steps Writes number limit bytes old new answer =
    IsStep Writes number limit bytes old new answer ⊎ IsRefused refused (IsBadState number limit) old new answer

-- a text of these actions is put
pub record IsCompact (structs : List Struct) (params : List Param) (old new : List ℕ)
    (answer : Encoded) : Type 0 where
  pub actions : List Action
  pub stand : AllStand structs params actions
  pub text : List ℕ
  pub encodes : Encodes actions text
  pub put : IsPut old new text answer
