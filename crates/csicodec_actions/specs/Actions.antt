-- What an action says, without where it lies in memory: contracts compare these.
use Rattle.csicodec_actions.specs.Common.{ℕ, ℤ, List, Bool, true, false, IsTrue, CsiParam, CharacterPath}
use Rattle.csicodec_base.specs.declared.sgr.Sgr as sgr_type
use Rattle.csicodec_actions.specs.declared as types
use Rattle.csicodec_actions.specs.Devices as device_type

-- one constructor for each variant of `CSI`, with lists in place of vectors
pub data Action : Type 0 where
  Sgr : sgr_type.Sgr → Action
  Cursor : types.cursor.Cursor.Cursor → Action
  Edit : types.edit.Edit.Edit → Action
  Mode : types.mode.Mode.Mode → Action
  Mouse : types.mouse.MouseReport.MouseReport → Action
  Device : device_type.Device → Action
  Window : types.window.Window.Window → Action
  Keyboard : types.keyboard.Keyboard.Keyboard → Action
  SelectCharacterPath : CharacterPath → ℤ → Action
  Unspecified : (params : List CsiParam) (parameters_truncated : Bool) (final : ℕ) → Action

-- whether the value of an action holds memory
abbrev pub takes_memory : Action → Bool
takes_memory (Device d) = true
takes_memory (Window w) = true
takes_memory (Unspecified params flag final) = true
takes_memory action = false

abbrev pub TakesMemory : Action → Type 0
TakesMemory action = IsTrue (takes_memory action)
