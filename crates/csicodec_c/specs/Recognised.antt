-- What the call for an unknown action answers a C program: which row of the table of further sequences reads its list.
use Rattle.std.specs.Prelude.{ℕ, ◌≡◌, ◌-◌, ◌++◌, false, List, [], Some, None, length, replicate}
use Rattle.csicodec_tokens.specs.declared.param.CsiParam.{CsiParam}
use Rattle.csicodec_actions.specs.Actions.{Unspecified}
use Rattle.csicodec_sequences.specs.{declared.row.SequenceForm.SequenceForm, Known.reading}
use Rattle.csicodec_structs.specs.{declared.structs.Param.Param, declared.structs.Struct.Struct, Encode.Stands}
use Rattle.csicodec_c.specs.declared.sequences.Recognised.{Recognised}

-- a kind and values, with zeros behind them up to 12
abbrev pub recognised : ℕ → List ℕ → Recognised
recognised kind values =
    record { kind = kind; count = length values; values = values ++ replicate (12 - length values) 0 }

-- the struct stands for an unknown action whose list a row reads: the row's kind, and the values
pub record IsKnown (given : Struct) (params : List Param) (answer : Recognised) : Type 0 where
  pub list : List CsiParam
  pub final : ℕ
  pub form : SequenceForm
  pub values : List ℕ
  pub stands : Stands given params (Unspecified list false final)
  pub reads : reading list final ≡ Some (form, values)
  pub tells : answer ≡ recognised form.kind values

-- or it stands for none whose list a row reads: zeros
abbrev pub IsUnknown : Struct → List Param → Recognised → Type 0
IsUnknown given params answer = (answer ≡ recognised 0 []) × ((list : List CsiParam) (final : ℕ)
    → Stands given params (Unspecified list false final) → reading list final ≡ None)
