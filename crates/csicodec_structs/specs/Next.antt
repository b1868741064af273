-- What the calls for the sequence at the front answer a C program.
use Rattle.std.specs.{Prelude.ℕ, Prelude.◌≡◌, Prelude.◌≢◌, Prelude.◌+◌, Prelude.Bool, Prelude.false, Prelude.List, Prelude.[], Prelude.◌∷◌, Prelude.length}
use Rattle.std.specs.{List.All, List.flat_map}
use Rattle.csicodec_tokens.specs.{declared.param.CsiParam.CsiParam, declared.reader.ReadError.ReadError, Fault.FaultOf, Sequence.Reads}
use Rattle.csicodec_actions.specs.Actions.{Action}
use Rattle.csicodec_parser.specs.Segments.{Actions}
use Rattle.csicodec_structs.specs.{declared.lay.Counts.Counts, declared.next.NextSequence.NextSequence, declared.structs.Param.Param}
use Rattle.csicodec_structs.specs.{declared.structs.Struct.Struct, Rows.IsNamed, Rows.InRange, Rows.params_of, Rows.struct_of, Room.laid, Status.fault_of}
use Rattle.csicodec_structs.specs.{Status.status_number, declared.status.Status.Status}

abbrev pub refused : Status → ℕ → NextSequence
refused why at = record { status = status_number why; at = at; used = 0; actions = 0; params = 0 }

-- the answer of each refusal
abbrev pub refusal : ReadError → NextSequence
refusal error = refused (fault_of error).0 (fault_of error).1

-- why bytes may be refused so: their own fault; out of memory only for a sequence
abbrev pub IsWhy : List ℕ → ReadError → Type 0
IsWhy bytes ReadError.Memory =
    (list : List CsiParam) × (final : ℕ) × (rest : List ℕ) × Reads bytes list final rest
IsWhy bytes error = FaultOf bytes error

-- the structs of actions in turn, whose tokens stand one behind the other from this place on
abbrev pub structs : ℕ → List Action → List Struct
structs place [] = []
structs place (a ∷ actions) = struct_of place a ∷ structs (place + length (params_of a)) actions

-- and these tokens
abbrev pub all_params : List Action → List Param
all_params actions = flat_map params_of actions

-- these actions and their tokens, as many as there is room for, and how many they are
pub record Lays (actions_old actions_new : List Struct) (params_old params_new : List Param)
    (count : Counts) (all : List Action) : Type 0 where
  pub actions : count.actions ≡ length all
  pub params : count.params ≡ length (all_params all)
  pub lays_actions : actions_new ≡ laid actions_old (structs 0 all)
  pub lays_params : params_new ≡ laid params_old (all_params all)

-- the actions of a list, by a reading of lists
abbrev pub Reading : Type 1
Reading = List CsiParam → Bool → ℕ → List Action → Type 0

-- by a reading the actions of the sequence at the front and their tokens, as many as there is room for, how many they are, and its length
pub record IsTaken (reading : Reading) (bytes : List ℕ) (actions_old actions_new : List Struct)
    (params_old params_new : List Param) (answer : NextSequence) : Type 0 where
  pub list : List CsiParam
  pub final : ℕ
  pub rest : List ℕ
  pub actions : List Action
  pub reads : Reads bytes list final rest
  pub are : reading list false final actions
  pub ok : answer.status ≡ status_number Status.Done
  pub no_fault : answer.at ≡ 0
  pub used : answer.used + length rest ≡ length bytes
  pub lays : Lays actions_old actions_new params_old params_new (record { actions = answer.actions; params = answer.params }) actions

-- so by the rules, by which each action is in range and by its name
pub record IsDone (bytes : List ℕ) (actions_old actions_new : List Struct)
    (params_old params_new : List Param) (answer : NextSequence) : Type 0 where
  pub taken : IsTaken Actions bytes actions_old actions_new params_old params_new answer
  pub in_range : All InRange taken.actions
  pub named : All IsNamed taken.actions

-- or the refusal of the bytes, and then nothing is put, unless memory is refused
pub record IsRefused (bytes : List ℕ) (actions_old actions_new : List Struct)
    (params_old params_new : List Param) (answer : NextSequence) : Type 0 where
  pub error : ReadError
  pub why : IsWhy bytes error
  pub tells : answer ≡ refusal error
  pub actions_stay : error ≢ ReadError.Memory → actions_new ≡ actions_old
  pub params_stay : error ≢ ReadError.Memory → params_new ≡ params_old
