-- What the calls that take actions answer a C program.
use Rattle.std.specs.{Prelude.ℕ, Prelude.◌≡◌, Prelude.◌⊎◌, Prelude.◌↔◌, Prelude.◌<◌, Prelude.false, Prelude.List, Prelude.[], Prelude.◌∷◌, Prelude.Some}
use Rattle.std.specs.{Prelude.drop, Prelude.take, Prelude.length, List.slice_get}
use Rattle.csicodec_actions.specs.{Actions.Action, Table.texts}
use Rattle.csicodec_parser.specs.Canonical.{Canonical}
use Rattle.csicodec_structs.specs.{declared.encode.Judged.Judged, declared.encode.Encoded.Encoded, declared.structs.Param.Param, declared.structs.Struct.Struct}
use Rattle.csicodec_structs.specs.{Rows.IsNamed, Rows.InRange, Rows.params_of, Rows.struct_of, Room.Fills, Status.status_number, declared.status.Status.Status}

abbrev pub refused : Status → ℕ → Encoded
refused why at = record { status = status_number why; at = at; needed = 0 }

-- the length of a text, which is put where it fits
pub record IsPut (old new text : List ℕ) (answer : Encoded) : Type 0 where
  pub ok : answer.status ≡ status_number Status.Done
  pub needed : answer.needed ≡ length text
  pub fills : Fills old new text

-- the action has this struct, and its tokens stand at the place of the struct
abbrev pub Has : Struct → List Param → Action → Type 0
Has given params a = InRange a × (struct_of given.place a ≡ given)
    × (params_of a ≡ take given.len (drop given.place params))

-- the struct stands for the one of these that is by its name
abbrev pub Stands : Struct → List Param → Action → Type 0
Stands given params a = Has given params a × IsNamed a

-- the struct stands for none: no action has it, by its name or not
abbrev pub StandsForNone : Struct → List Param → Type 0
StandsForNone given params = (a : Action) → Has given params a → ⊥

-- where any action has the struct and the tokens, they stand for one action, and for no other
abbrev pub OneAction : Struct → List Param → Type 0
OneAction given params = (a : Action) → Has given params a → (b : Action) × Stands given params b
    × ((c : Action) → Stands given params c → c ≡ b)

-- so in turn
abbrev pub AllStand : List Struct → List Param → List Action → Type 0
AllStand [] params [] = Unit {0}
AllStand [] params (a ∷ actions) = ⊥
AllStand (given ∷ structs) params [] = ⊥
AllStand (given ∷ structs) params (a ∷ actions) =
    Stands given params a × AllStand structs params actions

-- the texts of these actions are put
pub record IsDone (structs : List Struct) (params : List Param) (old new : List ℕ)
    (answer : Encoded) : Type 0 where
  pub actions : List Action
  pub stand : AllStand structs params actions
  pub put : IsPut old new (texts actions) answer

-- the struct at this place is the first that stands for no action
pub record HasNone (structs : List Struct) (params : List Param) (at : ℕ) : Type 0 where
  pub before : List Action
  pub stand : AllStand (take at structs) params before
  pub given : Struct
  pub next : slice_get structs at ≡ Some given
  pub none : StandsForNone given params

-- or a refusal, of memory or of a struct that stands for no action, and then nothing is put
pub record IsRefused (structs : List Struct) (params : List Param) (old new : List ℕ)
    (answer : Encoded) : Type 0 where
  pub status : (answer.status ≡ status_number Status.Memory)
      ⊎ ((answer.status ≡ status_number Status.NoAction) × HasNone structs params answer.at)
  pub same : new ≡ old

abbrev pub judgement : Status → ℕ → Judged
judgement why canonical = record { status = status_number why; canonical = canonical }

-- whether the action that the struct stands for is read back from its text
abbrev pub IsJudged : Struct → List Param → Judged → Type 0
IsJudged given params answer = (a : Action) × Stands given params a
    × (answer.status ≡ status_number Status.Done) × (answer.canonical ≡ 1 ↔ Canonical a false)
    × (answer.canonical < 2)

-- or why that isn't known: memory ran out, or the struct stands for no action
abbrev pub IsUnjudged : Struct → List Param → Judged → Type 0
IsUnjudged given params answer =
    (answer ≡ judgement Status.Memory 0)
    ⊎ ((answer ≡ judgement Status.NoAction 0) × StandsForNone given params)
