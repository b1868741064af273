-- What is found of a struct, what is laid of an action, and what is answered of a list that was read.
use Rattle.std.specs.Prelude.{ℕ, ℤ, ◌≡◌, ◌<◌, Bool, Option, Some, None, IfSome, MatchOption, pos, negsuc, if◌then◌else◌, List, map, ◌+◌, ◌++◌, false, [], ◌∷◌, length, unwrap_or}
use Rattle.std.specs.{List.All, Option.option_map}
use Rattle.csicodec_actions.specs.{Actions.Action, Devices.Device, Devices.listed_attributes, Kinds.IsOneBased, Table.texts, Table.boxed, Lent.integers}
use Rattle.csicodec_structs.specs.{declared.structs.Param.Param, declared.structs.Struct.Struct, Encode.AllStand, Rows.IsNamed, Rows.InRange, Rows.params_of}
use Rattle.csicodec_structs.specs.{Rows.struct_of, Structs.AttributeInRange, Next.Lays, Next.Reading, Next.refused, declared.lay.Counts.Counts}
use Rattle.csicodec_structs.specs.{declared.lay.Head.Head, declared.next.NextSequence.NextSequence, declared.normalise.Normalised.Normalised, Room.laid}
use Rattle.csicodec_structs.specs.{Status.status_number, declared.status.Status.Status}
use Rattle.csicodec_parser.specs.{ActionOf.action_of, declared.actions.CSI.CSI, declared.parser.ActionRef.ActionRef}
use Rattle.csicodec_tokens.specs.{declared.param.CsiParam.CsiParam, declared.param.CsiParam.TheVariants.P}
use Rattle.csicodec_actions.specs.Actions as action
use Rattle.csicodec_actions.specs.Devices as device

-- ---- what is found

-- what has this number, where anything that fits has
abbrev pub Reads : {A : Type 0} → (A → ℕ) → (ℤ → Type 0) → ℤ → A → Type 0
Reads number Fits z found = (Fits z → z ≡ pos (number found)) × Fits (pos (number found))

abbrev pub itself : ℕ → ℕ
itself n = n

-- a line or a column
abbrev pub IsPlace : ℤ → Type 0
IsPlace (pos n) = IsOneBased n
IsPlace (negsuc n) = ⊥

-- one of ten
abbrev pub IsTen : ℤ → Type 0
IsTen (pos n) = n < 10
IsTen (negsuc n) = ⊥

abbrev pub unless : Bool → ℤ → Option ℤ
unless absent z = if absent then None else Some z

-- what has this struct, where anything in range has
abbrev pub Finds : {A : Type 0} → (A → Struct) → (A → Type 0) → Struct → A → Type 0
Finds row InRange given found = (a : _) → InRange a → given ≡ row a → given ≡ row found

-- so, or nothing
abbrev pub FindsSome : {A : Type 0} → (A → Struct) → (A → Type 0) → Struct → Option A → Type 0
FindsSome row InRange given found = (a : _) → InRange a → given ≡ row a → MatchOption found ⊥ (λ b. given ≡ row b)

-- what has no tokens beside it
abbrev pub HasNoList : Device → Type 0
HasNoList (device.DeviceAttributes (device.Vt220 list)) = ⊥
HasNoList (device.DeviceAttributes (device.Vt320 list)) = ⊥
HasNoList (device.DeviceAttributes (device.Vt420 list)) = ⊥
HasNoList (device.XtSmGraphics item action_or_status value) = ⊥
HasNoList other = Unit {0}

-- what takes no memory
abbrev pub IsSmall : Action → Type 0
IsSmall (action.Device d) = ⊥
IsSmall (action.Window w) = ⊥
IsSmall (action.Unspecified params flag final) = ⊥
IsSmall a = InRange a

abbrev pub IsBare : Action → Type 0
IsBare (action.Device d) = HasNoList d
IsBare (action.Unspecified params flag final) = ⊥
IsBare a = InRange a

-- ---- tokens

-- what this token stands for, by its name, or nothing in range
abbrev pub FindsToken : {A : Type 0} → (A → Param) → (A → Type 0) → (A → Type 0) → Param → Option A → Type 0
FindsToken crosses InRange Named param found = MatchOption found ((a : _) → InRange a → crosses a ≡ param → ⊥) (λ a. InRange a × (crosses a ≡ param) × Named a)

abbrev pub FindsTokens : {A : Type 0} → (A → Param) → (A → Type 0) → (A → Type 0) → List Param → Option (List A) → Type 0
FindsTokens crosses InRange Named params found =
    MatchOption found ((all : List _) → All InRange all → map crosses all ≡ params → ⊥) (λ all. All InRange all × (map crosses all ≡ params) × All Named all)

-- what has this struct and these tokens, if anything in range has
abbrev pub Makes : (Action → Type 0) → Struct → List Param → Option Action → Type 0
Makes InRange given params found = (a : Action) → InRange a → given ≡ struct_of given.place a → params_of a ≡ params → MatchOption found ⊥ (λ b. given ≡ struct_of given.place b)

-- in range, by its name, and with these tokens
abbrev pub IsOwn : List Param → Action → Type 0
IsOwn params a = InRange a × (params_of a ≡ params) × IsNamed a

-- what is made of a struct and these tokens: an action in range, by its name, with the tokens, and with the struct if any that fits has both
abbrev pub IsMade : (Action → Type 0) → Struct → List Param → Option CSI → Type 0
IsMade Fits given params found = IfSome found (λ csi. IsOwn params (action_of csi))
    × Makes Fits given params (option_map action_of found)

abbrev pub IsUnknown : Action → Type 0
IsUnknown (action.Unspecified params flag final) = InRange (action.Unspecified params flag final)
IsUnknown other = ⊥

-- the terminal's extensions
abbrev pub IsExtended : Action → Type 0
IsExtended (action.Device (device.DeviceAttributes (device.Vt220 list))) = All AttributeInRange list
IsExtended (action.Device (device.DeviceAttributes (device.Vt320 list))) = All AttributeInRange list
IsExtended (action.Device (device.DeviceAttributes (device.Vt420 list))) = All AttributeInRange list
IsExtended other = ⊥

abbrev pub IsGraphics : Action → Type 0
IsGraphics (action.Device (device.XtSmGraphics item action_or_status value)) = Unit {0}
IsGraphics other = ⊥

-- ---- texts

-- how a normalisation ended
abbrev pub ended : Status → ℕ → ℕ → ℕ → Normalised
ended why start at needed =
    record { status = status_number why; start = start; at = at; needed = needed }

-- the texts of the actions that these structs stand for
pub record AreTexts (structs : List Struct) (params : List Param) (all : List ℕ) : Type 0 where
  pub actions : List Action
  pub stand : AllStand structs params actions
  pub joined : all ≡ texts actions

-- ---- what is laid

-- behind what is laid lies one action more, and so many there are then
abbrev pub LaysOne : Counts → List Struct → List Struct → List Param → List Param → Action → Counts
    → Type 0
LaysOne count actions_old actions_new params_old params_new a next =
    (old_actions : List Struct) (old_params : List Param) (before : List Action) →
    Lays old_actions actions_old old_params params_old count before
    → Lays old_actions actions_new old_params params_new next (before ++ a ∷ [])

-- these tokens stand behind those that were there up to the place, as many as there is room for, and end here
pub record PutsBehind (room_old room_new : List Param) (place : ℕ) (items : List Param)
    (end : ℕ) : Type 0 where
  pub ends : end ≡ place + length items
  pub puts : (old before : List Param) → room_old ≡ laid old before → place ≡ length before
      → room_new ≡ laid old (before ++ items)

-- the action that says this ahead of a list of extensions or values
abbrev pub headed : Head → List CsiParam → Action
headed Head.Vt220 list =
    action.Device (device.DeviceAttributes (device.Vt220 (listed_attributes list)))
headed Head.Vt320 list =
    action.Device (device.DeviceAttributes (device.Vt320 (listed_attributes list)))
headed Head.Vt420 list =
    action.Device (device.DeviceAttributes (device.Vt420 (listed_attributes list)))
headed (Head.Graphics item action_or_status) list =
    action.Device (device.XtSmGraphics item action_or_status (integers list))

-- the action that lends its tokens so, before this final character
abbrev pub lent : ActionRef → ℕ → Action
lent (ActionRef.Small csi) final = action_of csi
lent (ActionRef.Whole list) final =
    unwrap_or (boxed list.now final) (action.Unspecified list.now false final)
lent (ActionRef.Unknown list) final = action.Unspecified list.now false final
lent (ActionRef.UnknownMode list) final = action.Unspecified (P 63 ∷ list.now) false final

-- the actions of a list by a reading are put
abbrev pub LaysBy : Reading → List CsiParam → ℕ → List Struct → List Struct → List Param → List Param
    → Counts → Type 0
LaysBy reading list final actions_old actions_new params_old params_new count =
    (all : List Action) × reading list false final all
    × Lays actions_old actions_new params_old params_new count all

-- the answer of a sequence of so many bytes, actions and tokens
abbrev pub done : ℕ → ℕ → ℕ → NextSequence
done used actions params =
    record { status = status_number Status.Done; at = 0; used = used; actions = actions; params = params }

-- so, unless memory ran out
abbrev pub answered : ℕ → Option Counts → NextSequence
answered used (Some count) = done used count.actions count.params
answered used None = refused Status.Memory 0
