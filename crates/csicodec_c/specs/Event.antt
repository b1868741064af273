-- What the calls for the events of a stream answer a C program, of output and of what a terminal sends.
use Rattle.std.specs.Prelude.{ℕ, ◌≡◌, ◌⊎◌, ◌++◌, false, List, [], length}
use Rattle.csicodec_tokens.specs.declared.param.CsiParam.{CsiParam}
use Rattle.csicodec_spans.specs.declared.table.Mode.{Mode}
use Rattle.csicodec_actions.specs.Actions.{Action}
use Rattle.csicodec_parser.specs.Segments.{Actions}
use Rattle.csicodec_events.specs.{declared.event.Events.Events, declared.input.Dialect.Dialect, declared.input.InputEvent.InputEvent, Events.IsMet}
use Rattle.csicodec_events.specs.{Input.Awaits, Input.IsSent, Input.IsSentBy, Input.paused, declared.event.Event.Event}
use Rattle.csicodec_structs.specs.{declared.structs.Param.Param, declared.structs.Struct.Struct, Next.Lays, Status.status_number, declared.status.Status.Status}
use Rattle.csicodec_c.specs.{declared.input.Evented.Evented, declared.input.Received.Received, Filter.mode_number}

-- the numbers of `enum csicodec_dialect`
abbrev pub dialect_number : Dialect → ℕ
dialect_number Dialect.Output = 0
dialect_number Dialect.Input = 1
dialect_number Dialect.Utf8Input = 2

-- the numbers of `enum csicodec_event_kind`: those of output, and behind them those of input
abbrev pub event_number : InputEvent → ℕ
event_number (InputEvent.Output Event.Text) = 1
event_number (InputEvent.Output (Event.Csi final)) = 2
event_number (InputEvent.Output Event.Esc) = 3
event_number (InputEvent.Output Event.Str) = 4
event_number (InputEvent.Output Event.Other) = 5
event_number (InputEvent.Output (Event.Control b)) = 6
event_number (InputEvent.Ss3 b) = 7
event_number (InputEvent.Linux b) = 8
event_number (InputEvent.Rxvt n) = 9
event_number InputEvent.Mouse = 10
event_number (InputEvent.Alt c) = 11
event_number InputEvent.Escape = 12
event_number (InputEvent.Modified n m control) = 13
event_number InputEvent.FocusGained = 14

-- the control within a control sequence, the character of a key, or its number; with modifiers the last character
abbrev pub value_of : InputEvent → ℕ
value_of (InputEvent.Output (Event.Control b)) = b
value_of (InputEvent.Ss3 b) = b
value_of (InputEvent.Linux b) = b
value_of (InputEvent.Rxvt n) = n
value_of (InputEvent.Alt c) = c
value_of (InputEvent.Modified n m control) = control
value_of _ = 0

abbrev pub stream : ℕ → Mode → ℕ → Events
stream limit mode looked = record { limit = limit; mode = mode; looked = looked }

abbrev pub refused : Status → Received
refused why = record { status = status_number why; kind = 0; mode = 0; value = 0; looked = 0; used = 0; actions = 0; params = 0 }

-- an answer without actions
abbrev pub answered : Status → ℕ → ℕ → Events → ℕ → Received
answered why kind value after used =
    record { status = status_number why; kind = kind; mode = mode_number after.mode; value = value; looked = after.looked; used = used; actions = 0; params = 0 }

-- the actions of a list, and their tokens, as many as there is room for, and how many they are
abbrev pub HasPut : List CsiParam → ℕ → List Struct → List Struct → List Param → List Param → ℕ → ℕ → Type 0
HasPut list final actions_old actions_new params_old params_new actions params =
    (all : List Action) × Actions list false final all × Lays actions_old actions_new params_old params_new (record { actions = actions; params = params }) all

-- of a control sequence its actions, as many as there is room for; of any other event none
abbrev pub Puts : InputEvent → List CsiParam → List Struct → List Struct → List Param → List Param → ℕ → ℕ → Type 0
Puts (InputEvent.Output (Event.Csi final)) list actions_old actions_new params_old params_new actions params =
    HasPut list final actions_old actions_new params_old params_new actions params
Puts _ list actions_old actions_new params_old params_new actions params =
    (actions ≡ 0) × (params ≡ 0) × (actions_new ≡ actions_old) × (params_new ≡ params_old)

-- the event at the front in this dialect, and how the stream goes on behind it
pub record IsDone (dialect number limit looked : ℕ) (bytes : List ℕ) (actions_old actions_new : List Struct) (params_old params_new : List Param) (answer : Received) : Type 0 where
  pub who : Dialect
  pub before : Mode
  pub after : Events
  pub sent : InputEvent
  pub list : List CsiParam
  pub text : List ℕ
  pub rest : List ℕ
  pub wrote : dialect ≡ dialect_number who
  pub began : number ≡ mode_number before
  pub sends : IsSent who (stream limit before looked) bytes sent text rest list after
  pub parts : bytes ≡ text ++ rest
  pub tells : answer ≡ record (answered Status.Done (event_number sent) (value_of sent) after (length text)) { actions = answer.actions; params = answer.params }
  pub puts : Puts sent list actions_old actions_new params_old params_new answer.actions answer.params

-- or nothing is told before more bytes come
pub record IsWaiting (dialect number limit looked : ℕ) (bytes : List ℕ) (actions_old actions_new : List Struct) (params_old params_new : List Param) (answer : Received) : Type 0 where
  pub who : Dialect
  pub before : Mode
  pub after : Events
  pub wrote : dialect ≡ dialect_number who
  pub began : number ≡ mode_number before
  pub awaits : Awaits who (stream limit before looked) bytes after
  pub tells : answer ≡ answered Status.Truncated 0 0 after 0
  pub actions : actions_new ≡ actions_old
  pub params : params_new ≡ params_old

-- the dialect or the state is none: an unknown number, a limit of 0, or more looked at than stands there
abbrev pub IsBadState : ℕ → ℕ → ℕ → ℕ → List ℕ → Type 0
IsBadState dialect number limit looked bytes =
    ((who : Dialect) → dialect ≡ dialect_number who → ⊥) ⊎ ((limit ≡ 0) ⊎ (((mode : Mode) → number ≡ mode_number mode → ⊥)
    ⊎ ((mode : Mode) → IsMet (stream limit mode looked) bytes → ⊥)))

-- or it is refused
abbrev pub IsRefused : ℕ → ℕ → ℕ → ℕ → List ℕ → Received → Type 0
IsRefused dialect number limit looked bytes answer =
    (answer ≡ refused Status.Memory) ⊎ ((answer ≡ refused Status.BadState) × IsBadState dialect number limit looked bytes)

-- one of these
abbrev pub Answers : ℕ → ℕ → ℕ → ℕ → List ℕ → List Struct → List Struct → List Param → List Param → Received → Type 0
Answers dialect number limit looked bytes actions_old actions_new params_old params_new answer =
    IsDone dialect number limit looked bytes actions_old actions_new params_old params_new answer
    ⊎ (IsWaiting dialect number limit looked bytes actions_old actions_new params_old params_new answer ⊎ IsRefused dialect number limit looked bytes answer)

-- ---- output

-- an answer without its value
abbrev pub without_value : Received → Evented
without_value r =
    record { status = r.status; kind = r.kind; mode = r.mode; looked = r.looked; used = r.used; actions = r.actions; params = r.params }

-- what is answered of output, without its value, which is the control there
abbrev pub AnswersOutput : ℕ → ℕ → ℕ → List ℕ → List Struct → List Struct → List Param → List Param → Evented → Type 0
AnswersOutput number limit looked bytes actions_old actions_new params_old params_new answer =
    (whole : Received) × (answer ≡ without_value whole)
    × Answers (dialect_number Dialect.Output) number limit looked bytes actions_old actions_new params_old params_new whole

-- ---- where no more bytes come

-- the event that waiting bytes are where no more came in time
pub record IsPaused (bytes : List ℕ) (answer : Received) : Type 0 where
  pub before : Events
  pub after : Events
  pub sent : InputEvent
  pub text : List ℕ
  pub rest : List ℕ
  pub sends : IsSentBy (paused bytes) before bytes sent text rest [] after
  pub tells : answer ≡ answered Status.Done (event_number sent) (value_of sent) after (length text)

-- or they are none, and go on waiting
pub record IsStill (bytes : List ℕ) (answer : Received) : Type 0 where
  pub none : (before after : Events) (sent : InputEvent) (text rest : List ℕ) → IsSentBy (paused bytes) before bytes sent text rest [] after → ⊥
  pub tells : answer ≡ refused Status.Truncated
