-- The bytes of a form in a stream: csicodec_events tells them as the event and the list that the key is read of.
use Rattle.std.specs.Prelude.{ℕ, ◌≡◌, ◌≤◌, List, [], ◌++◌, length}
use Rattle.csicodec_tokens.specs.declared.param.CsiParam.{CsiParam}
use Rattle.csicodec_events.specs.{declared.event.Events.Events, declared.input.InputEvent.InputEvent, Input.Awaits, Input.IsSent, Input.IsSentBy, Input.paused}
use Rattle.csicodec_events.specs.{declared.event.Event.Event, declared.input.Dialect.Dialect}
use Rattle.csicodec_keys.specs.{declared.writing.KeySpelling.KeySpelling, Forms.event_of, Forms.list_of}
use Rattle.csicodec_spans.specs.declared.table.Mode.{Mode}

-- a stream in which nothing is open
abbrev pub fresh : ℕ → Events
fresh limit = record { limit = limit; mode = Mode.Text; looked = 0 }

-- they are this event with this list, whatever follows
abbrev pub IsFront : List ℕ → InputEvent → List CsiParam → Type 0
IsFront bytes e list = (limit : ℕ) (more : List ℕ) → length bytes ≤ limit
    → IsSent Dialect.Input (fresh limit) (bytes ++ more) e bytes more list (fresh limit)

-- .. where no more comes for now
abbrev pub IsPaused : List ℕ → InputEvent → Type 0
IsPaused bytes e = (limit : ℕ)
    → IsSentBy (paused bytes) (fresh limit) bytes e bytes [] [] (fresh limit)

-- whatever follows them, what is told is text that begins with them, and it is told at once
pub record IsTextFront (bytes : List ℕ) : Type 0 where
  pub told : (limit : ℕ) (more text rest : List ℕ) (e : InputEvent) (list : List CsiParam)
      (after : Events) → IsSent Dialect.Input (fresh limit) (bytes ++ more) e text rest list after
      → (e ≡ InputEvent.Output Event.Text) × ((others : List ℕ) × (text ≡ bytes ++ others))
  pub at_once : (limit : ℕ) (more : List ℕ) (after : Events)
      → Awaits Dialect.Input (fresh limit) (bytes ++ more) after → ⊥

-- A character is read of the text that begins with it, and ESC alone is a key where no more comes.
abbrev pub IsToldAs : KeySpelling → List ℕ → List ℕ → Type 0
IsToldAs (KeySpelling.Text c) text bytes = IsTextFront bytes
IsToldAs KeySpelling.Escape text bytes = IsPaused bytes InputEvent.Escape
IsToldAs f text bytes = IsFront bytes (event_of f) (list_of f text)
