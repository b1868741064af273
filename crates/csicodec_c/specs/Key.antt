-- What the call that reads a key answers a C program.
use Rattle.std.specs.Prelude.{ℕ, ◌≡◌, ◌⊎◌, List, [], ◌∷◌, length, Option, None, Some, option_and_then}
use Rattle.bstr.specs.Utf8.{decoded}
use Rattle.csicodec_tokens.specs.declared.param.CsiParam.{CsiParam}
use Rattle.csicodec_events.specs.{declared.event.Events.Events, declared.input.InputEvent.InputEvent, Input.Awaits, Input.IsSent, Input.IsSentBy, Input.paused}
use Rattle.csicodec_events.specs.{declared.event.Event.Event, declared.input.Dialect.Dialect}
use Rattle.csicodec_keys.specs.{declared.key.Encoding.Encoding, declared.key.KeyEvent.KeyEvent, Forms.by, Forms.read_char, Forms.read_event, Keys.Stroke}
use Rattle.csicodec_keys.specs.{SameKeys.code_tag, SameKeys.code_value}
use Rattle.csicodec_structs.specs.{Room.Fills, Status.status_number, declared.status.Status.Status}
use Rattle.csicodec_c.specs.declared.key.FrontKey.{FrontKey}
use Rattle.csicodec_spans.specs.declared.table.Mode.{Mode}

-- the numbers of `enum csicodec_key_event`
abbrev pub happens : KeyEvent → ℕ
happens KeyEvent.Press = 0
happens KeyEvent.Repeat = 1
happens KeyEvent.Release = 2

-- the numbers of `enum csicodec_key_encoding`
abbrev pub encoding_number : Encoding → ℕ
encoding_number Encoding.Legacy = 0
encoding_number Encoding.ModifyOtherKeys = 1
encoding_number Encoding.Kitty = 2
encoding_number Encoding.Win32 = 3
encoding_number Encoding.Rxvt = 4
encoding_number Encoding.Linux = 5

-- the key of an event's bytes: of text that of its first character
abbrev pub key_of : InputEvent → List CsiParam → List ℕ → Option (Encoding × Stroke)
key_of (InputEvent.Output Event.Text) list bytes =
    by Encoding.Legacy (option_and_then read_char (decoded bytes).char)
key_of sent list bytes = read_event sent list

-- how many of its bytes are the key
abbrev pub used_by : InputEvent → List ℕ → ℕ
used_by (InputEvent.Output Event.Text) bytes = (decoded bytes).size
used_by sent bytes = length bytes

abbrev pub told : Encoding → Stroke → ℕ → FrontKey
told e s used = record {
  status = status_number Status.Done;
  code = code_tag s.code;
  value = code_value s.code;
  modifiers = s.held;
  event = happens s.event;
  encoding = encoding_number e;
  typed = length s.text;
  used = used;
}

-- without a key
abbrev pub without : Status → ℕ → FrontKey
without why used = record { status = status_number why; code = 0; value = 0; modifiers = 0; event = 0; encoding = 0; typed = 0; used = used }

-- a stream of which nothing came before
abbrev pub fresh : ℕ → Events
fresh limit = record { limit = limit; mode = Mode.Text; looked = 0 }

-- the event that stands in front, or, where it waits for more bytes and none come for now, what it is then; and how many bytes of a
-- sequence that isn't over were looked at
abbrev pub IsFirst : ℕ → ℕ → List ℕ → InputEvent → List ℕ → List CsiParam → ℕ → Type 0
IsFirst more limit bytes sent text list looked = (rest : List ℕ) × (after : Events)
    × (looked ≡ after.looked)
    × (IsSent Dialect.Input (fresh limit) bytes sent text rest list after
    ⊎ ((more ≡ 0) × IsSentBy (paused bytes) (fresh limit) bytes sent text rest list after))

-- its key, and the characters that it types, which are put where they fit; or it is none, and nothing is put
abbrev pub IsRead : Option (Encoding × Stroke) → ℕ → List ℕ → List ℕ → FrontKey → Type 0
IsRead (Some (e, s)) used old new answer = (answer ≡ told e s used) × Fills old new s.text
IsRead None used old new answer = (answer ≡ without Status.NoAction used) × (new ≡ old)

-- the same of an event; one that has no bytes is a control within a sequence that isn't over, and up to that control they are no key
abbrev pub Answers : InputEvent → List CsiParam → List ℕ → ℕ → List ℕ → List ℕ → FrontKey → Type 0
Answers sent list [] looked old new answer = IsRead None looked old new answer
Answers sent list (b ∷ text) looked old new answer =
    IsRead (key_of sent list (b ∷ text)) (used_by sent (b ∷ text)) old new answer

pub record IsKey (more limit : ℕ) (bytes old new : List ℕ) (answer : FrontKey) : Type 0 where
  pub sent : InputEvent
  pub text : List ℕ
  pub list : List CsiParam
  pub looked : ℕ
  pub first : IsFirst more limit bytes sent text list looked
  pub answers : Answers sent list text looked old new answer

-- what stands in front depends on later bytes, also if none come for now
pub record IsOpen (more limit : ℕ) (bytes : List ℕ) : Type 0 where
  pub after : Events
  pub awaits : Awaits Dialect.Input (fresh limit) bytes after
  pub none : more ≡ 0 → (last : Events) (sent : InputEvent) (text rest : List ℕ)
      → IsSentBy (paused bytes) (fresh limit) bytes sent text rest [] last → ⊥

-- or memory ran out, or it is open, and nothing is put
pub record IsNoKey (more limit : ℕ) (bytes old new : List ℕ) (answer : FrontKey) : Type 0 where
  pub why : (answer ≡ without Status.Memory 0)
      ⊎ ((answer ≡ without Status.Truncated 0) × IsOpen more limit bytes)
  pub same : new ≡ old
