-- What a visitor of a stream does: what it writes for what it is told, one call after the other.
use Rattle.std.specs.{Prelude.ℕ, Prelude.◌≡◌, Prelude.◌<◌, Prelude.List, Prelude.[], Prelude.◌∷◌, Prelude.◌++◌, Prelude.map, List.concat}
use Rattle.csicodec_spans.specs.{Machine.Event, Machine.CsiDispatch, Machine.State, Machine.Open, Machine.tell, Machine.in_turn, Machine.walk}
use Rattle.csicodec_spans.specs.{Machine.collected, Told.IsState, Told.part_of, Parts.Part, declared.table.Mode.Mode}

-- what a visitor is told: an event of the machine, or that nothing more is there to read at once
pub data Call : Type 0 where
  Tell : Event → Call
  Pause : Call

-- the events among them
abbrev pub events_of : List Call → List Event
events_of [] = []
events_of (Tell e ∷ calls) = e ∷ events_of calls
events_of (Pause ∷ calls) = events_of calls

-- and the parts that these tell
abbrev pub parts_of : List Call → List Part
parts_of calls = map part_of (events_of calls)

-- from a state, for a call this text may be written, and then it may be in this state
abbrev pub DoesOf : Type 0 → Type 1
DoesOf V = V → Call → List ℕ → V → Type 0

-- the same for calls in turn
abbrev pub Visits : {V : Type 0} → DoesOf V → V → List Call → List ℕ → V → Type 0
Visits does v [] text w = (text ≡ []) × (w ≡ v)
Visits {V} does v (c ∷ calls) text w =
    (mid : V) × (first : List ℕ) × (others : List ℕ) × does v c first mid
    × (text ≡ first ++ others) × Visits does mid calls others w

-- a stream between two chunks: how many bytes a control sequence may have, the state of the machine, and the visitor
pub record Stream (V : Type 0) : Type 0 where
  pub limit : ℕ
  pub state : State
  pub visitor : V

abbrev pub stream : {V : Type 0} → ℕ → State → V → Stream V
stream limit state visitor = record { limit = limit; state = state; visitor = visitor }

-- Of these bytes this text may be written, and then the stream may be this: the visitor is told what the machine tells of them, and pauses
-- wherever that may be.
pub record Pushes {V : Type 0} (does : DoesOf V) (s : Stream V) (bytes text : List ℕ)
    (after : Stream V) : Type 0 where
  pub calls : List Call
  pub told : events_of calls ≡ (walk s.limit s.state bytes).events
  pub to : after ≡ stream s.limit (walk s.limit s.state bytes).to after.visitor
  pub visits : Visits does s.visitor calls text after.visitor

-- the same of chunk after chunk
abbrev pub PushesAll : {V : Type 0} → DoesOf V → Stream V → List (List ℕ) → List ℕ → Stream V → Type 0
PushesAll does s [] text after = (text ≡ []) × (after ≡ s)
PushesAll {V} does s (chunk ∷ chunks) text after =
    (mid : Stream V) × (first : List ℕ) × (others : List ℕ) × Pushes does s chunk first mid
    × (text ≡ first ++ others) × PushesAll does mid chunks others after

-- it doesn't matter how a stream is cut into chunks: what may be written of one after the other may be written of all of them at once
abbrev pub AnyChunks : {V : Type 0} → DoesOf V → Type 0
AnyChunks {V} does = (s after : Stream V) (chunks : List (List ℕ)) (text : List ℕ)
    → PushesAll does s chunks text after → Pushes does s (concat chunks) text after

-- for an event one text alone may be written, and it may be in one state alone then, and a pause does nothing
pub record DoesOne {V : Type 0} (does : DoesOf V) : Type 0 where
  pub events : (v : V) (e : Event) (one other : List ℕ) (w x : V) → does v (Tell e) one w
      → does v (Tell e) other x → (one ≡ other) × (w ≡ x)
  pub pauses : (v w : V) (text : List ℕ) → does v Pause text w → (text ≡ []) × (w ≡ v)

-- where it is so, a stream that is cut in two ways has one text
abbrev pub OneText : {V : Type 0} → DoesOf V → Type 0
OneText {V} does = DoesOne does → (s after last : Stream V) (chunks others : List (List ℕ))
    (text own : List ℕ) → concat chunks ≡ concat others → PushesAll does s chunks text after
    → PushesAll does s others own last → (text ≡ own) × (after ≡ last)

-- ---- what a driver does

-- for these calls this was appended
abbrev pub Writes : {V : Type 0} → DoesOf V → V → List Call → List ℕ → List ℕ → V → Type 0
Writes does v calls before after w =
    (text : List ℕ) × Visits does v calls text w × (after ≡ before ++ text)

-- for these bytes of a control sequence
abbrev pub WritesCsi : {V : Type 0} → DoesOf V → V → List ℕ → List ℕ → List ℕ → V → Type 0
WritesCsi does v bytes = Writes does v (Tell (CsiDispatch bytes) ∷ [])

-- bytes that are told in a mode in which nothing is collected, and who is told
pub record Place (V : Type 0) : Type 0 where
  pub visitor : V
  pub limit : ℕ
  pub mode : Mode
  pub bytes : List ℕ

abbrev pub place : {V : Type 0} → V → ℕ → Mode → List ℕ → Place V
place visitor limit mode bytes =
    record { visitor = visitor; limit = limit; mode = mode; bytes = bytes }

-- some of the bytes in front were told, and this was appended; the others are left, and told as if the stream began there
pub record TellsTo {V : Type 0} (does : DoesOf V) (old : Place V) (before after : List ℕ)
    (new : Place V) : Type 0 where
  pub limit : new.limit ≡ old.limit
  pub events : List Event
  pub front : List ℕ
  pub parts : old.bytes ≡ front ++ new.bytes
  pub goes : walk old.limit (Open old.mode) old.bytes
      ≡ in_turn (tell events (Open new.mode)) (walk old.limit (Open new.mode) new.bytes)
  pub writes : Writes does old.visitor (map Tell events) before after new.visitor

-- to a stream in such a state as the machine may be in a chunk was pushed, and this was appended
pub record PushesTo {V : Type 0} (does : DoesOf V) (s : Stream V) (bytes before after : List ℕ)
    (t : Stream V) : Type 0 where
  pub limit : 0 < s.limit
  pub state : IsState s.limit s.state
  pub text : List ℕ
  pub pushes : Pushes does s bytes text t
  pub out : after ≡ before ++ text

-- it was told of a pause, and this was appended
pub record PausesTo {V : Type 0} (does : DoesOf V) (s : Stream V) (before after : List ℕ)
    (t : Stream V) : Type 0 where
  pub text : List ℕ
  pub does_so : does s.visitor Pause text t.visitor
  pub to : t ≡ stream s.limit s.state t.visitor
  pub out : after ≡ before ++ text

-- ---- from a reader to a writer

-- the last that it was told of is a pause
abbrev pub Rests : {V : Type 0} → DoesOf V → Stream V → Type 0
Rests {V} does s = (v : V) × (text : List ℕ) × does v Pause text s.visitor

-- at the end it is told of a pause, and what is collected passes as it came
abbrev pub Ends : {V : Type 0} → DoesOf V → Stream V → List ℕ → Type 0
Ends {V} does s rest = (more : List ℕ) × (done : V) × does s.visitor Pause more done
    × (rest ≡ more ++ collected s.state)
