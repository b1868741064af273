-- The events of a stream: what is told of the bytes in front, by what the bytes before them leave open.
--
-- All but control sequences are as the table of modes cuts them (`Cuts` of csicodec_spans). Of a control sequence DEC's terminals
-- and xterm carry out each C0 control within it when it comes, ignore DEL, and read the sequence as if neither were there.
use Rattle.std.specs.Prelude.{ℕ, ◌≡◌, ◌+◌, ◌-◌, ◌*◌, ◌<◌, ◌≤◌, ◌⊎◌, ◌==◌, ◌&&◌, max, Bool, true, false, not, filter, if◌then◌else◌, Option, Some, None, List, [], ◌∷◌, ◌++◌, length, take, drop}
use Rattle.std.specs.List.{flat_map, prefix_len}
use Rattle.csicodec_tokens.specs.{declared.param.CsiParam.CsiParam, Sequence.Seq}
use Rattle.csicodec_spans.specs.{declared.table.Kind.Kind, declared.table.Mode.Mode, Table.controls, Table.csi_finals, Table.del, Table.intermediates}
use Rattle.csicodec_spans.specs.{Table.openers, Table.parameters, Table.within, Parts.Cuts, Parts.IsMaximal, Parts.IsUnsure}
use Rattle.csicodec_events.specs.{declared.event.Event.Event, declared.event.Events.Events, declared.event.Told.Told, Characters.EndsWhole}
use Rattle.csicodec_events.specs.{Characters.is_unfinished}

-- the stream goes on in this mode, with so many bytes looked at
abbrev pub onward : Events → Mode → ℕ → Events
onward e m looked = record { limit = e.limit; mode = m; looked = looked }

-- ---- control sequences

abbrev pub BeginsCsi : List ℕ → Type 0
BeginsCsi bytes = (more : List ℕ) × (bytes ≡ 27 ∷ 91 ∷ more)

-- a C0 control that is carried out within a sequence: all but CAN, SUB and ESC, which end it
abbrev pub is_control : ℕ → Bool
is_control b = within controls b

-- nothing is told at such a byte: an intermediate byte, a parameter byte, or DEL
abbrev pub is_passed : ℕ → Bool
is_passed b = within (intermediates ++ (parameters ++ del)) b

abbrev pub is_final : ℕ → Bool
is_final b = within csi_finals b

-- what is read of a sequence: all but controls and DEL
abbrev pub is_read : ℕ → Bool
is_read b = not (within (controls ++ del) b)

abbrev pub without_controls : List ℕ → List ℕ
without_controls bytes = filter is_read bytes

-- Where a sequence stops: the first place behind `ESC [`, and behind what was looked at, whose byte isn't passed over, or the end.
abbrev pub stop : ℕ → List ℕ → ℕ
stop looked bytes = max 2 looked + prefix_len is_passed (drop (max 2 looked) bytes)

-- what stands before the place where it stops, and from there on
abbrev pub before_stop : Events → List ℕ → List ℕ
before_stop e bytes = take (stop e.looked bytes) bytes

abbrev pub from_stop : Events → List ℕ → List ℕ
from_stop e bytes = drop (stop e.looked bytes) bytes

-- The sequence waits: the bytes end, and there are fewer than it may have.
pub record IsOpen (limit : ℕ) (m : Mode) (over behind : List ℕ) (after : Events) : Type 0 where
  pub ends : behind ≡ []
  pub short : length over < limit
  pub looked : after ≡ record { limit = limit; mode = m; looked = length over }

-- A control stands there: it is told, no byte is used, and all up to it have been looked at.
pub record IsControl (limit : ℕ) (m : Mode) (over behind : List ℕ) (b : ℕ)
    (bytes text rest : List ℕ) (after : Events) : Type 0 where
  pub more : List ℕ
  pub stands : behind ≡ b ∷ more
  pub control : is_control b ≡ true
  pub short : length over < limit
  pub none : text ≡ []
  pub stays : rest ≡ bytes
  pub looked : after ≡ record { limit = limit; mode = m; looked = length over + 1 }

-- Without its controls what stands up to there is a sequence of this list and this final byte.
pub record IsCsi (limit : ℕ) (over behind : List ℕ) (list : List CsiParam) (final : ℕ)
    (text rest : List ℕ) (after : Events) : Type 0 where
  pub last : ℕ
  pub stands : behind ≡ last ∷ rest
  pub whole : text ≡ over ++ last ∷ []
  pub short : length over < limit
  pub seq : Seq (without_controls text) list final
  pub closed : after ≡ record { limit = limit; mode = Mode.Text; looked = 0 }

-- Why it goes wrong: it is too long, or the byte there is no control, and ends no sequence.
abbrev pub IsWrongAt : ℕ → List ℕ → List ℕ → Type 0
IsWrongAt limit over [] = limit ≤ length over
IsWrongAt limit over (b ∷ more) = length over < limit
    → (is_control b ≡ false)
    × ((list : List CsiParam) (final : ℕ) → Seq (without_controls (over ++ b ∷ [])) list final → ⊥)

-- How far what goes wrong goes: up to a final byte there, and with it; else up to there, and it may go on.
abbrev pub GoesWrong : List ℕ → List ℕ → List ℕ → List ℕ → Mode → Type 0
GoesWrong over [] text rest m = (text ≡ over) × (rest ≡ []) × (m ≡ Mode.BadCsi)
GoesWrong over (b ∷ more) text rest m =
    ((is_final b ≡ true) × (text ≡ over ++ b ∷ []) × (rest ≡ more) × (m ≡ Mode.Text))
    ⊎ ((is_final b ≡ false) × (text ≡ over) × (rest ≡ b ∷ more) × (m ≡ Mode.BadCsi))

pub record IsWrong (limit : ℕ) (over behind text rest : List ℕ) (after : Events) : Type 0 where
  pub next : Mode
  pub why : IsWrongAt limit over behind
  pub goes : GoesWrong over behind text rest next
  pub on : after ≡ record { limit = limit; mode = next; looked = 0 }

-- ---- all else

-- A span of this kind, as long as it can be.
pub record IsSpan (limit : ℕ) (m : Mode) (k : Kind) (bytes text rest : List ℕ)
    (after : Events) : Type 0 where
  pub next : Mode
  pub cuts : Cuts limit m bytes k text rest next
  pub maximal : IsMaximal k next rest
  pub on : after ≡ record { limit = limit; mode = next; looked = 0 }

-- Where text goes up to the end of the bytes, the beginning of a character at its end is held; else nothing is.
abbrev pub IsHeld : List ℕ → List ℕ → List ℕ → Type 0
IsHeld text held [] = (is_unfinished held ≡ true) ⊎ ((held ≡ []) × EndsWhole text)
IsHeld text held (b ∷ behind) = held ≡ []

-- A span of text, without what is held of it: some bytes, at least.
pub record IsText (limit : ℕ) (m : Mode) (bytes text rest : List ℕ)
    (after : Events) : Type 0 where
  pub some : 0 < length text
  pub held : List ℕ
  pub behind : List ℕ
  pub span : IsSpan limit m Kind.Text bytes (text ++ held) behind after
  pub holds : IsHeld text held behind
  pub goes_on : rest ≡ held ++ behind

-- ---- the events

-- The event of these bytes, with the tokens of a sequence; the bytes behind it; and how it goes on.
abbrev pub IsTold : Event → Events → List ℕ → List ℕ → List ℕ → List CsiParam → Events → Type 0
IsTold Event.Text e bytes text rest list after = IsText e.limit e.mode bytes text rest after
IsTold (Event.Control b) e bytes text rest list after = BeginsCsi bytes
    × IsControl e.limit e.mode (before_stop e bytes) (from_stop e bytes) b bytes text rest after
IsTold (Event.Csi final) e bytes text rest list after = BeginsCsi bytes
    × IsCsi e.limit (before_stop e bytes) (from_stop e bytes) list final text rest after
IsTold Event.Esc e bytes text rest list after = IsSpan e.limit e.mode Kind.Esc bytes text rest after
IsTold Event.Str e bytes text rest list after = IsSpan e.limit e.mode Kind.Str bytes text rest after
IsTold Event.Other e bytes text rest list after =
    ((BeginsCsi bytes → ⊥) × IsSpan e.limit e.mode Kind.Other bytes text rest after)
    ⊎ (BeginsCsi bytes × IsWrong e.limit (before_stop e bytes) (from_stop e bytes) text rest after)

abbrev pub Tells : Events → List ℕ → Told → List CsiParam → Events → Type 0
Tells e bytes told list after = IsTold told.event e bytes told.bytes.now told.rest.now list after

-- The bytes are text, and the beginning of a character.
abbrev pub IsBegun : Events → List ℕ → Type 0
IsBegun e bytes = (is_unfinished bytes ≡ true)
    × ((next : Mode) × Cuts e.limit e.mode bytes Kind.Text bytes [] next)

-- Nothing is told before more bytes come: a sequence isn't over, or the bytes are the beginning of a character, or nothing is
-- sure of them.
abbrev pub Waits : Events → List ℕ → Events → Type 0
Waits e bytes after =
    (BeginsCsi bytes × IsOpen e.limit e.mode (before_stop e bytes) (from_stop e bytes) after)
    ⊎ ((BeginsCsi bytes → ⊥) × (after ≡ e) × (IsBegun e bytes ⊎ IsUnsure e.limit e.mode bytes))

-- ---- from call to call

-- The bytes begin with those that wait.
abbrev pub IsMet : Events → List ℕ → Type 0
IsMet e bytes = (e.looked ≡ 0) ⊎ (BeginsCsi bytes × (e.looked ≤ length bytes))

-- twice what is left, without what was looked at: each event makes it less
abbrev pub left : Events → List ℕ → ℕ
left e bytes = 2 * length bytes - e.looked

-- ---- a stream

abbrev pub bytes_of : Told → List ℕ
bytes_of told = told.bytes.now

-- events one after the other, each in front of what those before it left
abbrev pub AreTold : Events → List ℕ → List Told → List ℕ → Events → Type 0
AreTold e bytes [] rest after = (rest ≡ bytes) × (after ≡ e)
AreTold e bytes (t ∷ told) rest after = (list : List CsiParam) × (mid : Events)
    × Tells e bytes t list mid × AreTold mid t.rest.now told rest after

-- A stream that comes chunk by chunk: events are told of each with what the ones before it left, until it waits, and what is left
-- is passed on.
abbrev pub InChunks : Events → List ℕ → List (List ℕ) → List Told → List ℕ → Events → Type 0
InChunks e held [] told rest after = (told ≡ []) × (rest ≡ held) × (after ≡ e)
InChunks e held (chunk ∷ chunks) told rest after =
    (now : List Told) × (later : List Told) × (kept : List ℕ) × (mid : Events) × (waiting : Events)
    × (told ≡ now ++ later) × AreTold e (held ++ chunk) now kept mid × Waits mid kept waiting
    × InChunks waiting kept chunks later rest after

-- ---- what doesn't depend on the chunks

-- an event, or a byte of one, or with no bytes the place where a string or what went wrong begins
pub record Piece : Type 0 where
  pub event : Event
  pub bytes : List ℕ

abbrev pub piece : Event → List ℕ → Piece
piece x bytes = record { event = x; bytes = bytes }

abbrev pub byte_by_byte : Event → List ℕ → List Piece
byte_by_byte x [] = []
byte_by_byte x (b ∷ bytes) = piece x (b ∷ []) ∷ byte_by_byte x bytes

-- a string begins with ESC and its opener, and what goes wrong with ESC; where either goes on, it doesn't
abbrev pub begins : Event → List ℕ → Bool
begins Event.Str (a ∷ b ∷ bytes) = a == 27 && within openers b
begins Event.Other (a ∷ bytes) = a == 27
begins x bytes = false

abbrev pub divided : Event → List ℕ → List Piece
divided x bytes = (if begins x bytes then piece x [] ∷ [] else []) ++ byte_by_byte x bytes

-- An event in as many pieces as it could come in: text, strings and what goes wrong byte by byte, and all else whole.
abbrev pub pieces_of : Event → List ℕ → List Piece
pieces_of Event.Text bytes = divided Event.Text bytes
pieces_of Event.Str bytes = divided Event.Str bytes
pieces_of Event.Other bytes = divided Event.Other bytes
pieces_of x bytes = piece x bytes ∷ []

abbrev pub pieces : List Told → List Piece
pieces told = flat_map (λ (t : Told). pieces_of t.event t.bytes.now) told

-- Two streams are told alike but for where text, strings and what went wrong are cut; the same waits, and they go on alike.
pub record AreAlike (told others : List Told) (rest rest' : List ℕ)
    (after after' : Events) : Type 0 where
  pub same : pieces told ≡ pieces others
  pub waits : rest ≡ rest'
  pub on : after ≡ after'

-- ---- how often the bytes of control sequences are looked at

abbrev pub is_csi : List ℕ → Bool
is_csi (a ∷ b ∷ bytes) = a == 27 && b == 91
is_csi bytes = false

-- up to where a sequence stops, and with the byte there
abbrev pub reach : Events → List ℕ → ℕ
reach e bytes = length (take (stop e.looked bytes + 1) bytes)

-- How often a byte is looked at of a control sequence in front, where so many bytes are used: once, to read it at once, if none was
-- looked at before; to find where it stops, those behind what was looked at; and twice more what is used, to leave out the controls and
-- to read what is left.
abbrev pub looks : Events → List ℕ → ℕ → ℕ
looks e bytes used =
    if is_csi bytes then (if e.looked == 0 then reach e bytes else 0)
    + (reach e bytes - max 2 e.looked) + 2 * used
    else 0

-- how many bytes an event has, if there is one
abbrev pub used : Option (Event × ℕ) → ℕ
used None = 0
used (Some (event, n)) = n

-- .. for these events, one after the other
abbrev pub looks_told : (told : List Told) (e : Events) (bytes rest : List ℕ) (after : Events)
    → AreTold e bytes told rest after → ℕ
looks_told [] e bytes rest after s = 0
looks_told (t ∷ told) e bytes rest after (list, mid, tells, others) =
    looks e bytes (length t.bytes.now) + looks_told told mid t.rest.now rest after others

-- .. in all chunks, for the events of each and then until it waits
abbrev pub looks_in : (chunks : List (List ℕ)) (e : Events) (held : List ℕ) (told : List Told)
    (rest : List ℕ) (after : Events) → InChunks e held chunks told rest after → ℕ
looks_in [] e held told rest after c = 0
looks_in (chunk ∷ chunks) e held told rest after
    (now, later, kept, mid, waiting, whole, first, waits, others) =
    looks_told now e (held ++ chunk) kept mid first + looks mid kept 0
    + looks_in chunks waiting kept later rest after others
