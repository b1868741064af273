-- What a recording of asciinema hands on: the data that its programs wrote, one behind the other.
use Rattle.csicodec_command.specs.Common.{ℕ, Bool, true, false, List, [], codes, String, string_bytes, Option, None, Some, option_map, option_and_then, unwrap_or, bytes_eq, is_utf8, trim, Global, Data, as_number, as_str, as_u64, at, get, read, last_line}
use Rattle.csicodec_command.specs.declared.recorded.Recorded.{Recorded}
use Rattle.std.specs.Prelude.{◌==◌, ◌∷◌, ◌++◌, if◌then◌else◌}

-- an event: its code, and its data
abbrev pub Event : Type 0
Event = List ℕ × List ℕ

-- the texts of an event
abbrev pub texts_of : String Global × String Global → Event
texts_of e = (string_bytes e.0, string_bytes e.1)

-- the versions that are read
abbrev pub known_version : Option ℕ → Option ℕ
known_version None = None
known_version (Some v) = if v == 2 then Some 2 else if v == 3 then Some 3 else None

-- the version of a recording of which this is the first line
abbrev pub version_in : Data → Option ℕ
version_in d = known_version (option_and_then as_u64 (option_and_then as_number (get (codes "version") d)))

abbrev pub version_of : List ℕ → Option ℕ
version_of line = option_and_then version_in (read line)

abbrev pub event : Option (List ℕ) → Option (List ℕ) → Option Event
event (Some code) (Some what) = Some (code, what)
event None what = None
event (Some code) None = None

-- an event is an array with a time, a code and data
abbrev pub event_in : Data → Option Event
event_in d = event (option_and_then as_str (at 1 d)) (option_and_then as_str (at 2 d))

abbrev pub event_of : List ℕ → Option Event
event_of line = option_and_then event_in (read line)

-- a blank line and a comment have no event
abbrev pub is_passed : List ℕ → Bool
is_passed [] = true
is_passed (b ∷ line) = b == 35

-- What a line without blanks around it says, where this is the version so far, 0 ahead of the first line: an event, or nothing; and none
-- of these where it is refused.
abbrev pub says : ℕ → List ℕ → Option (Option Event)
says version line =
    if version == 0 then option_map (λ v. None) (version_of line)
    else if is_passed line then Some None
    else option_map (λ e. Some e) (event_of line)

-- the version behind it
abbrev pub version_behind : ℕ → List ℕ → ℕ
version_behind version line = if version == 0 then unwrap_or (version_of line) 0 else version

-- the same of a line as it stands
abbrev pub line_says : ℕ → List ℕ → Option (Option Event)
line_says version line = if is_utf8 line then says version (trim line) else None

-- the data that a program wrote
abbrev pub written : Option Event → List ℕ
written None = []
written (Some e) = if bytes_eq e.0 (codes "o") then e.1 else []

abbrev pub data_or_none : Option (String Global) → List ℕ
data_or_none None = []
data_or_none (Some text) = string_bytes text

-- the lines of bytes that go on with a line, each with its end; behind the last end stands none
abbrev pub lines_from : List ℕ → List ℕ → List (List ℕ)
lines_from line [] = last_line line
lines_from line (b ∷ bytes) = if b == 10 then (line ++ 10 ∷ []) ∷ lines_from [] bytes else lines_from (line ++ b ∷ []) bytes

-- Where a line is refused, or none came at all, stands 256. That is no byte, so nobody reads past it, and nobody is at the end there.
abbrev pub refused : List ℕ
refused = 256 ∷ []

abbrev pub data_behind : Option (Option Event) → List ℕ → List ℕ
data_behind None others = refused
data_behind (Some e) others = written e ++ others

-- the data of lines, one behind the other
abbrev pub data_from : ℕ → List (List ℕ) → List ℕ
data_from version [] = if version == 0 then refused else []
data_from version (line ∷ lines) = data_behind (line_says version line) (data_from (version_behind version (trim line)) lines)

-- the data of a recording
abbrev pub recorded : List ℕ → List ℕ
recorded bytes = data_from 0 (lines_from [] bytes)

-- whether a line is over
abbrev pub is_over : List ℕ → Bool
is_over [] = false
is_over (b ∷ []) = b == 10
is_over (b ∷ c ∷ line) = is_over (c ∷ line)

-- the lines that are left, where this much of the first was read
abbrev pub lines_left : List ℕ → List ℕ → List (List ℕ)
lines_left line bytes = if is_over line then line ∷ lines_from [] bytes else lines_from line bytes

-- the data that are left where the recording isn't over, if what is left of that is known
abbrev pub to_come : {R : Type 0} → (R → Option (List ℕ)) → Recorded R → Option (List ℕ)
to_come remaining r = option_map (λ bytes. r.event.items ++ data_from r.reading.version (lines_left r.line.items bytes)) (remaining r.input)

-- the data that are left
abbrev pub left : {R : Type 0} → (R → Option (List ℕ)) → Recorded R → Option (List ℕ)
left remaining r = if r.over then Some r.event.items else to_come remaining r
