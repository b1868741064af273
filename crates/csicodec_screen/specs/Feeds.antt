-- What bytes say to a screen, as an emulator reads them: the events of the stream, one after the other (`Tells` of csicodec_events), and what each says.
use Rattle.std.specs.Prelude.{ℕ, suc, ◌≡◌, ◌+◌, ◌-◌, ◌*◌, ◌==◌, ◌&&◌, ◌||◌, nat_lt, nat_le, not, Bool, true, false, if◌then◌else◌, Option, Some, None, option_map, List, [], ◌∷◌, ◌++◌, length, map, take}
use Rattle.std.specs.List.{flat_map}
use Rattle.bstr.specs.Utf8.{lossy_chars}
use Rattle.csicodec_tokens.specs.declared.param.CsiParam.{CsiParam}
use Rattle.csicodec_spans.specs.declared.table.Mode.{Mode}
use Rattle.csicodec_events.specs.{declared.event.Event.Event, declared.event.Events.Events, declared.event.Told.Told, Events.Tells, Events.Waits, Events.begins}
use Rattle.csicodec_events.specs.{Events.is_csi, Input.is_digit}
use Rattle.csicodec_actions.specs.Actions.{Action}
use Rattle.csicodec_terminal.specs.Terminal.{Terminal}
use Rattle.csicodec_screen.specs.{Screen.fresh, Steps.Input, Steps.Print, Steps.Control, Steps.Escape, Steps.Csi, Steps.Osc, Steps.OtherString, Steps.carry}
use Rattle.csicodec_screen.specs.{declared.screen.Screen.Screen}

-- ---- text and controls

-- a control of C0, or any other character
abbrev pub of_char : ℕ → List Input
of_char c = if nat_lt c 32 then Control c ∷ [] else Print c ∷ []

-- U+FFFD for each piece that is no character
abbrev pub of_text : List ℕ → List Input
of_text bytes = flat_map of_char (lossy_chars bytes)

-- all controls of C0 but ESC
abbrev pub of_control : ℕ → List Input
of_control b = if nat_lt b 32 && not (b == 27) then Control b ∷ [] else []

-- The controls in what went wrong. Those of a control sequence were told when they came.
abbrev pub of_wrong : List ℕ → List Input
of_wrong bytes = if is_csi bytes then [] else flat_map of_control bytes

-- ---- escape sequences: an intermediate byte, if there is one, and the final byte

abbrev pub by_escape : List ℕ → List Input
by_escape (esc ∷ final ∷ []) = Escape [] final ∷ []
by_escape (esc ∷ b ∷ final ∷ []) = Escape (b ∷ []) final ∷ []
by_escape bytes = []

-- ---- control strings

-- so many bytes of a string are kept, with what opens and what ends it
abbrev pub most : ℕ
most = 65536

-- a string begins anew where ESC and an opener stand in front, and one byte more tells that it is longer
abbrev pub collected : List ℕ → List ℕ → List ℕ
collected string bytes = take (most + 1) (if begins Event.Str bytes then bytes else string ++ bytes)

abbrev pub with_digit : ℕ → ℕ → ℕ
with_digit n b = 10 * n + (b - 48)

-- digits, of a number in 32 bits, and `;`: the number, and what is behind it
abbrev pub numbered : ℕ → List ℕ → Option (ℕ × List ℕ)
numbered n [] = None
numbered n (b ∷ bytes) = if b == 59 then Some (n, bytes)
    else if is_digit b && nat_lt (with_digit n b) 4294967296 then numbered (with_digit n b) bytes else None

-- how many stand in front of BEL or ST: no other BEL and no other ESC stands in an OSC
abbrev pub to_end : List ℕ → ℕ
to_end [] = 0
to_end (b ∷ bytes) = if b == 7 || b == 27 then 0 else suc (to_end bytes)

abbrev pub before_end : List ℕ → List ℕ
before_end bytes = take (to_end bytes) bytes

-- the number and the text of an OSC, by what stands behind `ESC ]`
abbrev pub content : List ℕ → Option (ℕ × List ℕ)
content [] = None
content (b ∷ bytes) = if is_digit b then option_map (λ c. (c.0, before_end c.1)) (numbered 0 (b ∷ bytes)) else None

abbrev pub opened : List ℕ → Option (ℕ × List ℕ)
opened (esc ∷ b ∷ bytes) = if b == 93 then content bytes else None
opened string = None

abbrev pub command : List ℕ → Option (ℕ × List ℕ)
command string = if nat_lt most (length string) then None else opened string

abbrev pub of_command : Option (ℕ × List ℕ) → Input
of_command None = OtherString
of_command (Some (n, text)) = Osc n text

-- Behind a whole string nothing is open. One that is cancelled says nothing.
abbrev pub by_string : Mode → List ℕ → List Input
by_string Mode.Text string = of_command (command string) ∷ []
by_string m string = []

-- ---- events

-- what an event says, by the tokens of a control sequence, the mode behind it, and what came of a string before it
abbrev pub Says : Event → List ℕ → List CsiParam → Mode → List ℕ → List Input → Type 0
Says Event.Text bytes list m string inputs = inputs ≡ of_text bytes
Says (Event.Control b) bytes list m string inputs = inputs ≡ Control b ∷ []
Says (Event.Csi final) bytes list m string inputs = (actions : List Action) × Terminal list false final actions × (inputs ≡ map Csi actions)
Says Event.Esc bytes list m string inputs = inputs ≡ by_escape bytes
Says Event.Str bytes list m string inputs = inputs ≡ by_string m (collected string bytes)
Says Event.Other bytes list m string inputs = inputs ≡ of_wrong bytes

abbrev pub string_behind : Event → List ℕ → List ℕ → List ℕ
string_behind Event.Str bytes string = collected string bytes
string_behind x bytes string = string

-- where reading stands: what the stream leaves open, what came of a string, and the bytes that are left
pub record Reading : Type 0 where
  pub events : Events
  pub string : List ℕ
  pub bytes : List ℕ

pub record Reads (a : Reading) (t : Told) (list : List CsiParam) (inputs : List Input) (b : Reading) : Type 0 where
  pub tells : Tells a.events a.bytes t list b.events
  pub says : Says t.event t.bytes.now list b.events.mode a.string inputs
  pub string : b.string ≡ string_behind t.event t.bytes.now a.string
  pub rest : b.bytes ≡ t.rest.now

-- one event after the other, and all that they say
abbrev pub AreRead : Reading → List Told → List Input → Reading → Type 0
AreRead a [] inputs b = (inputs ≡ []) × (b ≡ a)
AreRead a (t ∷ told) inputs b = (list : List CsiParam) × (mid : Reading) × (first : List Input) × (later : List Input)
    × Reads a t list first mid × AreRead mid told later b × (inputs ≡ first ++ later)

-- ---- an emulator: a screen, and where reading stands

pub record Emulated : Type 0 where
  pub screen : Screen
  pub reading : Reading

abbrev pub begun : ℕ → ℕ → ℕ → Emulated
begun rows columns room = record {
  screen = fresh rows columns room;
  reading = record { events = record { limit = most; mode = Mode.Text; looked = 0 }; string = []; bytes = [] };
}

-- some events were read, and the screen is as they say
abbrev pub GoesTo : Reading → Screen → Reading → Screen → Type 0
GoesTo a s b t = (told : List Told) × (inputs : List Input) × AreRead a told inputs b × (t ≡ carry inputs s)

-- the bytes that were left and these are read, until they wait
abbrev pub Feeds : Emulated → List ℕ → Emulated → Type 0
Feeds old bytes new = (mid : Reading) × GoesTo (record old.reading { bytes = old.reading.bytes ++ bytes }) old.screen mid new.screen
    × Waits mid.events mid.bytes new.reading.events × (new.reading.string ≡ mid.string) × (new.reading.bytes ≡ mid.bytes)
