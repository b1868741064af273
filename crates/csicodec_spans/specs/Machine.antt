-- The machine: what is told of a stream byte by byte, by a state and by one table of what each byte does in it.
--
-- It is the parser of DEC's VT500 as Paul Williams' model draws it, and has the words of that model: ground, escape, csi_ignore, print,
-- execute, csi_dispatch, hook, put. It differs from the model as the table of modes does, which has the sources (Table.antt):
--
-- - A byte from 08/00 on is a part of a character (UTF-8), and no control of C1.
-- - Parameter and intermediate bytes stand in any order, so csi_entry, csi_param and csi_intermediate are one state. A number that is
--   too large goes wrong, and so does a sequence that is too long.
-- - A control within a sequence goes wrong, and isn't executed. All bytes of what went wrong are told, so a visitor can execute it.
-- - An escape sequence has at most one intermediate byte.
-- - OSC, SOS, PM and APC are told as DCS is, by hook, put and unhook. ESC ESC stays in a DCS.
use Rattle.std.specs.Prelude.{ℕ, ◌+◌, ◌*◌, ◌-◌, ◌&&◌, Bool, nat_lt, nat_le, List, [], ◌∷◌, ◌++◌, length, if◌then◌else◌}
use Rattle.csicodec_tokens.specs.Digits.{largest}
use Rattle.csicodec_spans.specs.Table.{Range, byte, through, the, within, bel, cancels, esc, controls, ascii, intermediates, parameters, csi_finals, esc_finals, string_modes, holds_in}
use Rattle.csicodec_spans.specs.declared.table.Mode.{Mode}

-- ---- what there is

-- In `Open` nothing is collected, and the mode says what is open. The model calls these states ground (Mode.Text), osc_string (Osc),
-- dcs_passthrough (Dcs), sos_pm_apc_string (Str) and csi_ignore (BadCsi); BadEsc is for an escape sequence what csi_ignore is. In the
-- other three ESC came in this mode, and is collected with what followed it: nothing, an intermediate byte, or `[` and a body.
pub data State : Type 0 where
  Open : Mode → State
  Escape : Mode → State
  EscapeIntermediate : Mode → ℕ → State
  CsiParam : Mode → List ℕ → State

-- What is told. A byte of text is printed, and a control of C0 executed. A sequence is dispatched whole. ESC and a final byte hook a
-- control string, its bytes are put, and BEL or ST unhooks it. What went wrong is ignored, in the bytes that it has.
pub data Event : Type 0 where
  Print : ℕ → Event
  Execute : ℕ → Event
  CsiDispatch : List ℕ → Event
  EscDispatch : List ℕ → Event
  Hook : ℕ → Event
  Put : List ℕ → Event
  Unhook : List ℕ → Event
  Ignore : List ℕ → Event

-- what is told, and the state then
pub record Told : Type 0 where
  pub events : List Event
  pub to : State

abbrev pub tell : List Event → State → Told
tell events to = record { events = events; to = to }

-- one event, and nothing is collected then
abbrev pub one : Event → Mode → Told
one e m = tell (e ∷ []) (Open m)

abbrev pub in_turn : Told → Told → Told
in_turn t u = tell (t.events ++ u.events) u.to

-- ---- a byte where nothing is collected

abbrev pub text : ℕ → Event
text b = if within (controls ++ cancels) b then Execute b else Print b

-- ESC is collected, whatever is open. CAN and SUB cancel what is open, and are executed. Any other byte is told by what is open.
abbrev pub anywhere : Mode → ℕ → Told → Told
anywhere m b other =
    if within esc b then tell [] (Escape m) else
    if within cancels b then one (Execute b) Mode.Text else
    other

-- what went wrong goes on up to its final byte, and ends ahead of a byte of a character
abbrev pub wrong : List Range → Mode → ℕ → Told
wrong finals m b =
    if within finals b then one (Ignore (b ∷ [])) Mode.Text else
    if within ascii b then one (Ignore (b ∷ [])) m else
    one (Print b) Mode.Text

abbrev pub next_open : Mode → ℕ → Told
next_open Mode.Text b = anywhere Mode.Text b (one (text b) Mode.Text)
next_open Mode.Osc b = anywhere Mode.Osc b
    (if within bel b then one (Unhook (b ∷ [])) Mode.Text else one (Put (b ∷ [])) Mode.Osc)
next_open Mode.Dcs b = anywhere Mode.Dcs b (one (Put (b ∷ [])) Mode.Dcs)
next_open Mode.Str b = anywhere Mode.Str b (one (Put (b ∷ [])) Mode.Str)
next_open Mode.BadCsi b = anywhere Mode.BadCsi b (wrong csi_finals Mode.BadCsi b)
next_open Mode.BadEsc b = anywhere Mode.BadEsc b (wrong esc_finals Mode.BadEsc b)

-- ---- a byte behind what is collected

-- what is collected went wrong ahead of the byte
abbrev pub spoiled : List ℕ → Mode → ℕ → Told
spoiled bytes m b = in_turn (one (Ignore bytes) m) (next_open m b)

-- ESC, `[` and a body are collected, as long as there is room for a final byte
abbrev pub collect : ℕ → Mode → List ℕ → Told
collect limit m body =
    if nat_lt (length body + 2) limit then tell [] (CsiParam m body) else
    one (Ignore (27 ∷ 91 ∷ body)) Mode.BadCsi

-- behind ESC
abbrev pub next_escape : ℕ → Mode → ℕ → Told
next_escape limit m b =
    if within (the "[") b then (if nat_lt 1 limit then collect limit m [] else spoiled (27 ∷ []) Mode.BadCsi b) else
    if within (the "\\") b && holds_in string_modes m then one (Unhook (27 ∷ b ∷ [])) Mode.Text else
    if within (the "]") b then one (Hook b) Mode.Osc else
    if within (the "P") b then one (Hook b) Mode.Dcs else
    if within (the "X" ++ (the "^" ++ the "_")) b then one (Hook b) Mode.Str else
    if within esc_finals b then one (EscDispatch (27 ∷ b ∷ [])) Mode.Text else
    if within intermediates b then tell [] (EscapeIntermediate m b) else
    if within esc b && holds_in (Mode.Dcs ∷ []) m then one (Put (27 ∷ b ∷ [])) Mode.Dcs else
    spoiled (27 ∷ []) Mode.BadEsc b

-- the value of the digits at the end of a body, with a byte more
abbrev pub number_with : ℕ → ℕ → ℕ
number_with n b = if within (through (byte 3 0) (byte 3 9)) b then 10 * n + (b - 48) else 0

abbrev pub number_behind : ℕ → List ℕ → ℕ
number_behind n [] = n
number_behind n (b ∷ bytes) = number_behind (number_with n b) bytes

-- the byte may stand behind the body of a control sequence
abbrev pub goes_on : List ℕ → ℕ → Bool
goes_on body b = within (intermediates ++ parameters) b && nat_le (number_with (number_behind 0 body) b) largest

-- ---- the table, and the walk

-- a byte in a state, where a control sequence may have `limit` bytes
abbrev pub next : ℕ → State → ℕ → Told
next limit (Open m) b = next_open m b
next limit (Escape m) b = next_escape limit m b
next limit (EscapeIntermediate m i) b =
    if within esc_finals b then one (EscDispatch (27 ∷ i ∷ b ∷ [])) Mode.Text else
    spoiled (27 ∷ i ∷ []) Mode.BadEsc b
next limit (CsiParam m body) b =
    if within csi_finals b then one (CsiDispatch (27 ∷ 91 ∷ (body ++ b ∷ []))) Mode.Text else
    if goes_on body b then collect limit m (body ++ b ∷ []) else
    spoiled (27 ∷ 91 ∷ body) Mode.BadCsi b

-- one byte after the other
abbrev pub walk : ℕ → State → List ℕ → Told
walk limit s [] = tell [] s
walk limit s (b ∷ bytes) = in_turn (next limit s b) (walk limit (next limit s b).to bytes)

abbrev pub collected : State → List ℕ
collected (Open m) = []
collected (Escape m) = 27 ∷ []
collected (EscapeIntermediate m i) = 27 ∷ i ∷ []
collected (CsiParam m body) = 27 ∷ 91 ∷ body

abbrev pub left : List ℕ → List Event
left [] = []
left (b ∷ bytes) = Ignore (b ∷ bytes) ∷ []

-- where nothing comes any more, what is collected went wrong
abbrev pub with_end : Told → List Event
with_end t = t.events ++ left (collected t.to)

-- all that is told of a stream
abbrev pub told : ℕ → List ℕ → List Event
told limit bytes = with_end (walk limit (Open Mode.Text) bytes)
