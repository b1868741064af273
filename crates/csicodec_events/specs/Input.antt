-- The input dialect: what a terminal sends, as keys, the mouse and answers. It has forms that mean something else in output, or
-- nothing; all else is as output has it. Behind ESC stand, where no string is open:
--
--   O c          SS3 and a character (DEC: keypad and function keys)          in output an escape sequence, and text
--   O m c        a cursor key or F1 to F4 with modifiers (Konsole)            the same
--   O 1 ; m c    the same (VTE before 0.38)                                   the same
--   [ [ c        a function key (Linux' console, console_codes)                in output a control sequence, and text
--   [ M x y z    a mouse report of three characters (xterm, modes 9 and 1000)  in output DL, and text
--   [ d $        a key with shift, by a number of one digit or two (rxvt)      in output an intermediate byte
--   [ I          the focus came (xterm, mode 1004)                            in output CHT
--   [            a control sequence, as in output
--   ESC [ c      a cursor key or F1 to F4 with alt (rxvt, iTerm2)             in output a sequence behind ESC
--   ESC O c      the same, in the application mode of these keys              the same
--   ESC [ d ~    a key with alt, by a number of one digit or two (the same)   the same
--   ] P X ^ _    a control string, as in output, once another byte follows
--   c            a key with alt (xterm: metaSendsEscape), c any other character but ESC
--   else         nothing: ESC is a key of its own, before ESC or what is no character
use Rattle.std.specs.Prelude.{ℕ, ◌≡◌, ◌+◌, ◌-◌, ◌*◌, ◌==◌, Bool, true, false, ◌&&◌, ◌||◌, nat_le, nat_lt, List, [], ◌∷◌, ◌++◌, length, take, drop, Option, Some, None, if◌then◌else◌}
use Rattle.bstr.specs.Utf8.{decoded, lead_len}
use Rattle.csicodec_tokens.specs.declared.param.CsiParam.{CsiParam}
use Rattle.csicodec_spans.specs.declared.table.Mode.{Mode}
use Rattle.csicodec_events.specs.{declared.event.Event.Event, declared.event.Events.Events, declared.input.Dialect.Dialect, declared.input.Form.Form}
use Rattle.csicodec_events.specs.{declared.input.InputEvent.InputEvent, declared.input.Sent.Sent, Characters.is_from, Events.IsTold, Events.Waits}
use Rattle.csicodec_events.specs.{Events.onward}

abbrev pub is_printable : ℕ → Bool
is_printable b = is_from 32 126 b

abbrev pub is_digit : ℕ → Bool
is_digit b = is_from 48 57 b

-- P, X, ], ^ and _ open a control string
abbrev pub is_opener : ℕ → Bool
is_opener b = b == 80 || b == 88 || is_from 93 95 b

-- ---- the three characters of a mouse report

-- in mode 1005 they are in UTF-8, of two bytes from 128 on; otherwise a byte each
abbrev pub is_wide : Dialect → ℕ → Bool
is_wide Dialect.Utf8Input b = nat_le 128 b
is_wide _ b = false

-- so many characters are to come behind so many bytes; where it has begun, the first of two bytes of one has come
abbrev pub characters : Dialect → ℕ → Bool → ℕ → List ℕ → Form
characters d left begun n [] = if left == 0 then Form.Whole InputEvent.Mouse n else Form.Unsure
characters d left begun n (a ∷ bytes) =
    if left == 0 then Form.Whole InputEvent.Mouse n else
    if begun then
    (if is_from 128 191 a then characters d (left - 1) false (n + 1) bytes else Form.AsOutput) else
    if is_wide d a then
    (if is_from 194 223 a then characters d left true (n + 1) bytes else Form.AsOutput) else
    characters d (left - 1) false (n + 1) bytes

-- ---- the other forms

-- the character that ends what xterm sends for a cursor key (A to F and H) or for F1 to F4 (P to S)
abbrev pub is_key : ℕ → Bool
is_key b = is_from 65 70 b || (b == 72 || is_from 80 83 b)

-- 1 and more than the bits of what is held down, as a digit
abbrev pub is_modifier : ℕ → Bool
is_modifier b = is_from 50 57 b

-- behind `ESC O` and modifiers
abbrev pub modified : ℕ → List ℕ → Form
modified m [] = Form.Unsure
modified m (b ∷ bytes) = if is_key b then Form.Whole (InputEvent.Modified 1 (m - 48) b) 4 else Form.Whole (InputEvent.Ss3 m) 3

-- behind `ESC O 1`, behind the `;` there, and behind modifiers there
abbrev pub listed_key : ℕ → List ℕ → Form
listed_key m [] = Form.Unsure
listed_key m (b ∷ bytes) = if is_key b then Form.Whole (InputEvent.Modified 1 (m - 48) b) 6 else Form.Whole (InputEvent.Ss3 49) 3

abbrev pub listed_modifier : List ℕ → Form
listed_modifier [] = Form.Unsure
listed_modifier (m ∷ bytes) = if is_modifier m then listed_key m bytes else Form.Whole (InputEvent.Ss3 49) 3

abbrev pub listed : List ℕ → Form
listed [] = Form.Unsure
listed (b ∷ bytes) = if b == 59 then listed_modifier bytes else Form.Whole (InputEvent.Ss3 49) 3

abbrev pub ss3 : List ℕ → Form
ss3 [] = Form.Unsure
ss3 (b ∷ bytes) =
    if is_modifier b then modified b bytes else
    if b == 49 then listed bytes else
    if is_printable b then Form.Whole (InputEvent.Ss3 b) 3 else
    Form.Whole (InputEvent.Alt 79) 2

-- behind `ESC ESC [` and two digits, and behind one
abbrev pub alt_two : ℕ → ℕ → List ℕ → Form
alt_two a b [] = Form.Unsure
alt_two a b (c ∷ bytes) =
    if c == 126 then Form.Whole (InputEvent.Modified (10 * (a - 48) + (b - 48)) 3 126) 6 else Form.Whole InputEvent.Escape 1

abbrev pub alt_one : ℕ → List ℕ → Form
alt_one a [] = Form.Unsure
alt_one a (b ∷ bytes) =
    if b == 126 then Form.Whole (InputEvent.Modified (a - 48) 3 126) 5 else
    if is_digit b then alt_two a b bytes else
    Form.Whole InputEvent.Escape 1

-- behind `ESC ESC O`, and behind `ESC ESC [`
abbrev pub alt_ss3 : List ℕ → Form
alt_ss3 [] = Form.Unsure
alt_ss3 (b ∷ bytes) = if is_key b then Form.Whole (InputEvent.Modified 1 3 b) 4 else Form.Whole InputEvent.Escape 1

abbrev pub alt_csi : List ℕ → Form
alt_csi [] = Form.Unsure
alt_csi (b ∷ bytes) =
    if is_key b then Form.Whole (InputEvent.Modified 1 3 b) 4 else
    if is_digit b then alt_one b bytes else
    Form.Whole InputEvent.Escape 1

-- behind `ESC ESC`
abbrev pub doubled : List ℕ → Form
doubled [] = Form.Unsure
doubled (b ∷ bytes) =
    if b == 79 then alt_ss3 bytes else
    if b == 91 then alt_csi bytes else
    Form.Whole InputEvent.Escape 1

-- a character behind ESC, of so many bytes by the first
abbrev pub alt_of : ℕ → Option ℕ → Form
alt_of n None = Form.Whole InputEvent.Escape 1
alt_of n (Some c) = Form.Whole (InputEvent.Alt c) (1 + n)

abbrev pub alt_char : ℕ → List ℕ → Form
alt_char n bytes = if nat_lt (length bytes) n then Form.Unsure else alt_of n (decoded (take n bytes)).char

abbrev pub linux : List ℕ → Form
linux [] = Form.Unsure
linux (b ∷ bytes) = if is_printable b then Form.Whole (InputEvent.Linux b) 4 else Form.AsOutput

-- behind one digit and another byte
abbrev pub two_digits : ℕ → ℕ → List ℕ → Form
two_digits a b [] = if is_digit b then Form.Unsure else Form.AsOutput
two_digits a b (c ∷ bytes) =
    if is_digit b && c == 36 then Form.Whole (InputEvent.Rxvt (10 * (a - 48) + (b - 48))) 5 else
    Form.AsOutput

abbrev pub rxvt : ℕ → List ℕ → Form
rxvt a [] = Form.Unsure
rxvt a (b ∷ bytes) = if b == 36 then Form.Whole (InputEvent.Rxvt (a - 48)) 4 else two_digits a b bytes

-- behind ESC and `[`
abbrev pub csi : Dialect → List ℕ → Form
csi d [] = Form.Unsure
csi d (b ∷ bytes) =
    if b == 91 then linux bytes else
    if b == 77 then characters d 3 false 3 bytes else
    if b == 73 then Form.Whole InputEvent.FocusGained 3 else
    if is_digit b then rxvt b bytes else
    Form.AsOutput

abbrev pub string : List ℕ → Form
string [] = Form.Unsure
string (b ∷ bytes) = Form.AsOutput

-- where a string is open `\` closes it, and ESC goes on as output has it; all else begins anew
abbrev pub goes_on : Mode → ℕ → Bool
goes_on Mode.Osc b = b == 92 || b == 27
goes_on Mode.Dcs b = b == 92 || b == 27
goes_on Mode.Str b = b == 92 || b == 27
goes_on _ b = false

-- behind ESC
abbrev pub escape : Dialect → Mode → List ℕ → Form
escape d m [] = Form.Unsure
escape d m (b ∷ bytes) =
    if goes_on m b then Form.AsOutput else
    if b == 79 then ss3 bytes else
    if b == 91 then csi d bytes else
    if is_opener b then string bytes else
    if b == 27 then doubled bytes else
    alt_char (lead_len b) (b ∷ bytes)

-- ---- what stands in front

abbrev pub in_input : Dialect → Mode → List ℕ → Form
in_input d m [] = Form.Unsure
in_input d m (b ∷ bytes) = if b == 27 then escape d m bytes else Form.AsOutput

-- of a stream, of whose control sequence in front so many bytes were looked at
abbrev pub ahead : Dialect → Mode → ℕ → List ℕ → Form
ahead Dialect.Output m looked bytes = Form.AsOutput
ahead d m looked bytes = if looked == 0 then in_input d m bytes else Form.AsOutput

-- Where the caller says that no more comes for now: behind ESC, another ESC or what begins a character leaves a lone ESC, `O` and a character are
-- SS3 and that, and one byte of ASCII is a key with alt. All else goes on waiting.
abbrev pub paused_behind : ℕ → List ℕ → Form
paused_behind b [] = if b == 27 || nat_le 128 b then Form.Whole InputEvent.Escape 1 else Form.Whole (InputEvent.Alt b) 2
paused_behind b (c ∷ bytes) =
    if b == 27 || nat_le 128 b then Form.Whole InputEvent.Escape 1 else
    if b == 79 && is_printable c then Form.Whole (InputEvent.Ss3 c) 3 else
    Form.Unsure

abbrev pub paused : List ℕ → Form
paused [] = Form.Unsure
paused (a ∷ []) = if a == 27 then Form.Whole InputEvent.Escape 1 else Form.Unsure
paused (a ∷ b ∷ bytes) = if a == 27 then paused_behind b bytes else Form.Unsure

-- ---- the events

-- The event of these bytes, and the bytes behind it.
abbrev pub IsSentBy : Form → Events → List ℕ → InputEvent → List ℕ → List ℕ → List CsiParam → Events
    → Type 0
IsSentBy (Form.Whole i n) e bytes event text rest list after =
    (event ≡ i) × (text ≡ take n bytes) × (rest ≡ drop n bytes) × (after ≡ onward e Mode.Text 0)
IsSentBy Form.AsOutput e bytes event text rest list after =
    (told : Event) × (event ≡ InputEvent.Output told) × IsTold told e bytes text rest list after
IsSentBy Form.Unsure e bytes event text rest list after = ⊥

abbrev pub IsSent : Dialect → Events → List ℕ → InputEvent → List ℕ → List ℕ → List CsiParam
    → Events → Type 0
IsSent d e bytes event text rest list after =
    IsSentBy (ahead d e.mode e.looked bytes) e bytes event text rest list after

-- Nothing is told before more bytes come.
abbrev pub AwaitsBy : Form → Events → List ℕ → Events → Type 0
AwaitsBy (Form.Whole i n) e bytes after = ⊥
AwaitsBy Form.AsOutput e bytes after = Waits e bytes after
AwaitsBy Form.Unsure e bytes after = after ≡ e

abbrev pub Awaits : Dialect → Events → List ℕ → Events → Type 0
Awaits d e bytes after = AwaitsBy (ahead d e.mode e.looked bytes) e bytes after

-- It is told: what stands there needs no more bytes.
abbrev pub IsSure : Form → Type 0
IsSure (Form.Whole i n) = Unit {0}
IsSure Form.AsOutput = Unit {0}
IsSure Form.Unsure = ⊥

-- ---- a stream

abbrev pub bytes_of : Sent → List ℕ
bytes_of sent = sent.bytes.now

-- events one after the other, each in front of what those before it left
abbrev pub AreSent : Dialect → Events → List ℕ → List Sent → List ℕ → Events → Type 0
AreSent d e bytes [] rest after = (rest ≡ bytes) × (after ≡ e)
AreSent d e bytes (t ∷ sent) rest after =
    (list : List CsiParam) × (mid : Events)
    × IsSent d e bytes t.event t.bytes.now t.rest.now list mid
    × AreSent d mid t.rest.now sent rest after

-- A stream that comes chunk by chunk: events are told of each with what the ones before it left, until it waits, and what is left
-- is passed on.
abbrev pub InputChunks : Dialect → Events → List ℕ → List (List ℕ) → List Sent → List ℕ → Events
    → Type 0
InputChunks d e held [] sent rest after = (sent ≡ []) × (rest ≡ held) × (after ≡ e)
InputChunks d e held (chunk ∷ chunks) sent rest after =
    (now : List Sent) × (later : List Sent) × (kept : List ℕ) × (mid : Events) × (waiting : Events)
    × (sent ≡ now ++ later) × AreSent d e (held ++ chunk) now kept mid × Awaits d mid kept waiting
    × InputChunks d waiting kept chunks later rest after
