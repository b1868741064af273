-- The forms in which a key stands in a stream: how each is read, what is written of a key in an encoding, and its bytes.
use Rattle.std.specs.Prelude.{ℕ, pos, ◌-◌, ◌+◌, ◌%◌, ◌==◌, ◌&&◌, ◌||◌, nat_le, nat_lt, not, Bool, is_none, List, [], ◌∷◌, ◌++◌, Option, Some, None, if◌then◌else◌, option_and_then, encode_utf8}
use Rattle.std.specs.{List.list_all, Option.is_some, Option.option_map, Option.option_or}
use Rattle.csicodec_tokens.specs.{declared.param.CsiParam.CsiParam, declared.param.CsiParam.TheVariants.Integer, declared.param.CsiParam.TheVariants.P}
use Rattle.csicodec_tokens.specs.{Param.spells}
use Rattle.csicodec_events.specs.{declared.input.InputEvent.InputEvent, declared.event.Event.Event}
use Rattle.csicodec_keys.specs.{declared.code.KeyCode.KeyCode, declared.key.Encoding.Encoding, declared.key.KeyEvent.KeyEvent, declared.tables.Row.Row}
use Rattle.csicodec_keys.specs.{Win32.down_of, Win32.read_win32, Win32.record_list, Win32.record_of, Win32.went, declared.writing.KeySpelling.KeySpelling}
use Rattle.csicodec_keys.specs.{Characters.is_alt, Characters.is_typed, Fields.Says, Fields.is_empty, Fields.read_list, Fields.written_list, Keys.Stroke}
use Rattle.csicodec_keys.specs.{Keys.is_press, Keys.is_release, Rows.row_at, Rows.row_of, declared.rows.Table.Table, Tables.rows}

-- a press of a key that types nothing
abbrev pub pressed : KeyCode → ℕ → Stroke
pressed k held = record { code = k; held = held; event = KeyEvent.Press; text = [] }

abbrev pub pressed_row : Row → Stroke
pressed_row r = pressed r.code r.held

-- a press of a key that types this character
abbrev pub typing : ℕ → Stroke
typing c = record { code = KeyCode.Char c; held = 0; event = KeyEvent.Press; text = c ∷ [] }

-- with alt
abbrev pub with_alt : ℕ → ℕ
with_alt held = if nat_lt held 128 then held + 2 else held

-- ---- reading

-- a character of text, or a control
abbrev pub read_char : ℕ → Option Stroke
read_char c = if is_typed c then Some (typing c) else option_map pressed_row (row_at (rows Table.Control) 0 c)

-- a character behind ESC
abbrev pub read_alt : ℕ → Option Stroke
read_alt c =
    if is_typed c then Some (pressed (KeyCode.Char c) 2)
    else option_map (λ (r : Row). pressed r.code (with_alt r.held)) (row_at (rows Table.Control) 0 c)

-- a character behind SS3
abbrev pub read_ss3 : ℕ → Option Stroke
read_ss3 c =
    option_map pressed_row
    (option_or (row_at (rows Table.Ss3) 0 c) (option_or (row_at (rows Table.Ss3Cursor) 0 c) (row_at (rows Table.RxvtSs3) 0 c)))

-- the row of a number and a final character
abbrev pub csi_row : ℕ → ℕ → Option Row
csi_row number control =
    option_or (row_at (rows Table.Kitty) number control)
    (option_or (row_at (rows Table.Csi) number control) (row_at (rows Table.Rxvt) number control))

-- modifiers stand in the form or in the list
abbrev pub held_by : ℕ → ℕ → Option ℕ
held_by row list = if row == 0 then Some list else if list == 0 then Some row else None

-- this key, with what a list says
abbrev pub saying : Says → KeyCode → ℕ → Stroke
saying says k held = record { code = k; held = held; event = says.event; text = says.text }

abbrev pub row_key : Says → Row → Option Stroke
row_key says r = option_map (saying says r.code) (held_by r.held says.held)

-- a number that no row has is a character, before `u`
abbrev pub char_key : Says → ℕ → Option Stroke
char_key says control =
    if (control == 117) && is_typed says.number then
    Some (saying says (KeyCode.Char says.number) says.held)
    else None

abbrev pub key_by : Says → ℕ → Option Row → Option Stroke
key_by says control None = char_key says control
key_by says control (Some r) = row_key says r

abbrev pub said_key : Says → ℕ → Option Stroke
said_key says control = key_by says control (csi_row says.number control)

-- the key of a number
abbrev pub numbered : ℕ → Option KeyCode
numbered n =
    option_or (option_map (λ (r : Row). r.code) (row_at (rows Table.Other) n 126))
    (if is_typed n then Some (KeyCode.Char n) else None)

-- 27 before `~`, and the number of a character in the place of a text (modifyOtherKeys)
abbrev pub other_key : Says → ℕ → List ℕ → Option Stroke
other_key says control [] = None
other_key says control (n ∷ []) =
    if (control == 126) && (says.number == 27) then
    option_map (λ k. record { code = k; held = says.held; event = says.event; text = [] })
    (numbered n)
    else None
other_key says control (n ∷ m ∷ ns) = None

-- `^`, `@` and `a` to `d`, which only rxvt uses for keys
abbrev pub is_rxvt : ℕ → Bool
is_rxvt c = (c == 64) || (c == 94) || (nat_le 97 c && nat_le c 100)

-- xterm says no event and no text; with `u` it writes as kitty does (formatOtherKeys)
abbrev pub told_by : Says → ℕ → Encoding
told_by says control =
    if is_rxvt control then Encoding.Rxvt else
    if (control == 117) || not (is_press says.event && is_empty says.text) then Encoding.Kitty else
    Encoding.Legacy

abbrev pub ss3_by : ℕ → Encoding
ss3_by c = if is_rxvt c then Encoding.Rxvt else Encoding.Legacy

abbrev pub by : Encoding → Option Stroke → Option (Encoding × Stroke)
by e key = option_map (λ k. (e, k)) key

abbrev pub read_listed : List CsiParam → ℕ → Option (Encoding × Stroke)
read_listed list control =
    option_and_then
    (λ says. option_or (by (told_by says control) (said_key says control))
    (by Encoding.ModifyOtherKeys (other_key says control says.text))) (read_list list)

abbrev pub read_csi : List CsiParam → ℕ → Option (Encoding × Stroke)
read_csi list control =
    option_or (read_listed list control) (by Encoding.Win32 (read_win32 list control))

-- the key of a number, of modifiers by 1 and more than their bits, and of a final character
abbrev pub read_modified : ℕ → ℕ → ℕ → Option Stroke
read_modified n m control = said_key (record { number = n; held = m - 1; event = KeyEvent.Press; text = [] }) control

-- the key of an event; that of text is by its characters
abbrev pub read_event : InputEvent → List CsiParam → Option (Encoding × Stroke)
read_event (InputEvent.Output (Event.Csi control)) list = read_csi list control
read_event (InputEvent.Output (Event.Control b)) list = by Encoding.Legacy (read_char b)
read_event (InputEvent.Ss3 b) list = by (ss3_by b) (read_ss3 b)
read_event (InputEvent.Modified n m control) list = by Encoding.Legacy (read_modified n m control)
read_event (InputEvent.Linux b) list = by Encoding.Linux (option_map pressed_row (row_at (rows Table.Linux) 0 b))
read_event (InputEvent.Rxvt n) list = by Encoding.Rxvt (option_map pressed_row (row_at (rows Table.Rxvt) n 36))
read_event (InputEvent.Alt b) list = by Encoding.Legacy (read_alt b)
read_event InputEvent.Escape list = by Encoding.Legacy (Some (pressed KeyCode.Escape 0))
read_event _ list = None

-- ---- what is written

-- how a row of a table stands in a stream, with nothing said beside it; rxvt's `$` is no final character
abbrev pub as_form : Table → Row → KeySpelling
as_form Table.Control r = KeySpelling.Text r.control
as_form Table.Linux r = KeySpelling.Linux r.control
as_form Table.Rxvt r = if r.control == 36 then KeySpelling.Rxvt r.number else KeySpelling.Csi r.number 0 r.control
as_form Table.Csi r = KeySpelling.Csi r.number 0 r.control
as_form _ r = KeySpelling.Ss3 r.control

-- the form of a key that has a row there, with what is held down
abbrev pub row_form : Table → KeyCode → ℕ → Option KeySpelling
row_form t k held = option_map (as_form t) (row_of (rows t) k held)

-- a control behind ESC, where alt is held down too
abbrev pub alt_control : KeyCode → ℕ → Option KeySpelling
alt_control k held =
    if nat_lt held 2 then None
    else option_map (λ (r : Row). KeySpelling.Alt r.control) (row_of (rows Table.Control) k (held - 2))

-- what a key of a character types: what it says, if that is one character, or the character itself where shift isn't held down
abbrev pub text_of : ℕ → ℕ → List ℕ → Option ℕ
text_of c held [] = if held == 0 then Some c else None
text_of c held (d ∷ []) = Some d
text_of c held (d ∷ e ∷ ds) = None

abbrev pub text_form : Option ℕ → Option KeySpelling
text_form None = None
text_form (Some d) = if is_typed d then Some (KeySpelling.Text d) else None

abbrev pub char_form : KeyCode → ℕ → List ℕ → Option KeySpelling
char_form (KeyCode.Char c) held text =
    if nat_lt held 2 then text_form (text_of c held text) else
    if (held == 2) && is_alt c then Some (KeySpelling.Alt c) else None
char_form KeyCode.Escape held text = if held == 0 then Some KeySpelling.Escape else None
char_form _ held text = None

-- a row whose modifiers are its own, or one with modifiers in its list
abbrev pub csi_form : KeyCode → ℕ → Option KeySpelling
csi_form k held = option_or (row_form Table.Csi k held)
    (option_map (λ (r : Row). KeySpelling.Csi r.number held r.control) (row_of (rows Table.Csi) k 0))

abbrev pub legacy_form : Stroke → ℕ → Option KeySpelling
legacy_form s held =
    option_or (row_form Table.Control s.code held)
    (option_or (alt_control s.code held)
    (option_or (row_form Table.Ss3 s.code held)
    (option_or (char_form s.code held s.text) (csi_form s.code held))))

-- shift, alt and ctrl, of which xterm's encoding knows; the locks aren't said, and a key with others held down has no form
abbrev pub xterm_held : ℕ → Option ℕ
xterm_held held = if nat_lt (held % 64) 8 then Some (held % 8) else None

-- a character that no row has, before `u`
abbrev pub kitty_char : Stroke → KeyCode → Option KeySpelling
kitty_char s (KeyCode.Char c) =
    if is_typed c && is_none (csi_row c 117) then Some (KeySpelling.Typed c s.held s.event 117) else None
kitty_char s _ = None

abbrev pub kitty_row : Stroke → Row → KeySpelling
kitty_row s r = KeySpelling.Typed r.number s.held s.event r.control

-- a character that no row has
abbrev pub char_number : KeyCode → Option ℕ
char_number (KeyCode.Char c) = if is_typed c && is_none (row_at (rows Table.Other) c 126) then Some c else None
char_number _ = None

-- the number of a key, or of its character
abbrev pub other_number : KeyCode → Option ℕ
other_number k =
    option_or (option_map (λ (r : Row). r.number) (row_of (rows Table.Other) k 0)) (char_number k)

abbrev pub other_form : KeyCode → ℕ → Option KeySpelling
other_form k held =
    if held == 0 then None else option_map (λ n. KeySpelling.Other n held) (other_number k)

abbrev pub rxvt_form : KeyCode → ℕ → Option KeySpelling
rxvt_form k held = option_or (row_form Table.Rxvt k held) (row_form Table.RxvtSs3 k held)

-- what is said of a press and of a repeat alone
abbrev pub but_release : KeyEvent → Option KeySpelling → Option KeySpelling
but_release e f = if is_release e then None else f

-- by what xterm's encoding says of modifiers
abbrev pub xterm_form : Stroke → (ℕ → Option KeySpelling) → Option KeySpelling
xterm_form s made = but_release s.event (option_and_then made (xterm_held s.held))

-- the form of a key in an encoding
abbrev pub form_of : Encoding → Stroke → Option KeySpelling
form_of Encoding.Legacy s = xterm_form s (legacy_form s)
form_of Encoding.ModifyOtherKeys s = xterm_form s (other_form s.code)
form_of Encoding.Kitty s =
    option_or (option_map (kitty_row s) (row_of (rows Table.Kitty) s.code 0))
    (option_or (option_map (kitty_row s) (row_of (rows Table.Csi) s.code 0)) (kitty_char s s.code))
form_of Encoding.Win32 s = option_map (λ r. KeySpelling.Win32 r) (record_of s)
form_of Encoding.Rxvt s = xterm_form s (rxvt_form s.code)
form_of Encoding.Linux s = xterm_form s (row_form Table.Linux s.code)

-- each key of a table has a form in the encoding, with what its row says is held down, or with this held down
abbrev pub are_written : Encoding → Table → Bool
are_written e t = list_all (λ (r : Row). is_some (form_of e (pressed_row r))) (rows t)

abbrev pub are_written_with : Encoding → ℕ → Table → Bool
are_written_with e held t = list_all (λ (r : Row). is_some (form_of e (pressed r.code held))) (rows t)

-- ---- a form as an event and as bytes; `text` is what the key types

abbrev pub key_alone : Option (Encoding × Stroke) → Option Stroke
key_alone read = option_map (λ r. r.1) read

abbrev pub event_of : KeySpelling → InputEvent
event_of (KeySpelling.Text c) = InputEvent.Output Event.Text
event_of (KeySpelling.Alt c) = InputEvent.Alt c
event_of (KeySpelling.Ss3 c) = InputEvent.Ss3 c
event_of (KeySpelling.Linux c) = InputEvent.Linux c
event_of (KeySpelling.Rxvt n) = InputEvent.Rxvt n
event_of KeySpelling.Escape = InputEvent.Escape
event_of (KeySpelling.Csi n held control) = InputEvent.Output (Event.Csi control)
event_of (KeySpelling.Other n held) = InputEvent.Output (Event.Csi 126)
event_of (KeySpelling.Typed n held e control) = InputEvent.Output (Event.Csi control)
event_of (KeySpelling.Win32 r) = InputEvent.Output (Event.Csi 95)

abbrev pub list_of : KeySpelling → List ℕ → List CsiParam
list_of (KeySpelling.Csi n held control) text = written_list n held KeyEvent.Press []
list_of (KeySpelling.Other n held) text = written_list 27 held KeyEvent.Press (n ∷ [])
list_of (KeySpelling.Typed n held e control) text = written_list n held e text
list_of (KeySpelling.Win32 r) text = record_list r
list_of _ text = []

-- the key that is read of a form, by its event and its list; that of text is by its character
abbrev pub read_form : KeySpelling → List ℕ → Option Stroke
read_form (KeySpelling.Text c) text = read_char c
read_form f text = key_alone (read_event (event_of f) (list_of f text))

abbrev pub form_bytes : KeySpelling → List ℕ → List ℕ
form_bytes (KeySpelling.Text c) text = encode_utf8 c
form_bytes (KeySpelling.Alt c) text = 27 ∷ encode_utf8 c
form_bytes (KeySpelling.Ss3 c) text = 27 ∷ 79 ∷ encode_utf8 c
form_bytes (KeySpelling.Linux c) text = 27 ∷ 91 ∷ 91 ∷ encode_utf8 c
form_bytes (KeySpelling.Rxvt n) text = 27 ∷ 91 ∷ spells (Integer (pos n) ∷ P 36 ∷ [])
form_bytes KeySpelling.Escape text = 27 ∷ []
form_bytes (KeySpelling.Csi n held control) text =
    27 ∷ 91 ∷ (spells (written_list n held KeyEvent.Press []) ++ encode_utf8 control)
form_bytes (KeySpelling.Other n held) text =
    27 ∷ 91 ∷ (spells (written_list 27 held KeyEvent.Press (n ∷ [])) ++ encode_utf8 126)
form_bytes (KeySpelling.Typed n held e control) text =
    27 ∷ 91 ∷ (spells (written_list n held e text) ++ encode_utf8 control)
form_bytes (KeySpelling.Win32 r) text = 27 ∷ 91 ∷ (spells (record_list r) ++ encode_utf8 95)

-- ---- what an encoding can say

-- the character that xterm's encoding says of a key: what it types, alone
abbrev pub typed_or : ℕ → List ℕ → ℕ
typed_or c [] = c
typed_or c (d ∷ ds) = d

abbrev pub legacy_said : KeyCode → ℕ → List ℕ → Stroke
legacy_said (KeyCode.Char c) held text =
    if nat_lt held 2 then typing (typed_or c text) else pressed (KeyCode.Char c) held
legacy_said k held text = pressed k held

-- Of a key that it has a form for: kitty's says all, Win32's a repeat as a press; the others no event and no lock, and xterm's shift
-- and text only by the character that is typed.
abbrev pub said : Encoding → Stroke → Stroke
said Encoding.Legacy s = legacy_said s.code (s.held % 8) s.text
said Encoding.ModifyOtherKeys s = pressed s.code (s.held % 8)
said Encoding.Kitty s = s
said Encoding.Win32 s =
    record { code = s.code; held = s.held; event = went (down_of s.event); text = s.text }
said Encoding.Rxvt s = pressed s.code (s.held % 8)
said Encoding.Linux s = pressed s.code (s.held % 8)
