-- Win32-input-mode (Microsoft, specification 4999 of Terminal, Improved keyboard handling in Conpty): a KEY_EVENT_RECORD as
--
--   CSI Vk ; Sc ; Uc ; Kd ; Cs ; Rc _
--
-- the virtual key, its scan code, the unit of UTF-16 that it types, 0 where it goes up, the state of the modifiers, and how often.
-- A number that is left out is 0. The scan code and how often are passed over, and written as 0 and 1.
use Rattle.std.specs.Prelude.{ℕ, pos, ◌+◌, ◌-◌, ◌*◌, ◌/◌, ◌%◌, ◌==◌, ◌&&◌, nat_le, nat_lt, not, Bool, List, [], ◌∷◌, Option, Some, None, if◌then◌else◌, option_and_then}
use Rattle.std.specs.Option.{option_map, option_or}
use Rattle.csicodec_tokens.specs.{declared.param.CsiParam.CsiParam, declared.param.CsiParam.TheVariants.Integer, declared.param.CsiParam.TheVariants.P}
use Rattle.csicodec_keys.specs.{declared.code.KeyCode.KeyCode, declared.key.KeyEvent.KeyEvent, declared.tables.Row.Row, declared.win32.Record.Record}
use Rattle.csicodec_keys.specs.{Characters.is_typed, Fields.number_of, Keys.Stroke, Keys.is_release, Rows.row_at, Rows.row_of, Tables.rows}
use Rattle.csicodec_keys.specs.{declared.rows.Table.Table}

-- ---- reading

-- behind a number
abbrev pub behind_number : List CsiParam → Option (List CsiParam)
behind_number [] = Some []
behind_number (Integer z ∷ ts) = None
behind_number (P b ∷ ts) = if b == 59 then Some ts else None

-- the number in front, and what is behind its `;`
abbrev pub number_ahead : List CsiParam → Option (ℕ × List CsiParam)
number_ahead [] = Some (0, [])
number_ahead (P b ∷ ts) = if b == 59 then Some (0, ts) else None
number_ahead (Integer z ∷ ts) =
    option_and_then (λ n. option_map (λ rest. (n, rest)) (behind_number ts)) (number_of z)

-- the virtual key, what it types, whether it goes down, and the state
abbrev pub read_record : List CsiParam → Option Record
read_record list =
    option_and_then
    (λ a. option_and_then
    (λ b. option_and_then
    (λ c. option_and_then
    (λ d. option_map (λ e. record { vk = a.0; uc = c.0; kd = d.0; cs = e.0 })
    (number_ahead d.1)) (number_ahead c.1)) (number_ahead b.1)) (number_ahead a.1))
    (number_ahead list)

abbrev pub bit : Bool → ℕ → ℕ
bit is n = if is then n else 0

-- SHIFT_PRESSED is 0x10; LEFT_ALT_PRESSED 2, the right one 1; LEFT_CTRL_PRESSED 8, the right one 4; CAPSLOCK_ON 0x80; NUMLOCK_ON 0x20
abbrev pub held_in : ℕ → ℕ
held_in cs =
    bit (cs / 16 % 2 == 1) 1
    + (bit (not (cs % 4 == 0)) 2
    + (bit (not (cs / 4 % 4 == 0)) 4 + (bit (cs / 128 % 2 == 1) 64 + bit (cs / 32 % 2 == 1) 128)))

-- ENHANCED_KEY, 0x100: not the one of the keypad, or the right one of two
abbrev pub is_enhanced : ℕ → Bool
is_enhanced cs = cs / 256 % 2 == 1

-- the character of a unit, if it is one that is typed
abbrev pub typed_unit : ℕ → Option ℕ
typed_unit uc = if is_typed uc then Some uc else None

abbrev pub unit_text : Option ℕ → List ℕ
unit_text None = []
unit_text (Some c) = c ∷ []

-- the row of an enhanced key, or that of its virtual key alone
abbrev pub win32_row : ℕ → Bool → Option Row
win32_row vk enhanced =
    if nat_lt vk 256 then
    option_or (if enhanced then row_at (rows Table.Win32) (vk + 256) 95 else None) (row_at (rows Table.Win32) vk 95)
    else None

-- a key that has no row is the one of its character
abbrev pub win32_code : Option Row → Option ℕ → Option KeyCode
win32_code (Some r) c = Some r.code
win32_code None c = option_map (λ x. KeyCode.Char x) c

abbrev pub went : ℕ → KeyEvent
went kd = if kd == 0 then KeyEvent.Release else KeyEvent.Press

abbrev pub typed_key : ℕ → ℕ → Option ℕ → KeyCode → Stroke
typed_key cs kd c k = record { code = k; held = held_in cs; event = went kd; text = unit_text c }

abbrev pub win32_key : Record → Option Stroke
win32_key r =
    option_map (typed_key r.cs r.kd (typed_unit r.uc))
    (win32_code (win32_row r.vk (is_enhanced r.cs)) (typed_unit r.uc))

abbrev pub read_win32 : List CsiParam → ℕ → Option Stroke
read_win32 list control =
    if control == 95 then option_and_then win32_key (read_record list) else None

-- ---- writing

-- the state of these modifiers, of the keys on the left
abbrev pub state_of : ℕ → ℕ
state_of held =
    16 * (held % 2)
    + (2 * (held / 2 % 2) + (8 * (held / 4 % 2) + (128 * (held / 64 % 2) + 32 * (held / 128 % 2))))

-- ctrl takes 96 off a small letter
abbrev pub ctrl_unit : ℕ → ℕ → ℕ
ctrl_unit c held = if (held / 4 % 2 == 1) && nat_le 97 c && nat_le c 122 then c - 96 else 0

-- the control that a key types
abbrev pub control_unit : KeyCode → ℕ → ℕ
control_unit KeyCode.Enter held = 13
control_unit KeyCode.KeypadEnter held = 13
control_unit KeyCode.Escape held = 27
control_unit KeyCode.Tab held = 9
control_unit KeyCode.Backspace held = 8
control_unit (KeyCode.Char c) held = ctrl_unit c held
control_unit _ held = 0

-- what a key types, if it is at most one unit
abbrev pub unit_of : KeyCode → ℕ → List ℕ → Option ℕ
unit_of k held [] = Some (control_unit k held)
unit_of k held (c ∷ []) = if is_typed c && nat_lt c 65536 then Some c else None
unit_of k held (c ∷ d ∷ cs) = None

-- a character that has no row is virtual key 0, where the key types it and nothing else
abbrev pub char_record : KeyCode → ℕ → ℕ → List ℕ → Option Record
char_record (KeyCode.Char c) kd cs (d ∷ []) =
    if (c == d) && is_typed c && nat_lt c 65536 then
    Some (record { vk = 0; uc = c; kd = kd; cs = cs })
    else None
char_record k kd cs text = None

-- the record of a row: an enhanced key has 256 more in the table
abbrev pub row_record : ℕ → ℕ → ℕ → ℕ → Record
row_record number kd cs uc =
    record { vk = number % 256; uc = uc; kd = kd; cs = cs + 256 * (number / 256 % 2) }

abbrev pub key_record : Option Row → Stroke → ℕ → Option Record
key_record (Some r) s kd =
    option_map (row_record r.number kd (state_of s.held)) (unit_of s.code s.held s.text)
key_record None s kd = char_record s.code kd (state_of s.held) s.text

abbrev pub down_of : KeyEvent → ℕ
down_of e = if is_release e then 0 else 1

-- nothing is said of super, hyper and meta
abbrev pub record_of : Stroke → Option Record
record_of s =
    if s.held / 8 % 8 == 0 then
    key_record (row_of (rows Table.Win32) s.code 0) s (down_of s.event)
    else None

abbrev pub record_list : Record → List CsiParam
record_list r =
    Integer (pos r.vk) ∷ P 59 ∷ Integer (pos 0) ∷ P 59 ∷ Integer (pos r.uc) ∷ P 59
    ∷ Integer (pos r.kd) ∷ P 59 ∷ Integer (pos r.cs) ∷ P 59 ∷ Integer (pos 1) ∷ []
