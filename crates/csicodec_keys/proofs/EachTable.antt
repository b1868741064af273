-- What is computed of the tables, and what is shown of each form that is written: it is in its ranges, and is read as what is said of the key.
use Rattle.std.proofs.Common.{◌≡◌, ℕ, List, Some, arith, Bool, true, not, ◌==◌, ◌&&◌, nat_lt, decimal, [], Option, None, refl, false, ◌/◌, ◌%◌}
use lib.Utf8.{low_scalar, scalar}
use Rattle.csicodec_events.specs.Input.{is_printable}
use Rattle.csicodec_keys.specs.{declared.win32.Record.Record, declared.writing.KeySpelling.KeySpelling, Characters.is_alt, Characters.is_typed, Keys.Stroke}
use Rattle.csicodec_keys.specs.{Forms.read_form, Forms.as_form, Forms.csi_row, Forms.with_alt, declared.code.KeyCode.KeyCode, declared.rows.Table.Table}
use Rattle.csicodec_keys.specs.{Tables.rows, declared.tables.Row.Row, SameKeys.same_code, Fields.is_plain, Rows.row_at, Win32.win32_row}
use Rattle.csicodec_keys.proofs.{Fronts.is_ss3, Fronts.is_end, Fronts.is_free, Fronts.is_shift, AnyTable.is_same}
use Rattle.std.specs.{Fmt.digits, List.list_all}

-- the numbers of a record
abbrev pub is_small : Record → Bool
is_small r = nat_lt r.vk 4294967296 && (nat_lt r.uc 4294967296 && (nat_lt r.kd 4294967296 && nat_lt r.cs 4294967296))

-- the number, the modifiers and the final character of a list
abbrev pub is_listed : ℕ → ℕ → ℕ → Bool
is_listed n held control = nat_lt n 4294967296 && (nat_lt held 256 && is_end control)

abbrev pub is_sound : KeySpelling → Bool
is_sound (KeySpelling.Text c) = scalar c && not (c == 27)
is_sound (KeySpelling.Alt c) = is_free c
is_sound (KeySpelling.Ss3 c) = is_ss3 c
is_sound (KeySpelling.Linux c) = is_printable c
is_sound (KeySpelling.Rxvt n) = is_shift (decimal n) n
is_sound KeySpelling.Escape = true
is_sound (KeySpelling.Csi n held control) = is_listed n held control
is_sound (KeySpelling.Other n held) = scalar n && nat_lt held 256
is_sound (KeySpelling.Typed n held e control) = is_listed n held control
is_sound (KeySpelling.Win32 r) = is_small r

-- of a key that types this text
pub record Fine (text : List ℕ) (s : Stroke) (f : KeySpelling) : Type 0 where
  pub read : read_form f text ≡ Some s
  pub sound : is_sound f ≡ true

pub typed-scalar : (c : ℕ) → is_typed c ≡ true → scalar c ≡ true
typed-scalar c h = grind arith

pub typed-text : (c : ℕ) → is_typed c ≡ true → (scalar c && not (c == 27)) ≡ true
typed-text c h = grind arith

pub alt-typed : (c : ℕ) → is_alt c ≡ true → is_typed c ≡ true
alt-typed c h = grind (arith, low_scalar)

pub alt-free : (c : ℕ) → is_alt c ≡ true → is_free c ≡ true
alt-free c h = grind arith

-- ---- What is computed of the tables.

-- ---- forms of which each is read as the key of its row

abbrev pub is_char : KeyCode → Bool
is_char (KeyCode.Char c) = true
is_char _ = false

-- no key of a character stands there without alt and ctrl
abbrev pub is_no_text : Row → Bool
is_no_text r = not (is_char r.code && nat_lt r.held 2)

-- a press of this key, which types nothing
abbrev pub is_pressed : KeyCode → ℕ → Option Stroke → Bool
is_pressed k held None = false
is_pressed k held (Some s) = same_code s.code k && ((s.held == held) && is_plain 0 s.event s.text)

-- it says nothing of what is typed
abbrev pub is_short : KeySpelling → Bool
is_short (KeySpelling.Typed n held e control) = false
is_short _ = true

abbrev pub is_key : KeyCode → ℕ → KeySpelling → Bool
is_key k held f = is_sound f && (is_short f && is_pressed k held (read_form f []))

abbrev pub comes_back : Table → Row → Bool
comes_back t r = is_no_text r && is_key r.code r.held (as_form t r)

-- the tables of which each row is a form with nothing said beside it
abbrev pub is_alone : Table → Bool
is_alone Table.Ss3Cursor = false
is_alone Table.Kitty = false
is_alone Table.Other = false
is_alone Table.Win32 = false
is_alone _ = true

pub all-back : (t : Table) → is_alone t ≡ true → list_all (comes_back t) (rows t) ≡ true
unfolding row_at rows digits
all-back t = elim t as (λ x. is_alone x ≡ true → list_all (comes_back x) (rows x) ≡ true) [
  | Table.Ss3Cursor ↦ λ h. cc
  | Table.Kitty ↦ λ h. cc
  | Table.Other ↦ λ h. cc
  | Table.Win32 ↦ λ h. cc
  | _ ↦ λ h. refl
]

-- behind ESC, with alt
abbrev pub alt_back : Row → Bool
alt_back r = is_key r.code (with_alt r.held) (KeySpelling.Alt r.control)

-- ---- numbers of which each is found

-- before its final character
abbrev pub is_read : Row → Bool
is_read r = nat_lt r.number 4294967296 && (is_end r.control && is_same (csi_row r.number r.control) r)

abbrev pub is_csi : Row → Bool
is_csi r = not (is_char r.code) && is_read r

-- a number that is a character
abbrev pub is_other : Row → Bool
is_other r = scalar r.number && is_same (row_at (rows Table.Other) r.number 126) r

abbrev pub is_win32 : Row → Bool
is_win32 r = is_same (win32_row (r.number % 256) (r.number / 256 % 2 == 1)) r

-- each row of these tables is read so
pub each-read : (list_all alt_back (rows Table.Control) ≡ true) × (list_all is_read (rows Table.Kitty) ≡ true) × (list_all is_csi (rows Table.Csi) ≡ true)
    × (list_all is_other (rows Table.Other) ≡ true) × (list_all is_win32 (rows Table.Win32) ≡ true)
unfolding row_at rows
each-read = (refl, refl, refl, refl, refl)
