-- What the calls for the span at the front of a stream, and for an escape sequence, answer a C program.
use Rattle.std.specs.Prelude.{ℕ, ◌≡◌, ◌≢◌, ◌<◌, ◌++◌, List, Some, length}
use Rattle.csicodec_spans.specs.{declared.table.Kind.Kind, declared.table.Mode.Mode, Parts.Cuts, Parts.IsMaximal, Parts.IsUnsure}
use Rattle.csicodec_names.specs.{declared.esc_codes.EscCode.EscCode, Esc.esc_number, Esc.packed}
use Rattle.csicodec_structs.specs.{Status.status_number, declared.status.Status.Status}
use Rattle.csicodec_c.specs.{declared.span.Spanned.Spanned, Filter.IsBadState, Filter.mode_number}

abbrev pub kind_number : Kind → ℕ
kind_number Kind.Text = 0
kind_number Kind.Csi = 1
kind_number Kind.Esc = 2
kind_number Kind.Str = 3
kind_number Kind.Other = 4

abbrev pub refused : Status → Spanned
refused why = record { status = status_number why; kind = 0; mode = 0; used = 0 }

-- the span at the front, as the table of modes cuts it and as long as it can be, and the mode behind it
pub record IsDone (number limit : ℕ) (bytes : List ℕ) (answer : Spanned) : Type 0 where
  pub before : Mode
  pub after : Mode
  pub kind : Kind
  pub text : List ℕ
  pub rest : List ℕ
  pub began : number ≡ mode_number before
  pub tells : answer ≡ record { status = status_number Status.Done; kind = kind_number kind; mode = mode_number after; used = length text }
  pub some : 0 < length text
  pub parts : bytes ≡ text ++ rest
  pub cuts : Cuts limit before bytes kind text rest after
  pub maximal : IsMaximal kind after rest

-- or nothing is sure of it before more bytes come
pub record IsWaiting (number limit : ℕ) (bytes : List ℕ) (answer : Spanned) : Type 0 where
  pub before : Mode
  pub began : number ≡ mode_number before
  pub tells : answer ≡ refused Status.Truncated
  pub unsure : IsUnsure limit before bytes

-- or the state is none
abbrev pub IsRefused : ℕ → ℕ → Spanned → Type 0
IsRefused number limit answer = (answer ≡ refused Status.BadState) × IsBadState number limit

-- the number of the code that an intermediate byte, where 0 is none, and a final byte are; and 0 where no code is written so
pub record IsCode (intermediate final answer : ℕ) : Type 0 where
  pub code : (known : EscCode) → packed (Some intermediate) final ≡ esc_number known
      → answer ≡ esc_number known
  pub other : ((known : EscCode) → packed (Some intermediate) final ≢ esc_number known) → answer ≡ 0
