-- Rows over the fields of a list: a row is a field for each slot, and what is made of their numbers. Fields behind the row are ignored.
use Prim.Native.Char.{Char, code}
use Rattle.std.specs.{Prelude.not, Prelude.option_map, Prelude.◌==◌, Prelude.◌&&◌, Prelude.◌∷◌, Prelude.if◌then◌else◌, Option.is_some}
use Rattle.csicodec_actions.specs.Common.{ℕ, ℤ, Bool, true, false, List, [], Option, Some, None, option_and_then, is_number, CsiParam, Integer, P, fields_of}
use Rattle.csicodec_actions.specs.{Kinds.Kind, Kinds.Value, Kinds.read, Rows.first_of}

-- ---- fields

-- the first field, and those behind it; a field that is missing is an empty one
abbrev pub first : List (Option ℤ) → Option ℤ
first [] = None
first (f ∷ fs) = f

abbrev pub behind : List (Option ℤ) → List (Option ℤ)
behind [] = []
behind (f ∷ fs) = fs

-- a field stands there, be it an empty one
abbrev pub is_there : List (Option ℤ) → Bool
is_there [] = false
is_there (f ∷ fs) = true

-- the numbers of fields, of which empty ones have none
abbrev pub numbers : List (Option ℤ) → List ℤ
numbers [] = []
numbers (None ∷ fs) = numbers fs
numbers (Some z ∷ fs) = z ∷ numbers fs

-- ---- slots

-- A slot for one field: this number; no number; not there, and so none behind it; a number or none; the same, but it has to stand there; a
-- number that counts as a value of this kind; such a number, or this value for none; the numbers of this field and of all behind it.
pub data Slot : Type 0 where
  This : ℕ → Slot
  Empty : Slot
  End : Slot
  Maybe : Slot
  There : Slot
  Must : Kind → Slot
  Or : (k : Kind) → Value k → Slot
  Rest : Slot

-- what is made of the numbers, one after the other
abbrev pub Makes : Type 0 → List Slot → Type 0
Makes R [] = R
Makes R (Maybe ∷ row) = Option ℤ → Makes R row
Makes R (There ∷ row) = Option ℤ → Makes R row
Makes R (Must k ∷ row) = Value k → Makes R row
Makes R (Or k missing ∷ row) = Value k → Makes R row
Makes R (Rest ∷ row) = List ℤ → Makes R row
Makes R (s ∷ row) = Makes R row

-- the field is this number
abbrev pub is_this : ℕ → Option ℤ → Bool
is_this n None = false
is_this n (Some z) = is_number n z

-- the field at the front is one that the slot allows
abbrev pub fits : Slot → List (Option ℤ) → Bool
fits (This n) fs = is_this n (first fs)
fits Empty fs = not (is_some (first fs))
fits End fs = not (is_there fs)
fits There fs = is_there fs
fits (Must k) fs = is_some (first fs)
fits _ fs = true

-- the fields have this shape: one for each slot
abbrev pub have_shape : List Slot → List (Option ℤ) → Bool
have_shape [] fs = true
have_shape (s ∷ row) fs = fits s fs && have_shape row (behind fs)

-- what a field counts as, which is this value where it is missing
abbrev pub value_or : (k : Kind) → Value k → Option ℤ → Option (Value k)
value_or k missing None = Some missing
value_or k missing (Some z) = read k z

-- what is made of fields of this shape; nothing where a number counts as no value of its kind
abbrev pub made : {R : Type 0} → (row : List Slot) → Makes R row → List (Option ℤ) → Option R
made [] all fs = Some all
made (Maybe ∷ row) make fs = made row (make (first fs)) (behind fs)
made (There ∷ row) make fs = made row (make (first fs)) (behind fs)
made (Must k ∷ row) make fs =
    option_and_then (λ v. made row (make v) (behind fs)) (option_and_then (read k) (first fs))
made (Or k missing ∷ row) make fs =
    option_and_then (λ v. made row (make v) (behind fs)) (value_or k missing (first fs))
made (Rest ∷ row) make fs = made row (make (numbers fs)) (behind fs)
made (s ∷ row) make fs = made row make (behind fs)

-- ---- rows

pub record FieldRow (R : Type 0) : Type 0 where
  pub slots : List Slot
  pub make : Makes R slots

abbrev pub field_row : {R : Type 0} → (slots : List Slot) → Makes R slots → FieldRow R
field_row slots make = record { slots = slots; make = make }

abbrev pub gives : {R : Type 0} → FieldRow R → List (Option ℤ) → Option R
gives r fs = if have_shape r.slots fs then made r.slots r.make fs else None

-- what the row gives that gives something; no two rows do
abbrev pub given : {R : Type 0} → List (FieldRow R) → List (Option ℤ) → Option R
given rows fs = first_of (λ r. gives r fs) rows

-- ---- the rows before a final character

-- no byte, or this one
abbrev pub no_byte : Option ℕ
no_byte = None

abbrev pub byte : Char → Option ℕ
byte c = Some (code c)

-- what stands behind the byte at the front
abbrev pub behind_byte : Option ℕ → List CsiParam → Option (List CsiParam)
behind_byte None list = Some list
behind_byte (Some b) [] = None
behind_byte (Some b) (Integer z ∷ ts) = None
behind_byte (Some b) (P c ∷ ts) = if c == b then Some ts else None

-- what stands ahead of the byte at the end
abbrev pub ahead_of_byte : Option ℕ → List CsiParam → Option (List CsiParam)
ahead_of_byte None list = Some list
ahead_of_byte (Some b) [] = None
ahead_of_byte (Some b) (Integer z ∷ []) = None
ahead_of_byte (Some b) (P c ∷ []) = if c == b then Some [] else None
ahead_of_byte (Some b) (t ∷ u ∷ ts) = option_map (λ l. t ∷ l) (ahead_of_byte (Some b) (u ∷ ts))

-- the byte ahead of the fields, the byte behind them, the final character, and the rows
pub record Over (R : Type 0) : Type 0 where
  pub ahead : Option ℕ
  pub end : Option ℕ
  pub final : ℕ
  pub rows : List (FieldRow R)

abbrev pub over : {R : Type 0} → Option ℕ → Option ℕ → Char → List (FieldRow R) → Over R
over ahead end final rows = record { ahead = ahead; end = end; final = code final; rows = rows }

-- the fields of a list, without these bytes
abbrev pub fields_over : {R : Type 0} → Over R → List CsiParam → Option (List (Option ℤ))
fields_over o list =
    option_and_then fields_of (option_and_then (ahead_of_byte o.end) (behind_byte o.ahead list))

abbrev pub read_over : {R : Type 0} → Over R → List CsiParam → Option R
read_over o list = option_and_then (given o.rows) (fields_over o list)

-- what is read by these entries
abbrev pub read_fields : {R : Type 0} → List (Over R) → List CsiParam → ℕ → Option R
read_fields entries list final =
    first_of (λ o. if final == o.final then read_over o list else None) entries
