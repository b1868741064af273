-- Rows of lists that are read whole: a row is the shape of a list, and what is made of the values in it.
use Prim.Native.Char.{Char, code}
use Rattle.csicodec_actions.specs.Common.{ℕ, Bool, true, false, List, [], Option, Some, None, option_and_then, flat_map, option_or, CsiParam, Integer, P, is_number}
use Rattle.csicodec_actions.specs.Kinds.{Kind, Count, Value, read}
use Rattle.std.specs.Prelude.{◌==◌, ◌&&◌, ◌∷◌, if◌then◌else◌}

-- what the first of these gives that gives something
abbrev pub first_of : {A R : Type 0} → (A → Option R) → List A → Option R
first_of give [] = None
first_of give (x ∷ xs) = option_or (give x) (first_of give xs)

-- one token of a shape: this byte, this number, or a number that counts as a value of this kind
pub data Slot : Type 0 where
  Byte : ℕ → Slot
  Number : ℕ → Slot
  One : Kind → Slot

abbrev pub mark : Char → Slot
mark c = Byte (code c)

-- what is made of the values of a shape, one after the other
abbrev pub Makes : Type 0 → List Slot → Type 0
Makes R [] = R
Makes R (One k ∷ shape) = Value k → Makes R shape
Makes R (s ∷ shape) = Makes R shape

-- the token is one that the slot allows
abbrev pub fits : Slot → CsiParam → Bool
fits (Byte b) (P c) = c == b
fits (Number n) (Integer z) = is_number n z
fits (One k) (Integer z) = true
fits _ _ = false

-- behind the slots of a row with a tail any tokens can stand, and behind those of another none
abbrev pub can_end : Bool → List CsiParam → Bool
can_end true list = true
can_end false [] = true
can_end false (t ∷ ts) = false

-- the list has this shape: a token for each slot, and then what can end it
abbrev pub has_shape : Bool → List Slot → List CsiParam → Bool
has_shape tail [] list = can_end tail list
has_shape tail (s ∷ shape) [] = false
has_shape tail (s ∷ shape) (t ∷ ts) = has_shape tail shape ts && fits s t

-- what is made at the end of a shape: of the tokens that are left, where it has a tail
abbrev pub AtEnd : Bool → Type 0 → Type 0
AtEnd true R = List CsiParam → R
AtEnd false R = R

abbrev pub ended : {R : Type 0} → (tail : Bool) → AtEnd tail R → List CsiParam → R
ended true make list = make list
ended false whole list = whole

-- what is made of a list of this shape; nothing where a number counts as no value of its kind
abbrev pub made : {R : Type 0} → (tail : Bool) (shape : List Slot) → Makes (AtEnd tail R) shape
    → List CsiParam → Option R
made tail [] end list = Some (ended tail end list)
made tail (s ∷ shape) make [] = None
made tail (One k ∷ shape) make (Integer z ∷ ts) =
    option_and_then (λ v. made tail shape (make v) ts) (read k z)
made tail (One k ∷ shape) make (P c ∷ ts) = None
made tail (s ∷ shape) make (t ∷ ts) = made tail shape make ts

pub record Row (R : Type 0) : Type 0 where
  pub tail : Bool
  pub shape : List Slot
  pub make : Makes (AtEnd tail R) shape

abbrev pub gives : {R : Type 0} → Row R → List CsiParam → Option R
gives r list = if has_shape r.tail r.shape list then made r.tail r.shape r.make list else None

-- these slots, and nothing else
abbrev pub row : {R : Type 0} → (shape : List Slot) → Makes R shape → Row R
row shape make = record { tail = false; shape = shape; make = make }

-- these slots, and then any tokens
abbrev pub open_row : {R : Type 0} → (shape : List Slot) → Makes (List CsiParam → R) shape → Row R
open_row shape make = record { tail = true; shape = shape; make = make }

-- what the row gives that gives something; no two rows of a final do
abbrev pub given : {R : Type 0} → List (Row R) → List CsiParam → Option R
given rows list = first_of (λ r. gives r list) rows

-- ---- rows that many finals have

-- a count, which is 1 where it is left out
abbrev pub counted : {R : Type 0} → (ℕ → R) → List (Row R)
counted make = row [] (make 1) ∷ row (One Count ∷ []) make ∷ []

-- a number of an enumeration, or nothing for this variant
abbrev pub chosen : {R : Type 0} → (k : Kind) → Value k → (Value k → R) → List (Row R)
chosen k missing make = row [] (make missing) ∷ row (One k ∷ []) make ∷ []

-- one half or both: the first is a count, 1 where it is left out, and this the second where it is left out
abbrev pub halves : {R : Type 0} → (second : Kind) → Value second → (ℕ → Value second → R)
    → List (Row R)
halves second missing make =
    row (One Count ∷ []) (λ a. make a missing)
    ∷ row (One Count ∷ mark ";" ∷ One second ∷ []) make
    ∷ row (mark ";" ∷ One second ∷ []) (λ b. make 1 b)
    ∷ []

-- two counts, both 1 where they are left out
abbrev pub paired : {R : Type 0} → (ℕ → ℕ → R) → List (Row R)
paired make = row [] (make 1 1) ∷ halves Count 1 make

-- ---- the rows before a final character

pub record Before (R : Type 0) : Type 0 where
  pub final : ℕ
  pub rows : List (Row R)

abbrev pub before : {R : Type 0} → Char → List (Row R) → Before R
before final rows = record { final = code final; rows = rows }

-- those of all entries with this final
abbrev pub rows_before : {R : Type 0} → List (Before R) → ℕ → List (Row R)
rows_before entries final = flat_map (λ b. if final == b.final then b.rows else []) entries

-- what is read by these rows
abbrev pub read_by : {R : Type 0} → List (Before R) → List CsiParam → ℕ → Option R
read_by table list final = given (rows_before table final) list
