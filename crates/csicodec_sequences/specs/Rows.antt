-- Rows of control sequences: which lists a row reads, as which values, and which list it writes of values.
use Rattle.std.specs.Prelude.{ℕ, ℤ, pos, negsuc, nat_lt, not, ◌==◌, ◌&&◌, Bool, true, false, List, [], ◌∷◌, ◌++◌, Option, Some, None, if◌then◌else◌, option_and_then, encode_utf8}
use Rattle.std.specs.{Fmt.decimal, List.flat_map, Option.option_map}
use Rattle.csicodec_tokens.specs.{declared.param.CsiParam.CsiParam, declared.param.CsiParam.TheVariants.Integer, declared.param.CsiParam.TheVariants.P}
use Rattle.csicodec_tokens.specs.{Fields.fields_of}
use Rattle.csicodec_sequences.specs.{declared.row.SequenceForm.SequenceForm, declared.row.NumberSlot.NumberSlot, Parts.Parts, Parts.is_intermediate}
use Rattle.csicodec_sequences.specs.{Parts.is_marker, Parts.parts_of}
use Rattle.csicodec_actions.specs.FieldRows.{behind, first, is_there}

-- a row: the bytes around its numbers, and which numbers it has
pub record Row : Type 0 where
  pub form : SequenceForm
  pub slots : List NumberSlot

-- ---- values

-- the number is in the range of the slot
abbrev pub is_within : NumberSlot → ℕ → Bool
is_within s n = not (nat_lt n s.first) && not (nat_lt s.last n)

-- a number in the range is itself
abbrev pub counted : NumberSlot → ℤ → Option ℕ
counted s (pos n) = if is_within s n then Some n else None
counted s (negsuc n) = None

-- the value of a field, be it empty or missing
abbrev pub slot_value : NumberSlot → Option ℤ → Option ℕ
slot_value s None = s.missing
slot_value s (Some z) = counted s z

-- there is a value for each slot, in its range; those from an optional one on may be missing
abbrev pub fit : List NumberSlot → List ℕ → Bool
fit [] [] = true
fit [] (v ∷ vs) = false
fit (s ∷ ss) [] = s.optional
fit (s ∷ ss) (v ∷ vs) = is_within s v && fit ss vs

-- ---- reading

-- the values of fields, one for each slot, and nothing behind them; they may end ahead of a slot that is optional
abbrev pub slot_values : List NumberSlot → List (Option ℤ) → Option (List ℕ)
slot_values [] fs = if is_there fs then None else Some []
slot_values (s ∷ ss) fs =
    if s.optional && not (is_there fs) then Some []
    else option_and_then (λ v. option_map (λ vs. v ∷ vs) (slot_values ss (behind fs)))
    (slot_value s (first fs))

-- the parts have the bytes of the row
abbrev pub has_bytes : Row → Parts → Bool
has_bytes row parts =
    (parts.marker == row.form.marker) && (parts.intermediate == row.form.intermediate)

-- the values of a list before a final character
abbrev pub read_row : Row → List CsiParam → ℕ → Option (List ℕ)
read_row row list final =
    if final == row.form.control then
    (if has_bytes row (parts_of list) then option_and_then (slot_values row.slots) (fields_of (parts_of list).body)
    else None) else None

-- ---- writing

-- each behind a `;`
abbrev pub each_behind : List ℕ → List CsiParam
each_behind [] = []
each_behind (v ∷ vs) = P 59 ∷ Integer (pos v) ∷ each_behind vs

-- the numbers, with a `;` between two
abbrev pub joined : List ℕ → List CsiParam
joined [] = []
joined (v ∷ vs) = Integer (pos v) ∷ each_behind vs

-- a byte, where it isn't 0
abbrev pub byte_tokens : ℕ → List CsiParam
byte_tokens b = if b == 0 then [] else P b ∷ []

-- the list of values
abbrev pub row_list : Row → List ℕ → List CsiParam
row_list row values =
    byte_tokens row.form.marker ++ (joined values ++ byte_tokens row.form.intermediate)

-- the texts of these
abbrev pub behind_text : List ℕ → List ℕ
behind_text values = flat_map (λ n. 59 ∷ decimal n) values

abbrev pub numbers_text : List ℕ → List ℕ
numbers_text [] = []
numbers_text (v ∷ vs) = decimal v ++ behind_text vs

abbrev pub byte_text : ℕ → List ℕ
byte_text b = if b == 0 then [] else encode_utf8 b

-- what is written: the text of the list, and the final character (law `text`)
abbrev pub form_text : SequenceForm → List ℕ → List ℕ
form_text form values = byte_text form.marker
    ++ (numbers_text values ++ (byte_text form.intermediate ++ encode_utf8 form.control))

-- ---- rows as they should be

-- what stands for a number that is left out is in the range
abbrev pub is_missing_within : NumberSlot → Option ℕ → Bool
is_missing_within s None = true
is_missing_within s (Some n) = is_within s n

abbrev pub are_missing_within : List NumberSlot → Bool
are_missing_within [] = true
are_missing_within (s ∷ ss) = is_missing_within s s.missing && are_missing_within ss

abbrev pub has_its_bytes : Row → Bool
has_its_bytes row = (if row.form.marker == 0 then true else is_marker row.form.marker) &&
    (if row.form.intermediate == 0 then true else is_intermediate row.form.intermediate)

-- a final character, from `@` to `~`
abbrev pub is_final : ℕ → Bool
is_final c = not (nat_lt c 64) && nat_lt c 127

-- the bytes are such bytes, and what is left out is in its range
abbrev pub is_row : Row → Bool
is_row row =
    has_its_bytes row && (is_final row.form.control && are_missing_within row.slots)
