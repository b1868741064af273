-- Which bytes a line of JSON stands for, and what is wrong with one that stands for none.
use Rattle.std.specs.Prelude.{ℕ, suc, ◌≡◌, ◌<◌, ◌⊎◌, ◌∷◌, Bool, false, List, [], codes, Option, Some, None, is_some, option_and_then, Result, Ok, Err, true, if◌then◌else◌}
use Rattle.std.specs.Str.{bytes_eq, is_utf8}
use Rattle.hex.specs.{Hex.decode_of, Hex.encode_lower, declared.error.FromHexError.FromHexError}
use Rattle.json.specs.{Lex.tokens, Token.Token}
use Rattle.serde_json.specs.{Data.Data, Data.string, Find.as_object, Find.as_str, Find.get, Read.read}
use Rattle.csicodec_listing.specs.{declared.object.Fault.Fault, declared.object.Refusal.Refusal}

-- what is said of each fault
abbrev pub fault_text : Fault → List ℕ
fault_text Fault.NoObject = codes "no object of JSON"
fault_text Fault.NoText = codes "text is no string"
fault_text Fault.NoHex = codes "hex is no string of digits in pairs"
fault_text Fault.Both = codes "both text and hex"
fault_text Fault.NoSequence = codes "neither text nor hex, and no sequences have these actions"
fault_text Fault.TooLong = codes "more than 16 MiB"
fault_text Fault.TooMany = codes "more than 262144 values"

-- the bytes of a text are its UTF-8
abbrev pub of_text : Option (List ℕ) → Result (List ℕ) Fault
of_text (Some text) = Ok text
of_text None = Err Fault.NoText

abbrev pub of_digits : Result (List ℕ) FromHexError → Result (List ℕ) Fault
of_digits (Ok bytes) = Ok bytes
of_digits (Err _) = Err Fault.NoHex

-- two hexadecimal digits for each byte, in either case
abbrev pub of_hex : Option (List ℕ) → Result (List ℕ) Fault
of_hex (Some digits) = of_digits (decode_of digits)
of_hex None = Err Fault.NoHex

-- what `text`, `hex` and `actions` say, where each is there; actions are of bytes that are to stand beside them
abbrev pub of_members : Option Data → Option Data → Option Data → Result (List ℕ) Fault
of_members (Some text) None _ = of_text (as_str text)
of_members None (Some digits) _ = of_hex (as_str digits)
of_members None None None = Ok []
of_members None None (Some _) = Err Fault.NoSequence
of_members (Some _) (Some _) _ = Err Fault.Both

-- the kind of an object with sums, of which one is called `text`
abbrev pub is_totals : Option (List ℕ) → Bool
is_totals (Some kind) = bytes_eq kind (codes "totals")
is_totals None = false

abbrev pub kind_of : Data → Option (List ℕ)
kind_of d = option_and_then as_str (get (codes "kind") d)

-- the bytes that an object stands for
abbrev pub of_object : Data → Result (List ℕ) Fault
of_object d =
    if is_some (as_object d) then
    (if is_totals (kind_of d) then Ok []
    else of_members (get (codes "text") d) (get (codes "hex") d) (get (codes "actions") d))
    else Err Fault.NoObject

abbrev pub of_read : Option Data → Result (List ℕ) Fault
of_read (Some d) = of_object d
of_read None = Err Fault.NoObject

-- the bytes that a line stands for
abbrev pub of_line : List ℕ → Result (List ℕ) Fault
of_line line = of_read (if is_utf8 line then read line else None)

-- what begins a value of a text of JSON, or is one
abbrev pub is_value : Token → Bool
is_value Token.end_object = false
is_value Token.end_array = false
is_value (Token.key name) = false
is_value t = true

-- how many values there are in these tokens
abbrev pub values_in : List Token → ℕ
values_in [] = 0
values_in (t ∷ ts) = if is_value t then suc (values_in ts) else values_in ts

-- The most values of a line that is read for its members: four for each byte of the longest control sequence, whose actions have fewer.
abbrev pub most_values : ℕ
most_values = 262144

-- the line is refused for its values, which are more
abbrev pub HasMany : Fault → List ℕ → Type 0
HasMany f line = (f ≡ Fault.TooMany) × (most_values < values_in (tokens line))

-- a refusal tells the fault, unless memory ran out
abbrev pub IsTold : Refusal → Result (List ℕ) Fault → Type 0
IsTold (Refusal.Line f) answer = answer ≡ Err f
IsTold Refusal.Memory answer = Unit {0}

-- so it does of a line, which may also have too many values
abbrev pub IsRefusalOf : Refusal → List ℕ → Type 0
IsRefusalOf (Refusal.Line f) line = (of_line line ≡ Err f) ⊎ HasMany f line
IsRefusalOf Refusal.Memory line = Unit {0}

-- How `explain --json` shows bytes: as they are where they are UTF-8, else as digits.
pub record Shows (d : Data) (bytes : List ℕ) : Type 0 where
  pub object : is_some (as_object d) ≡ true
  pub kind : is_totals (kind_of d) ≡ false
  pub member : (get (codes "text") d ≡ (if is_utf8 bytes then Some (string bytes) else None))
      × (get (codes "hex") d ≡ (if is_utf8 bytes then None else Some (string (encode_lower bytes))))
