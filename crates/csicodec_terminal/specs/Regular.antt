-- The regular list: what a terminal takes a list of parameters for (ECMA-48, 5.4.2; xterm, ctlseqs, "Functions using CSI").
use Rattle.std.specs.Prelude.{ℕ, ℤ, ◌==◌, ◌&&◌, ◌||◌, ◌^◌, if◌then◌else◌, Bool, true, false, List, [], ◌∷◌, Option, Some, None, nat_lt, pos, negsuc, length, slice_index_or}
use Rattle.std.specs.List.{list_any}
use Rattle.csicodec_tokens.specs.{declared.param.CsiParam.CsiParam, declared.param.CsiParam.TheVariants.Integer, Fields.fields_of, OneBased.most}
use Rattle.csicodec_parser.specs.{Cut.semicolon, Groups.is_byte}

-- ---- lists that are read whole

abbrev pub among : List ℕ → ℕ → Bool
among finals final = list_any (λ c. c == final) finals

-- The finals whose function has one parameter (ECMA-48, 8.3): `@`, `A` to `G`, `I` to `M`, `P`, `S`, `W` to `Z`, `` ` ``, `a`, `b`, `d`, `e`, `g`, `j`, `k`.
abbrev pub has_one : ℕ → Bool
has_one final = among (64 ∷ 65 ∷ 66 ∷ 67 ∷ 68 ∷ 69 ∷ 70 ∷ 71 ∷ 73 ∷ 74 ∷ 75 ∷ 76 ∷ 77 ∷ 80 ∷ 83 ∷ 87 ∷ 88 ∷ 89 ∷ 90 ∷ 96 ∷ 97 ∷ 98 ∷ 100 ∷ 101 ∷ 103 ∷ 106 ∷ 107 ∷ []) final

-- The finals whose function has two: `H`, `f`, and `r` (DECSTBM of the VT510). Lists before others stay as they are.
abbrev pub has_two : ℕ → Bool
has_two final = among (72 ∷ 102 ∷ 114 ∷ []) final

-- a parameter that is left out is 0, which stands for the default, and a number of more than 32 bits is the largest of them
abbrev pub said : Option ℤ → CsiParam
said None = Integer (pos 0)
said (Some (pos n)) = Integer (pos (if nat_lt n (2 ^ 32) then n else most))
said (Some (negsuc n)) = Integer (negsuc n)

-- one of the fields, as it is said
abbrev pub nth : ℕ → List (Option ℤ) → CsiParam
nth n fields = said (slice_index_or fields n None)

-- the first field, or the first two where the function has two parameters: others are passed over
abbrev pub first : Bool → List (Option ℤ) → List CsiParam
first two fields =
    if length fields == 0 then []
    else if two && nat_lt 1 (length fields) then nth 0 fields ∷ semicolon ∷ nth 1 fields ∷ []
    else nth 0 fields ∷ []

-- a list that has other bytes than `;` stays as it is
abbrev pub by_fields : Bool → List CsiParam → Option (List (Option ℤ)) → List CsiParam
by_fields two list None = list
by_fields two list (Some fields) = first two fields

abbrev pub regular : List CsiParam → ℕ → List CsiParam
regular list final =
    if has_two final || has_one final then by_fields (has_two final) list (fields_of list) else list

-- ---- lists that are cut

abbrev pub zero_if : Bool → List CsiParam → List CsiParam
zero_if true list = Integer (pos 0) ∷ list
zero_if false list = list

-- each parameter that is left out is 0: before a `;`, at the front or behind another, and at the end
abbrev pub fill : Bool → List CsiParam → List CsiParam
fill left_out [] = zero_if left_out []
fill left_out (t ∷ ts) =
    zero_if (left_out && is_byte 59 (Some t)) (t ∷ fill (is_byte 59 (Some t)) ts)

abbrev pub filled : List CsiParam → List CsiParam
filled list = fill true list
