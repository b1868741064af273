-- Fields of a parameter list: optional numbers, each with its block of tokens.
use Rattle.std.specs.Prelude.{◌≡◌, ℤ, ◌<◌, ◌==◌, ◌⊎◌, if◌then◌else◌, List, [], ◌∷◌, ◌++◌, length, Option, Some, None}
use Rattle.csicodec_tokens.specs.{declared.param.CsiParam.CsiParam, declared.param.CsiParam.TheVariants.Integer, declared.param.CsiParam.TheVariants.P}
use Rattle.csicodec_tokens.specs.{declared.refusal.ParseRefusal.ParseRefusal, declared.refusal.ParseRefusal.TheVariants.NotSpelled}
use Rattle.csicodec_tokens.specs.{declared.refusal.ParseRefusal.TheVariants.Memory}

-- `;`, the separator 03/11 of ECMA-48
abbrev pub separator : CsiParam
separator = P 59

-- the first field is empty
abbrev pub BeginsEmpty : List (Option ℤ) → Type 0
BeginsEmpty (None ∷ f) = Unit {0}
BeginsEmpty _ = ⊥

-- an empty field is `;`; a number has the `;` behind it, or stands alone where the next field isn't empty
abbrev pub IsBlock : List CsiParam → Option ℤ → List (Option ℤ) → Type 0
IsBlock block None next = block ≡ separator ∷ []
IsBlock block (Some z) next =
    (block ≡ Integer z ∷ separator ∷ []) ⊎ ((block ≡ Integer z ∷ []) × ¬ BeginsEmpty next)

-- the list is the join of one block for each field
abbrev pub Fields : List CsiParam → List (Option ℤ) → Type 0
Fields list [] = list ≡ []
Fields list (x ∷ f) = (block : List CsiParam) × (rest : List CsiParam) × (list ≡ block ++ rest)
    × IsBlock block x f × Fields rest f

-- the fields with one more ahead, if there are any
abbrev pub with_field : Option ℤ → Option (List (Option ℤ)) → Option (List (Option ℤ))
with_field x None = None
with_field x (Some f) = Some (x ∷ f)

-- the fields of a list, by going through it; that they are those of `Fields`, and no others, is a law (`fields_in_turn`)
abbrev pub fields_of : List CsiParam → Option (List (Option ℤ))
fields_of [] = Some []
fields_of (P b ∷ list) = if b == 59 then with_field None (fields_of list) else None
fields_of (Integer z ∷ []) = Some (Some z ∷ [])
fields_of (Integer z ∷ P b ∷ list) = if b == 59 then with_field (Some z) (fields_of list) else None
fields_of (Integer z ∷ Integer y ∷ list) = with_field (Some z) (fields_of (Integer y ∷ list))

-- why this list may be refused so: it has no fields, or it has some, which take memory
abbrev pub RefusesFields : List CsiParam → ParseRefusal → Type 0
RefusesFields list NotSpelled = (f : List (Option ℤ)) → Fields list f → ⊥
RefusesFields list Memory = (f : List (Option ℤ)) × Fields list f × (0 < length f)
