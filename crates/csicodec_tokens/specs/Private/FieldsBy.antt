-- How the fields of a list are kept. What fields are is in `Fields`; only private steps and proofs speak of this file.
use Rattle.std.specs.{Prelude.◌≡◌, Prelude.ℤ, Prelude.◌<◌, Prelude.◌==◌, Prelude.Bool, Prelude.true, Prelude.List, Prelude.length, Prelude.Option, Prelude.Some}
use Rattle.std.specs.{Prelude.None, List.list_all}
use Rattle.csicodec_tokens.specs.{declared.param.CsiParam.CsiParam, declared.param.CsiParam.TheVariants.Integer, declared.param.CsiParam.TheVariants.P}
use Rattle.csicodec_tokens.specs.{Fields.fields_of, Fields.with_field}

-- a number or `;`
abbrev pub is_field_token : CsiParam → Bool
is_field_token (Integer z) = true
is_field_token (P b) = b == 59

-- a field is kept as the token of its number
abbrev pub number_in : Option CsiParam → Option ℤ
number_in (Some (Integer z)) = Some z
number_in _ = None

-- no byte is kept as a field
abbrev pub IsField : Option CsiParam → Type 0
IsField (Some (P b)) = ⊥
IsField _ = Unit {0}

-- the field at the front of a list of numbers and `;`, and the tokens behind its block
pub record IsFirstField (list : List CsiParam) (field : Option CsiParam)
    (others : List CsiParam) : Type 0 where
  pub kept : IsField field
  pub tokens : list_all is_field_token others ≡ true
  pub shorter : length others < length list
  pub computed : fields_of list ≡ with_field (number_in field) (fields_of others)
