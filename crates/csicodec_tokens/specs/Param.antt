-- The tokens of a parameter list, and the texts that they print.
use Rattle.std.specs.{Prelude.ℕ, Prelude.ℤ, Prelude.List, Prelude.Option, Prelude.Some, Prelude.None, Prelude.encode_utf8, Fmt.signed_decimal, List.flat_map}
use Rattle.csicodec_tokens.specs.{declared.param.CsiParam.CsiParam, declared.param.CsiParam.TheVariants.Integer, declared.param.CsiParam.TheVariants.P}

-- the number of a token that is one
abbrev pub number_of : CsiParam → Option ℤ
number_of (Integer z) = Some z
number_of (P b) = None

-- the text of a token: the decimal number, or the UTF-8 bytes of the character whose number is the byte
abbrev pub token_text : CsiParam → List ℕ
token_text (Integer z) = signed_decimal z
token_text (P b) = encode_utf8 b

-- the text of a list: those of its tokens, one behind the other
abbrev pub spells : List CsiParam → List ℕ
spells list = flat_map token_text list
