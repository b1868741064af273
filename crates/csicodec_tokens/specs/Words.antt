-- What each refusal says.
use Rattle.std.specs.{Prelude.ℕ, Prelude.◌+◌, Prelude.List, Prelude.◌++◌, Prelude.Option, Prelude.None, Prelude.Some, Prelude.codes, Fmt.decimal}
use Rattle.csicodec_tokens.specs.declared.reader.ReadError.TheVariants.{NotCsi, BadByte, NumberTooLarge, Truncated, Memory}
use Rattle.csicodec_tokens.specs.{declared.reader.ReadError.ReadError, declared.refusal.ParseRefusal.ParseRefusal}

-- where a sequence is refused, and why
abbrev pub place : ReadError → Option ℕ
place (NotCsi at) = Some at
place (BadByte at) = Some at
place (NumberTooLarge at) = Some at
place (Truncated at) = Some at
place Memory = None

abbrev pub reason : ReadError → List ℕ
reason (NotCsi at) = codes "not a sequence"
reason (BadByte at) = codes "bad byte"
reason (NumberTooLarge at) = codes "number too large"
reason (Truncated at) = codes "truncated"
reason Memory = codes "no memory"

-- with the byte, where the sequence begins at this one
abbrev pub placed : ℕ → Option ℕ → List ℕ → List ℕ
placed start None why = why
placed start (Some at) why = codes "byte " ++ (decimal (start + at) ++ (codes ": " ++ why))

abbrev pub read_error_text : ℕ → ReadError → List ℕ
read_error_text start error = placed start (place error) (reason error)

abbrev pub not_spelled_text : List ℕ
not_spelled_text = codes "not a spelling of any value"

abbrev pub not_one_based_text : List ℕ
not_one_based_text = codes "0 where counting begins at 1"

abbrev pub parse_refusal_text : ParseRefusal → List ℕ
parse_refusal_text ParseRefusal.NotSpelled = not_spelled_text
parse_refusal_text ParseRefusal.Memory = codes "no memory"
