-- What each error of a stream says, and the status of a program that ends with it.
use Rattle.std.specs.Prelude.{ℕ, ◌+◌, ◌^◌, List, Option, None, Some, codes, if◌then◌else◌, nat_lt, option_and_then}
use Rattle.csicodec_tokens.specs.{Words.place, Words.read_error_text, declared.reader.ReadError.ReadError}
use Rattle.csicodec_transform.specs.{declared.error.DecodeError.DecodeError, declared.error.RunError.RunError}

-- the byte of the whole input, where it is a number of 64 bits
abbrev pub in_input : ℕ → ℕ → Option ℕ
in_input start at = if nat_lt (start + at) (2 ^ 64) then Some (start + at) else None

abbrev pub decode_place : DecodeError → Option ℕ
decode_place (DecodeError.Read start error) = option_and_then (in_input start) (place error)
decode_place DecodeError.Memory = None

abbrev pub decode_error_text : DecodeError → List ℕ
decode_error_text (DecodeError.Read start error) = read_error_text start error
decode_error_text DecodeError.Memory = codes "no memory"

abbrev pub run_error_text : RunError → List ℕ
run_error_text RunError.Read = codes "read fault"
run_error_text (RunError.Decode error) = decode_error_text error
run_error_text RunError.Write = codes "write fault"
run_error_text RunError.Memory = codes "no memory"

-- the status that a program ends with: 1 where its input is refused, 2 where a read or a write failed, 3 where memory ran out
abbrev pub run_status : RunError → ℕ
run_status RunError.Read = 2
run_status (RunError.Decode (DecodeError.Read start ReadError.Memory)) = 3
run_status (RunError.Decode (DecodeError.Read start error)) = 1
run_status (RunError.Decode DecodeError.Memory) = 3
run_status RunError.Write = 2
run_status RunError.Memory = 3

-- what a run says of a refused decoding
abbrev pub run_refusal : DecodeError → RunError
run_refusal (DecodeError.Read start error) = RunError.Decode (DecodeError.Read start error)
run_refusal DecodeError.Memory = RunError.Memory
