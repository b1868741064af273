-- What a program tells of a run that failed.
use Rattle.csicodec_command.specs.Common.{ℕ, true, false, List, [], codes, decimal, digits, format_spec, padded_integral, fault_text, run_error_text, run_status}
use Rattle.csicodec_command.specs.{declared.failure.Failure.Failure, declared.failure.Found.Found, Packed.packing_text}
use Rattle.std.specs.Prelude.{◌-◌, ◌^◌, ◌++◌}

-- the number of a character, as Unicode writes it: in capital digits of base 16, of which there are four at least
abbrev pub code_text : ℕ → List ℕ
code_text n = codes "U+" ++ padded_integral (format_spec 32 0 4 4 (2 ^ 64 - 1)) false [] (digits 16 true n)

-- what stands where plain text ends, or text that is all seen
abbrev pub found_text : Found → List ℕ
found_text Found.Sequence = codes "a control sequence"
found_text Found.String = codes "a control string"
found_text Found.Escape = codes "an escape sequence"
found_text (Found.Control n) = codes "the control character " ++ decimal n
found_text Found.NotUtf8 = codes "bytes that are no UTF-8"
found_text (Found.Turning n) = code_text n ++ codes ", which changes the order of text"
found_text (Found.Tag n) = code_text n ++ codes ", a tag"
found_text (Found.Unseen n) = code_text n ++ codes ", which isn't seen"

-- the text of each failure, without the line's end
abbrev pub line : Failure → List ℕ
line Failure.Usage = codes "csicodec: not a command"
line Failure.NotText = codes "csicodec: a word isn't UTF-8"
line Failure.UnknownOption = codes "csicodec: unknown option"
line Failure.Misplaced = codes "csicodec: an option of another command"
line Failure.Apart = codes "csicodec: options that don't go together"
line Failure.NoValue = codes "csicodec: a value is missing"
line Failure.NotValue = codes "csicodec: not a value"
line Failure.Open = codes "csicodec: the file can't be opened"
line (Failure.Packed packing) = codes "csicodec: " ++ packing_text packing
line (Failure.Recording n) = codes "csicodec: line " ++ decimal n ++ codes ": not an asciicast of version 2 or 3"
line (Failure.Times n) = codes "csicodec: line " ++ decimal n ++ codes ": no time of script"
line (Failure.Object n fault) = codes "csicodec: line " ++ decimal n ++ codes ": " ++ fault_text fault
line (Failure.NotPlain at n what) =
    codes "csicodec: byte " ++ decimal at ++ codes ", line " ++ decimal n ++ codes ": " ++ found_text what
line (Failure.Run error) = codes "csicodec: " ++ run_error_text error

-- the status of each failure
abbrev pub status : Failure → ℕ
status Failure.Open = 2
status (Failure.Packed _) = 1
status (Failure.Recording _) = 1
status (Failure.Times _) = 1
status (Failure.Object _ _) = 1
status (Failure.NotPlain _ _ _) = 1
status (Failure.Run error) = run_status error
-- the others are of a command line
status f = 64
