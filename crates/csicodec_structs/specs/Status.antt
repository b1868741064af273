-- How a call of C ends.
use Rattle.std.specs.Prelude.{ℕ}
use Rattle.csicodec_tokens.specs.declared.reader.ReadError.{ReadError}
use Rattle.csicodec_structs.specs.declared.status.Status.{Status}

-- the numbers of `enum csicodec_status`
abbrev pub status_number : Status → ℕ
status_number Status.Done = 0
status_number Status.NotCsi = 1
status_number Status.BadByte = 2
status_number Status.NumberTooLarge = 3
status_number Status.Truncated = 4
status_number Status.Memory = 5
status_number Status.NoAction = 6
status_number Status.BadState = 7

-- the status of a refusal, and the place of its fault
abbrev pub fault_of : ReadError → Status × ℕ
fault_of (ReadError.NotCsi at) = (Status.NotCsi, at)
fault_of (ReadError.BadByte at) = (Status.BadByte, at)
fault_of (ReadError.NumberTooLarge at) = (Status.NumberTooLarge, at)
fault_of (ReadError.Truncated at) = (Status.Truncated, at)
fault_of ReadError.Memory = (Status.Memory, 0)
