-- What the call that normalises answers a C program.
use Rattle.std.specs.Prelude.{ℕ, ◌≡◌, false, List, length}
use Rattle.csicodec_streams.specs.{Decoding.NormalisesTo, Refusals.RefusesDecode}
use Rattle.csicodec_transform.specs.declared.error.DecodeError.{DecodeError}
use Rattle.csicodec_structs.specs.{declared.normalise.Normalised.Normalised, Room.Fills, Status.fault_of, Status.status_number, declared.status.Status.Status}
use Rattle.csicodec_tokens.specs.declared.reader.ReadError.{ReadError}

abbrev pub normalised : ℕ → Normalised
normalised needed =
    record { status = status_number Status.Done; start = 0; at = 0; needed = needed }

abbrev pub refused : Status → ℕ → ℕ → Normalised
refused why start at = record { status = status_number why; start = start; at = at; needed = 0 }

-- the answer of each refusal
abbrev pub refusal : DecodeError → Normalised
refusal (DecodeError.Read start ReadError.Memory) = refused Status.Memory 0 0
refusal (DecodeError.Read start error) = refused (fault_of error).0 start (fault_of error).1
refusal DecodeError.Memory = refused Status.Memory 0 0

-- the length of the normal form, which is put where it fits
pub record IsDone (bytes old new : List ℕ) (answer : Normalised) : Type 0 where
  pub all : List ℕ
  pub normal : NormalisesTo bytes all
  pub tells : answer ≡ normalised (length all)
  pub fills : Fills old new all

-- or the refusal of the bytes, and then nothing is put
pub record IsRefused (bytes old new : List ℕ) (answer : Normalised) : Type 0 where
  pub error : DecodeError
  pub why : RefusesDecode bytes false error
  pub tells : answer ≡ refusal error
  pub same : new ≡ old
