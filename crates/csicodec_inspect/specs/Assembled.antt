-- What `assemble` writes, as the lines of an input come.
use Rattle.std.specs.Prelude.{ℕ, ◌≡◌, ◌⊎◌, List, ◌++◌, Result, Ok, Err}
use Rattle.csicodec_transform.specs.declared.error.RunError.{RunError}
use Rattle.csicodec_listing.specs.{Lines.Assembles, Lines.Refuses, declared.object.Refusal.Refusal}
use Rattle.csicodec_command.specs.declared.failure.Failure.{Failure}
use Rattle.csicodec_inspect.specs.Sent.{FrontsOf}

-- how lines end: the one of this number is refused, or memory ran out, or all are over
abbrev pub answer_of : ℕ → Result (Unit {0}) Refusal → Result (Unit {0}) Failure
answer_of number (Ok _) = Ok tt
answer_of number (Err (Refusal.Line fault)) = Err (Failure.Object number fault)
answer_of number (Err Refusal.Memory) = Err (Failure.Run RunError.Memory)

-- where they end so, these bytes are written of them
abbrev pub Became : Result (Unit {0}) Failure → List ℕ → List ℕ → Type 0
Became (Ok _) lines bytes = Assembles lines bytes
Became (Err (Failure.Object number fault)) lines bytes = Refuses number fault lines bytes
Became (Err _) lines bytes = FrontsOf Assembles lines bytes

-- this was sent of what was to be: all, with this answer, or a front of it, where that failed
abbrev pub IsSent : Result (Unit {0}) Failure → Result (Unit {0}) Failure → List ℕ → List ℕ → Type 0
IsSent answer result made sent = ((sent ≡ made) × (result ≡ answer))
    ⊎ ((error : RunError) × (unsent : List ℕ) × (result ≡ Err (Failure.Run error)) × (made ≡ sent ++ unsent))
