-- What of a text went out of a writer.
use Rattle.std.specs.{Prelude.ℕ, Prelude.◌≡◌, Prelude.List, Prelude.◌++◌, Prelude.Option, Prelude.Result, Prelude.OnOk, Prelude.OnErr, Prelude.IfSome}
use Rattle.std.specs.{Io.KnownBytes.Appends}

-- the text of a front of the bytes begins with what was sent
abbrev pub FrontsOf : (List ℕ → List ℕ → Type 0) → List ℕ → List ℕ → Type 0
FrontsOf Out bytes sent = (front : List ℕ) × (more : List ℕ) × (unsent : List ℕ)
    × (bytes ≡ front ++ more) × Out front (sent ++ unsent)

-- a text that is so was appended to what was known of the output
abbrev pub IsAppended : (List ℕ → Type 0) → Option (List ℕ) → Option (List ℕ) → Type 0
IsAppended Is old new = (text : List ℕ) × Is text × Appends old new text

-- an input of known bytes was written, or went out as far as it did until something failed
abbrev pub IsWrittenBy : {A E : Type 0} → (List ℕ → List ℕ → Type 0) → (List ℕ → List ℕ → Type 0)
    → Result A E → Option (List ℕ) → Option (List ℕ) → Option (List ℕ) → Type 0
IsWrittenBy Out Fronts result known old new =
    OnOk result (IfSome known (λ bytes. IsAppended (Out bytes) old new))
    × OnErr result (IfSome known (λ bytes. IsAppended (Fronts bytes) old new))
