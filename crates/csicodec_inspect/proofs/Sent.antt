-- what a run that went well wrote, and what one that failed did
use Rattle.csicodec_inspect.proofs.Common.{ℕ, List, Option, Result, Ok, Err, subst, IfSome_then, IfSome, OnErr, Appends, Consumes, IsAtEnd, IsAppended}
use Rattle.csicodec_streams.proofs.OneReading.{given_all}

-- all were read, and their text was written
pub all_written : (Out : List ℕ → List ℕ → Type 0) (before after old new : Option (List ℕ))
    → (bytes : List ℕ) × (text : List ℕ) × Consumes before after bytes × IsAtEnd after × Out bytes text × Appends old new text
    → IfSome before (λ all. IsAppended (Out all) old new)
all_written Out before after old new (bytes, text, consumed, end, out, appended) =
    IfSome_then before (given_all before after bytes consumed end)
    (λ all same. (text, subst (λ (b : List ℕ). Out b text) same out, appended))

pub on_err_all : {A E P : Type 0} (result : Result A E) → P → OnErr result P
on_err_all (Ok a) p = tt
on_err_all (Err e) p = p
