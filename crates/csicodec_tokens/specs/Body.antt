-- What bytes make of the body of a control sequence, which is all between ESC, '[' and the final byte: they go on with it, or stop it.
use Rattle.std.specs.Prelude.{ℕ, ◌≡◌, ◌≤◌, List, [], ◌∷◌, ◌++◌}
use Rattle.csicodec_tokens.specs.{Digits.AreDigits, Digits.value, Fault.IsBody}

-- intermediate and parameter bytes, and the value of the digits at their end
pub record EndsIn (body : List ℕ) (number : ℕ) : Type 0 where
  pub is : IsBody body
  pub most : (before run : List ℕ) → body ≡ before ++ run → AreDigits run → value run ≤ number
  pub before : List ℕ
  pub run : List ℕ
  pub parts : body ≡ before ++ run
  pub digits : AreDigits run
  pub total : number ≡ value run

-- behind a body that ends in the first number these bytes are more of it, and it ends in the last
pub record Adds (first : ℕ) (bytes : List ℕ) (last : ℕ) : Type 0 where
  pub on : (body : List ℕ) → EndsIn body first → EndsIn (body ++ bytes) last

-- behind such a body they are no more of it
pub record Stops (first : ℕ) (bytes : List ℕ) : Type 0 where
  pub none : (body : List ℕ) → EndsIn body first → IsBody (body ++ bytes) → ⊥

-- the bytes ahead of the rest are more of such a body, but not with the first byte of the rest
pub record IsStopped (first : ℕ) (bytes rest : List ℕ) : Type 0 where
  pub done : List ℕ
  pub byte : ℕ
  pub others : List ℕ
  pub parts : bytes ≡ done ++ rest
  pub front : rest ≡ byte ∷ others
  pub on : (body : List ℕ) → EndsIn body first → IsBody (body ++ done)
  pub stops : Stops first (done ++ byte ∷ [])
