-- What is kept of the beginning of a control sequence, so that the bytes that come tell whether it goes on.
use Rattle.std.specs.Prelude.{ℕ, ◌≡◌, ◌<◌, List, ◌∷◌, length, Option, Some, None}
use Rattle.csicodec_tokens.specs.Body.{Adds, EndsIn, Stops}

-- where there is room for the bytes, the number that ends a body with them
abbrev pub Tells : ℕ → List ℕ → Option ℕ → ℕ → Type 0
Tells room bytes None first = length bytes < room → Stops first bytes
Tells room bytes (Some last) first = (length bytes < room) × Adds first bytes last

-- the beginning of a control sequence and this value; or a few bytes, and none
abbrev pub IsBegun : List ℕ → Option ℕ → Type 0
IsBegun bytes None = length bytes < 3
IsBegun bytes (Some number) =
    (body : List ℕ) × (bytes ≡ 27 ∷ 91 ∷ body) × EndsIn body number
