-- Parts of lists, and how they move.
use Rattle.std.specs.Prelude.{ℕ, min, max, Bool, List, length, take, drop, replicate, ◌-◌, ◌∷◌, ◌++◌, [], if◌then◌else◌}

-- from place a to b, as far as the list goes, what f makes of that part
abbrev pub within : {A : Type 0} → ℕ → ℕ → (List A → List A) → List A → List A
within a b f list = take a list ++ (f (take (b - a) (drop a list)) ++ drop (max a b) list)

-- as many, and each of them x
abbrev pub filled : {A : Type 0} → A → List A → List A
filled x list = replicate (length list) x

-- n are gone at one end, and blanks come in at the other
abbrev pub up : {A : Type 0} → ℕ → A → List A → List A
up n blank list = drop (min n (length list)) list ++ replicate (min n (length list)) blank

abbrev pub down : {A : Type 0} → ℕ → A → List A → List A
down n blank list = replicate (min n (length list)) blank ++ take (length list - min n (length list)) list

abbrev pub moved : {A : Type 0} → Bool → ℕ → A → List A → List A
moved upward n blank list = if upward then up n blank list else down n blank list

-- these in place of the first ones, as many as there are of both
abbrev pub overlaid : {A : Type 0} → List A → List A → List A
overlaid [] list = list
overlaid (x ∷ new) [] = []
overlaid (x ∷ new) (y ∷ list) = x ∷ overlaid new list

-- these ahead of the others, the last of them first
abbrev pub onto : {A : Type 0} → List A → List A → List A
onto [] list = list
onto (x ∷ front) list = onto front (x ∷ list)
