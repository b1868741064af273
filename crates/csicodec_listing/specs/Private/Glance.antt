-- What is known of the members of an object that were passed.
use Rattle.std.specs.Prelude.{ℕ, ◌≡◌, ◌≤◌, false, List, ◌∷◌, ◌++◌, codes, length, IsSome, IsUtf8, Option, Some, None, option_map, option_and_then, Ok}
use Rattle.json.specs.{Token.Token, Json.members, Json.value, Print.IsNumber}
use Rattle.serde_json.specs.{Data.Members, Data.string, Find.as_str, Find.get_member, Read.converted, Read.number_of, Read.of_members}
use Rattle.csicodec_listing.specs.Object.{is_totals, of_line}

-- they have this text, or none, no `hex`, and another kind than sums
abbrev pub Says : Option (List ℕ) → Members → Type 0
Says text found = (get_member (codes "text") found ≡ option_map string text) × (get_member (codes "hex") found ≡ None)
    × (is_totals (option_and_then as_str (get_member (codes "kind") found)) ≡ false)

-- tokens begin with the members that follow others without a text, up to the object's end, and all together have this text, or none
abbrev pub Follow : List Token → List Token → Option (List ℕ) → Type 0
Follow ts rest text = (n : ℕ) (old : Members) → length ts ≤ n → Says None old → (found : Members)
    × (converted (λ ms. of_members ms old) (members (value 126) n ts) ≡ Some (found, rest)) × Says text found

-- a line that begins with a place, a number, and goes on with a key
abbrev pub IsPlaced : List ℕ → List ℕ → Type 0
IsPlaced line rest = (ds more : List ℕ) × (line ≡ codes "{\"at\":" ++ ds ++ 44 ∷ rest) × (rest ≡ 34 ∷ more) × IsNumber ds × IsSome (number_of ds) × IsUtf8 ds

-- each line that has this rest behind its place stands for the text
abbrev pub Stands : List ℕ → List ℕ → Type 0
Stands rest text = (line : List ℕ) → IsPlaced line rest → of_line line ≡ Ok text
