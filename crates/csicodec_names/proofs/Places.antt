-- The table of places against the number of each code.
use Rattle.std.proofs.Common.{◌≡◌, ◌==◌, ◌&&◌, ℕ, zero, suc, ◌+◌, Bool, true, List, [], ◌∷◌, Option, None, Some, get_or, refl, ◌∙◌, ap, arith}
use Rattle.csicodec_names.specs.{declared.codes.SgrCode.SgrCode, declared.codes.TheConstants.CODES, Numbers.number_of}

-- each code lies at its number
pub lies_at : (code : SgrCode) → get_or CODES (number_of code) None ≡ Some code
lies_at SgrCode.Reset = refl
lies_at _ = refl

-- whether each code of a list lies at its number, counted from k on
abbrev pub numbered : ℕ → List (Option SgrCode) → Bool
numbered k [] = true
numbered k (None ∷ xs) = numbered (k + 1) xs
numbered k (Some code ∷ xs) = (number_of code == k) && numbered (k + 1) xs

pub numbered_codes : numbered 0 CODES ≡ true
numbered_codes = refl

pub numbered_at : (xs : List (Option SgrCode)) (k i : ℕ) (code : SgrCode) → numbered k xs ≡ true → get_or xs i None ≡ Some code → k + i ≡ number_of code
numbered_at [] k i code h e = cc
numbered_at (None ∷ xs) k zero code h e = cc
numbered_at (None ∷ xs) k (suc i) code h e = grind (arith, numbered_at xs (k + 1) i code)
numbered_at (Some x ∷ xs) k zero code h e = grind arith
numbered_at (Some x ∷ xs) k (suc i) code h e = grind (arith, numbered_at xs (k + 1) i code)

pub is_row : (i : ℕ) (code : SgrCode) → get_or CODES i None ≡ Some code → i ≡ number_of code
is_row i code e = let r = numbered_at CODES 0 i code numbered_codes e in omega (arith, r)

pub row_is : (i : ℕ) (code : SgrCode) → i ≡ number_of code → get_or CODES i None ≡ Some code
row_is i code e = ap (λ n. get_or CODES n None) e ∙ lies_at code
