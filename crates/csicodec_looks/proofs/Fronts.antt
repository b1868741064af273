-- Bytes of a class in front of others, and those that are characters by themselves.
use Rattle.std.proofs.Common.{◌≡◌, ℕ, zero, suc, ◌<◌, ◌≤◌, Bool, true, List, [], ◌∷◌, drop, take, refl, arith, ◌+◌, false, cond, encode_utf8_all, ap, ◌++◌}
use Rattle.std.proofs.{lemmas.Bool.and_from, lemmas.Bool.Decides.nat_tests, lemmas.Str.encode_ascii}
use Rattle.std.specs.{List.AllByRecursion, List.prefix_len, Str.all_scalars}
use Rattle.csicodec_looks.specs.{Shown.shown, Bytes.behind, Bytes.IsPlainByte}
use lib.Utf8.{scalar, low_scalar}

module _ (p : ℕ → Bool) where
  -- each of them is of the class
  pub front_in : (xs : List ℕ) → AllByRecursion (λ b. p b ≡ true) (take (prefix_len p xs) xs)
  front_in [] = tt
  front_in (x ∷ xs) = go (prefix_len p xs) (p x) refl (front_in xs)
    where
      go : (n : ℕ) (b : Bool) → p x ≡ b → AllByRecursion (λ y. p y ≡ true) (take n xs) → AllByRecursion (λ y. p y ≡ true) (take (cond b (1 + n) 0) (x ∷ xs))
      go n true is rest = let one : 1 + n ≡ suc n = omega arith in rw one (is, rest)
      go n false is rest = tt

  pub behind_one : (x : ℕ) (xs : List ℕ) → p x ≡ true → behind p (x ∷ xs) ≡ behind p xs
  behind_one x xs is = grind arith

  -- some of them are passed
  pub behind_drop : (r : ℕ) (xs : List ℕ) → r ≤ prefix_len p xs → behind p (drop r xs) ≡ behind p xs
  behind_drop zero xs few = refl
  behind_drop (suc r) [] few = refl
  behind_drop (suc r) (x ∷ xs) few = grind (arith, behind_drop r xs, behind_one x xs)

  -- of the first n they are some, and all where they end among these
  pub front_within : (n : ℕ) (xs : List ℕ) → prefix_len p (take n xs) ≤ prefix_len p xs
  front_within zero xs = omega arith
  front_within (suc n) [] = omega arith
  front_within (suc n) (x ∷ xs) = grind (arith, front_within n xs)

  pub front_ends : (n : ℕ) (xs : List ℕ) → prefix_len p (take n xs) < n → prefix_len p (take n xs) ≡ prefix_len p xs
  front_ends zero xs few = absurd (omega (arith, few))
  front_ends (suc n) [] few = refl
  front_ends (suc n) (x ∷ xs) few = grind (arith, front_ends n xs)

-- ---- plain bytes

pub low : (b : ℕ) → IsPlainByte b → b < 128
low b h = grind (arith, nat_tests)

pub is_shown : (b : ℕ) → IsPlainByte b → shown b ≡ true
is_shown b h = grind (arith, nat_tests)

pub scalars : (bs : List ℕ) → AllByRecursion IsPlainByte bs → all_scalars bs ≡ true
scalars [] h = refl
scalars (b ∷ bs) h = and_from (scalar b) (all_scalars bs) (low_scalar b (omega (arith, low b h.0))) (scalars bs h.1)

pub encoded : (bs : List ℕ) → AllByRecursion IsPlainByte bs → bs ≡ encode_utf8_all bs
encoded [] h = refl
encoded (b ∷ bs) h = rw (encode_ascii b (low b h.0)) (ap (λ t. b ∷ t) (encoded bs h.1))

-- ---- what holds for all

pub all_both : {T : Type 0} (P : T → Type 0) (xs ys : List T) → AllByRecursion P xs → AllByRecursion P ys → AllByRecursion P (xs ++ ys)
all_both P [] ys h k = k
all_both P (x ∷ xs) ys h k = (h.0, all_both P xs ys h.1 k)

pub all_weaker : {T : Type 0} (P Q : T → Type 0) → ((t : T) → P t → Q t) → (xs : List T) → AllByRecursion P xs → AllByRecursion Q xs
all_weaker P Q f [] h = tt
all_weaker P Q f (x ∷ xs) h = (f x h.0, all_weaker P Q f xs h.1)
