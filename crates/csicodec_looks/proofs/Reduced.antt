-- The place of the palette that is found is the nearest.
use Rattle.std.proofs.Common.{◌≡◌, ◌<◌, ◌≤◌, ◌+◌, ◌-◌, ◌⊎◌, ℕ, zero, suc, refl, subst, arith}
use Rattle.csicodec_looks.proofs.Common.{nat_tests, SrgbaTuple, distance, palette}
use Rattle.csicodec_looks.specs.Xterm.{IsNearest, nearer, nearest_among, nearest_of_16, nearest_of_256}

-- ---- a place more

pub none_left : (c : SrgbaTuple) (i j : ℕ) → nearest_among c i j zero ≡ i
unfolding nearest_among
none_left c i j = refl

pub one_on : (c : SrgbaTuple) (i j n : ℕ) → nearest_among c i j (suc n) ≡ nearest_among c (nearer c i j) (suc j) n
unfolding nearest_among
one_on c i j n = refl

-- the same where the next place is nearer, and where it isn't
pub step_on : (c : SrgbaTuple) (i place last least here best : ℕ) → place < last → least ≡ distance c (palette i) → here ≡ distance c (palette (place + 1))
    → ((here < least) × (best ≡ place + 1)) ⊎ ((least ≤ here) × (best ≡ i))
    → nearest_among c best (place + 1 + 1) (last - (place + 1)) ≡ nearest_among c i (place + 1) (last - place)
step_on c i place last least here best below e f h =
    let left : last - place ≡ suc (last - (place + 1)) = omega arith in
    let next : place + 1 + 1 ≡ suc (place + 1) = omega arith in
    rw (left, next) (grind (arith, nat_tests, one_on))

pub none_more : (c : SrgbaTuple) (i j n : ℕ) → n ≡ 0 → nearest_among c i j n ≡ i
none_more c i j n e = rw e (none_left c i j)

-- ---- it is the nearest

-- the nearer of two places is the nearest of one place more
nearest_more : (c : SrgbaTuple) (first i j : ℕ) → IsNearest c first j i → IsNearest c first (suc j) (nearer c i j)
nearest_more c first i j h = grind (arith, nat_tests)

nearest_of : (n : ℕ) (c : SrgbaTuple) (first i j end : ℕ) → j + n ≡ end → IsNearest c first j i → IsNearest c first end (nearest_among c i j n)
nearest_of zero c first i j end e h =
    let same : j ≡ end = omega (arith, e) in
    rw (none_left c i j) (subst (λ (x : ℕ). IsNearest c first x i) same h)
nearest_of (suc n) c first i j end e h = rw (one_on c i j n) (nearest_of n c first (nearer c i j) (suc j) end (omega (arith, e)) (nearest_more c first i j h))

-- one place alone
nearest_alone : (c : SrgbaTuple) (first : ℕ) → IsNearest c first (suc first) first
nearest_alone c first = grind arith

pub nearest_256 : (c : SrgbaTuple) → IsNearest c 16 256 (nearest_of_256 c)
nearest_256 c = nearest_of 239 c 16 16 17 256 refl (nearest_alone c 16)

pub nearest_16 : (c : SrgbaTuple) → IsNearest c 0 16 (nearest_of_16 c)
nearest_16 c = nearest_of 15 c 0 0 1 16 refl (nearest_alone c 0)
