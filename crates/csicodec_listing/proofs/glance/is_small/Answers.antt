use Rattle.csicodec_listing.proofs.Common.{◌≡◌, ◌<◌, ◌^◌, ℕ, List, get_or, Option, Some, None, IsTrue, IsSome, ◌==◌, false, ne_eqb, SomeIff, is_some, IsInteger, digits_of, scan, number_of}
use Rattle.csicodec_listing.proofs.Member.{small}
use Rattle.csicodec_listing.proofs.glance.is_small.Goals as goal

by_digits : (r : Option ℕ) (s : List ℕ) → (get_or s 0 0 == 45) ≡ false
    → SomeIff r (IsInteger (scan s) × (digits_of (scan s) < 2 ^ 64)) (digits_of (scan s)) → IsTrue (is_some r) → IsSome (number_of s)
by_digits None s other iff some = absurd (cc some)
by_digits (Some n) s other iff some = small s other iff.0.0 iff.0.1

pub returns : goal.returns
returns c =
    let s = c.as_bytes-bytes.result.now in
    let first : (get_or s 0 0 == 45) ≡ false = ne_eqb (get_or s 0 0) 45 c.if-bytes-eq45.false in
    rw (c.is_some.ensures, ← c.as_bytes-bytes.ensures.value) (by_digits c.to_u64.result s first (rw (← c.scan.ensures.parts) c.to_u64.ensures))
