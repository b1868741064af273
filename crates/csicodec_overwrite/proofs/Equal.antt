-- Sets that are equal are one.
use Rattle.std.proofs.{Common.◌≡◌, Common.Bool, Common.true, Common.rules, lemmas.Bool.and_parts}
use Rattle.csicodec_looks.specs.declared.sets.Set.{Set}
use Rattle.csicodec_clean.specs.declared.reading.Sets.{Sets}
use mathlib.Core.Bool.{beq}
use Rattle.csicodec_looks.specs.contracts.sets.SetPartialEq.TheImpl as set_eq
use Rattle.csicodec_clean.specs.contracts.reading.SetsPartialEq.TheImpl as sets_eq

set : (a b : Set) → (set_eq.ghosts).eq a b ≡ true → a ≡ b
set a b h = search rules

flag : (a b : Bool) → beq a b ≡ true → a ≡ b
flag a b h = search rules

pub same_sets : (a b : Sets) → (sets_eq.ghosts).eq a b ≡ true → a ≡ b
same_sets a b h =
    let (g0, h1) = and_parts _ _ h in
    let (g1, shifted) = and_parts _ _ h1 in
    λ x. record { g0 = set a.g0 b.g0 g0 x; g1 = set a.g1 b.g1 g1 x; shifted = flag a.shifted b.shifted shifted x }
