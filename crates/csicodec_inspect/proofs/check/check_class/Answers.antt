use Rattle.csicodec_inspect.proofs.Common.{◌≡◌, ◌<◌, ◌==◌, ℕ, List, [], ◌∷◌, ◌++◌, length, refl, sym, ap, inl, inr, ⊎_elim, arith, nat_tests, IfErr-weaker, if◌then◌else◌, IsSure, behind_esc, by_char, found_at}
use Rattle.bstr.specs.Utf8.{Decoded}
use Rattle.csicodec_inspect.proofs.check.check_class.Goals as goal

-- what is told of a front that is sure stays, whatever follows
found_stays : (rest more : List ℕ) → 0 < length rest → IsSure rest → found_at (rest ++ more) ≡ found_at rest
found_stays [] more some sure = absurd (omega (arith, some))
found_stays (b ∷ []) more some sure = grind (arith, nat_tests, sure.0, ap (λ (d : Decoded). by_char d.char) (sure.1 more))
found_stays (b ∷ c ∷ rest) more some sure =
    ap (λ (d : Decoded). if b == 27 then behind_esc (c ∷ rest) else by_char d.char) (sure.1 more)

pub returns-clause-fault : goal.returns-clause-fault
returns-clause-fault g c =
    let checked = c.in_ok-checked.checked in
    let rest = checked.rest.items in
    IfErr-weaker c.outcome.result _ _
    (λ e (some, is).
    let (bytes, consumed, fault) = c.in_ok-checked.ensures.fault some in
    let told = ⊎_elim
    (λ (sure, there). inl (λ more. (there more, sym (found_stays rest more some sure))))
    (λ (end, there). inr (end, (there, refl))) fault in
    inr (checked.at, checked.line, found_at rest, bytes, rest, is, consumed, told))
    c.outcome.ensures.err
