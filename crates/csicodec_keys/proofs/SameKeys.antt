-- Keys of one kind and value are one key.
use Rattle.std.proofs.Common.{◌≡◌, ℕ, zero, suc, Option, Some, refl, sym, ap, ◌∙◌, eqb-true, ◌==◌, true, slice_get}
use Rattle.std.proofs.{lemmas.Bool.and_parts, lemmas.Option.same_Some}
use Rattle.csicodec_keys.specs.{declared.code.KeyCode.KeyCode, SameKeys.code_tag, SameKeys.code_value, SameKeys.same_code}
use Rattle.csicodec_keys.proofs.Named.{named}

-- the key of a tag and a value
abbrev key_of : ℕ → ℕ → Option KeyCode
key_of zero v = Some (KeyCode.Char v)
key_of (suc zero) v = Some (KeyCode.F v)
key_of (suc (suc i)) v = slice_get named i

key-of : (k : KeyCode) → key_of (code_tag k) (code_value k) ≡ Some k
unfolding named
key-of k = elim k as (λ x. key_of (code_tag x) (code_value x) ≡ Some x) [ KeyCode.Char c ↦ refl | KeyCode.F n ↦ refl | _ ↦ refl ]

pub same-code : (a b : KeyCode) → same_code a b ≡ true → a ≡ b
same-code a b h =
    let p = and_parts (code_tag a == code_tag b) (code_value a == code_value b) h in
    same_Some a b
    (sym (key-of a) ∙ (ap (λ t. key_of t (code_value a)) (eqb-true (code_tag a) (code_tag b) p.0)
    ∙ (ap (key_of (code_tag b)) (eqb-true (code_value a) (code_value b) p.1) ∙ key-of b)))
