-- The fields of a list are those that are computed, and no others.
use Rattle.std.proofs.Common.{◌≡◌, ℕ, ℤ, ◌<◌, true, List, [], ◌∷◌, ◌++◌, length, Option, Some, None, refl, sym, ap, subst, ◌∙◌, inl, inr, arith}
use Rattle.std.proofs.{lemmas.Bool.and_parts, lemmas.Bool.cases_Bool, lemmas.Bool.eqb-true, lemmas.Option.same_Some}
use Rattle.std.specs.{Prelude.◌==◌, Prelude.◌↔◌, Prelude.Bool, Prelude.if◌then◌else◌, List.list_all}
use Rattle.csicodec_tokens.specs.Fields.{separator, BeginsEmpty, IsBlock, Fields, RefusesFields, fields_of, with_field}
use Rattle.csicodec_tokens.specs.{declared.param.CsiParam.CsiParam, declared.param.CsiParam.TheVariants.Integer, declared.param.CsiParam.TheVariants.P}
use Rattle.csicodec_tokens.specs.{declared.refusal.ParseRefusal.TheVariants.Memory, Private.FieldsBy.is_field_token}

-- ---- fields are computed

-- a number stands alone ahead of fields of which the first isn't empty
number_computed : (z : ℤ) (rest : List CsiParam) (f : List (Option ℤ)) → ¬ BeginsEmpty f → fields_of rest ≡ Some f → fields_of (Integer z ∷ rest) ≡ Some (Some z ∷ f)
number_computed z [] f full e = ap (λ (g : List (Option ℤ)). Some (Some z ∷ g)) (same_Some _ _ e)
number_computed z (Integer y ∷ rest) f full e = ap (with_field (Some z)) e
number_computed z (P b ∷ rest) f full e = elim (cases_Bool (b == 59)) [
  | inl same ↦ absurd (behind (fields_of rest) (rw same at e))
  | inr other ↦ (let none : None ≡ Some f = rw other at e in cc)
]
  where
    behind : (o : Option (List (Option ℤ))) → with_field None o ≡ Some f → ⊥
    behind None e = cc
    behind (Some g) e = full (subst BeginsEmpty (same_Some _ _ e) tt)

block_computed : (block : List CsiParam) (x : Option ℤ) (f : List (Option ℤ)) (rest : List CsiParam) → IsBlock block x f → fields_of rest ≡ Some f → fields_of (block ++ rest) ≡ Some (x ∷ f)
block_computed block None f rest k e = rw (k, e) refl
block_computed block (Some z) f rest (inl k) e = rw (k, e) refl
block_computed block (Some z) f rest (inr k) e = rw k.0 (number_computed z rest f k.1 e)

pub fields-computed : (f : List (Option ℤ)) (list : List CsiParam) → Fields list f → fields_of list ≡ Some f
fields-computed [] list h = rw h refl
fields-computed (x ∷ f) list h = rw h.2 (block_computed h.0 x f h.1 h.3 (fields-computed f h.1 h.4))

-- ---- what is computed are fields

record AreFields (list : List CsiParam) (o : Option (List (Option ℤ))) : Type 0 where
  each : (f : List (Option ℤ)) → o ≡ Some f → Fields list f

-- what begins with a number has no empty field first
not_empty : (y : ℤ) (list : List CsiParam) (g : List (Option ℤ)) → Fields (Integer y ∷ list) g → BeginsEmpty g → ⊥
not_empty y list [] h b = b
not_empty y list (Some z ∷ g) h b = b
not_empty y list (None ∷ g) h b = let front : Integer y ∷ list ≡ separator ∷ h.1 = h.2 ∙ ap (λ (t : List CsiParam). t ++ h.1) h.3 in cc

with_block : (list block rest : List CsiParam) (x : Option ℤ) (o : Option (List (Option ℤ))) → list ≡ block ++ rest → ((f : List (Option ℤ)) → Fields rest f → IsBlock block x f)
    → AreFields rest o → AreFields list (with_field x o)
with_block list block rest x None parts is h = record { each = λ f e. cc }
with_block list block rest x (Some g) parts is h = record {
  each = λ f e. subst (Fields list) (same_Some _ _ e) (block, rest, parts, is g (h.each g refl), h.each g refl);
}

are_fields : (list : List CsiParam) → AreFields list (fields_of list)
are_fields [] = record { each = λ f e. subst (Fields []) (same_Some _ _ e) refl }
are_fields (P b ∷ list) = elim (cases_Bool (b == 59)) [
  | inl same ↦ rw same (with_block _ (separator ∷ []) list None _ (ap (λ (c : ℕ). P c ∷ list) (eqb-true b 59 same)) (λ f h. refl) (are_fields list))
  | inr other ↦ rw other (record { each = λ f e. cc })
]
are_fields (Integer z ∷ []) = record { each = λ f e. subst (Fields (Integer z ∷ [])) (same_Some _ _ e) (Integer z ∷ [], [], refl, inr (refl, λ b. b), refl) }
are_fields (Integer z ∷ P b ∷ list) = elim (cases_Bool (b == 59)) [
  | inl same ↦ rw same (with_block _ (Integer z ∷ separator ∷ []) list (Some z) _ (ap (λ (c : ℕ). Integer z ∷ P c ∷ list) (eqb-true b 59 same)) (λ f h. inl refl) (are_fields list))
  | inr other ↦ rw other (record { each = λ f e. cc })
]
are_fields (Integer z ∷ Integer y ∷ list) =
    with_block _ (Integer z ∷ []) (Integer y ∷ list) (Some z) _ refl (λ f h. inr (refl, not_empty y list f h)) (are_fields (Integer y ∷ list))

pub fields_in_turn : (list : List CsiParam) (f : List (Option ℤ)) → Fields list f ↔ (fields_of list ≡ Some f)
fields_in_turn list f = (fields-computed f list, (are_fields list).each f)

pub one_fields : (list : List CsiParam) (f g : List (Option ℤ)) → Fields list f → Fields list g → f ≡ g
one_fields list f g h i = same_Some _ _ (sym (fields-computed f list h) ∙ fields-computed g list i)

-- ---- which lists have fields

block_tokens : (block : List CsiParam) (x : Option ℤ) (next : List (Option ℤ))
    (rest : List CsiParam) → IsBlock block x next → list_all is_field_token rest ≡ true →
    list_all is_field_token (block ++ rest) ≡ true
block_tokens block None next rest k h = rw k h
block_tokens block (Some z) next rest (inl k) h = rw k h
block_tokens block (Some z) next rest (inr k) h = rw k.0 h

-- no byte but `;` stands in a list with fields
pub have_tokens : (f : List (Option ℤ)) (list : List CsiParam) → Fields list f → list_all is_field_token list ≡ true
have_tokens [] list h = rw h refl
have_tokens (x ∷ f) list h = rw h.2 (block_tokens h.0 x f h.1 h.3 (have_tokens f h.1 h.4))

some_with : (x : Option ℤ) (same : Bool) (o : Option (List (Option ℤ))) (f : List (Option ℤ)) → same ≡ true → o ≡ Some f → (if same then with_field x o else None) ≡ Some (x ∷ f)
some_with x same o f s e = rw (s, e) refl

some_fields : (list : List CsiParam) → list_all is_field_token list ≡ true → (f : List (Option ℤ)) × (fields_of list ≡ Some f)
some_fields [] h = ([], refl)
some_fields (P b ∷ list) h =
    let p = and_parts (b == 59) (list_all is_field_token list) h in
    let r = some_fields list p.1 in (None ∷ r.0, some_with None (b == 59) (fields_of list) r.0 p.0 r.1)
some_fields (Integer z ∷ []) h = (Some z ∷ [], refl)
some_fields (Integer z ∷ P b ∷ list) h =
    let p = and_parts (b == 59) (list_all is_field_token list) h in
    let r = some_fields list p.1 in (Some z ∷ r.0, some_with (Some z) (b == 59) (fields_of list) r.0 p.0 r.1)
some_fields (Integer z ∷ Integer y ∷ list) h = let r = some_fields (Integer y ∷ list) h in (Some z ∷ r.0, rw r.1 refl)

-- a list of numbers and `;` that isn't empty has some
pub wants_memory : (list : List CsiParam) → list_all is_field_token list ≡ true → 0 < length list → RefusesFields list Memory
wants_memory list h lt =
    let r = some_fields list h in
    let fields = (are_fields list).each r.0 r.1 in (r.0, fields, nonempty r.0 list fields lt)
  where
    nonempty : (f : List (Option ℤ)) (list : List CsiParam) → Fields list f → 0 < length list → 0 < length f
    nonempty [] list h lt = omega (arith, ap length h)
    nonempty (x ∷ f) list h lt = omega arith
