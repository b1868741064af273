-- Room with one item more, and with one action more.
use Rattle.std.proofs.Common.{◌≡◌, ◌<◌, ◌≤◌, ◌+◌, ℕ, suc, List, [], ◌∷◌, ◌++◌, length, take, slice_set, Some, ap, sym, refl, ◌∙◌, arith, length-append}
use Rattle.std.proofs.{lemmas.List.flat_map_more, lemmas.List.take_more, lemmas.Option.get_or_from_slice_get, lemmas.Option.slice_get_within}
use Rattle.std.specs.List.{slice_get}
use Rattle.csicodec_actions.specs.Actions.{Action}
use Rattle.csicodec_structs.specs.{declared.lay.Counts.Counts, declared.structs.Param.Param, declared.structs.Struct.Struct, Next.Lays, Next.all_params}
use Rattle.csicodec_structs.specs.{Next.structs, Private.Steps.PutsBehind, Room.laid, Rows.params_of, Rows.struct_of}

-- ---- items

laid_length : {A : Type 0} (old items : List A) → length (laid old items) ≡ length old
laid_length [] items = refl
laid_length (x ∷ old) [] = refl
laid_length (x ∷ old) (y ∷ items) = ap suc (laid_length old items)

pub laid_none : {A : Type 0} (old : List A) → laid old [] ≡ old
laid_none [] = refl
laid_none (x ∷ old) = refl

laid_more : {A : Type 0} (old items : List A) (x : A) → length items < length old → slice_set (laid old items) (length items) x ≡ laid old (items ++ x ∷ [])
laid_more [] items x low = absurd (omega (arith, low))
laid_more (o ∷ old) [] x low = ap (λ l. x ∷ l) (sym (laid_none old))
laid_more (o ∷ old) (y ∷ items) x low = ap (λ l. y ∷ l) (laid_more old items x (omega (arith, low)))

laid_full : {A : Type 0} (old items : List A) (x : A) → length old ≤ length items → laid old items ≡ laid old (items ++ x ∷ [])
laid_full [] items x high = refl
laid_full (o ∷ old) [] x high = absurd (omega (arith, high))
laid_full (o ∷ old) (y ∷ items) x high = ap (λ l. y ∷ l) (laid_full old items x (omega (arith, high)))

-- where there is room for it
pub put_more : {A : Type 0} (room old items : List A) (place : ℕ) (x : A) → room ≡ laid old items → place ≡ length items → place < length room →
    slice_set room place x ≡ laid old (items ++ x ∷ [])
put_more room old items place x is at low =
    let long : length room ≡ length old = ap length is ∙ laid_length old items in
    ap (λ l. slice_set l place x) is ∙ (ap (λ n. slice_set (laid old items) n x) at ∙ laid_more old items x (omega (arith, long, at, low)))

-- and where there is none
pub put_full : {A : Type 0} (room old items : List A) (place : ℕ) (x : A) → room ≡ laid old items → place ≡ length items → length room ≤ place →
    room ≡ laid old (items ++ x ∷ [])
put_full room old items place x is at high =
    let long : length room ≡ length old = ap length is ∙ laid_length old items in
    is ∙ laid_full old items x (omega (arith, long, at, high))

-- ---- actions

length_structs : (place : ℕ) (xs : List Action) → length (structs place xs) ≡ length xs
length_structs place [] = refl
length_structs place (x ∷ xs) = ap suc (length_structs (place + length (params_of x)) xs)

places : (place : ℕ) (xs ys : List Param) → place + length xs + length ys ≡ place + length (xs ++ ys)
places place xs ys = let e : length (xs ++ ys) ≡ length xs + length ys = length-append xs ys in omega (arith, e)

-- the last action's tokens stand behind those of the actions before
structs_snoc : (place : ℕ) (xs : List Action) (a : Action) → structs place (xs ++ a ∷ []) ≡ structs place xs ++ struct_of (place + length (all_params xs)) a ∷ []
structs_snoc place [] a = ap (λ n. struct_of n a ∷ []) (omega arith)
structs_snoc place (x ∷ xs) a =
    ap (λ l. struct_of place x ∷ l)
    (structs_snoc (place + length (params_of x)) xs a ∙ ap (λ n. structs (place + length (params_of x)) xs ++ struct_of n a ∷ []) (places place (params_of x) (all_params xs)))

from_zero : (n : ℕ) → 0 + n ≡ n
from_zero n = omega arith

length_snoc : {A : Type 0} (xs : List A) (x : A) → length (xs ++ x ∷ []) ≡ length xs + 1
length_snoc xs x = length-append xs (x ∷ [])

params_snoc : (before : List Action) (a : Action) → all_params (before ++ a ∷ []) ≡ all_params before ++ params_of a
params_snoc before a = sym (flat_map_more params_of [] before a)

pub lays_more : (oa ma na : List Struct) (op mp np : List Param) (count : Counts) (next end : ℕ) (p : Struct) (before : List Action) (a : Action)
    → Lays oa ma op mp count before
    → p ≡ struct_of count.params a
    → ((old items : List Struct) → ma ≡ laid old items → count.actions ≡ length items → na ≡ laid old (items ++ p ∷ []))
    → PutsBehind mp np count.params (params_of a) end
    → next ≡ count.actions + 1
    → Lays oa na op np (record { actions = next; params = end }) (before ++ a ∷ [])
lays_more oa ma na op mp np count next end p before a lays made puts_action tokens more =
    let action = puts_action oa (structs 0 before) lays.lays_actions (lays.actions ∙ sym (length_structs 0 before)) in
    record {
      actions = more ∙ (ap (λ n. n + 1) lays.actions ∙ sym (length_snoc before a));
      params = omega (arith, tokens.ends, lays.params, length-append (all_params before) (params_of a), ap length (params_snoc before a));
      lays_actions =
          action ∙ ap (laid oa) (ap (λ q. structs 0 before ++ q ∷ []) (made ∙ ap (λ n. struct_of n a) (lays.params ∙ sym (from_zero (length (all_params before))))) ∙ sym (structs_snoc 0 before a));
      lays_params = tokens.puts op (all_params before) lays.lays_params lays.params ∙ ap (laid op) (sym (params_snoc before a));
    }

pub lays_none : (actions : List Struct) (params : List Param) → Lays actions actions params params (record { actions = 0; params = 0 }) []
lays_none actions params = record { actions = refl; params = refl; lays_actions = sym (laid_none actions); lays_params = sym (laid_none params) }

pub take_got : (all : List Action) (i : ℕ) (a : Action) → slice_get all i ≡ Some a → take (i + 1) all ≡ take i all ++ a ∷ []
take_got all i a e = take_more all i a (slice_get_within all i a e) ∙ ap (λ x. take i all ++ x ∷ []) (get_or_from_slice_get all i a a e)
