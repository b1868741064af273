-- Tokens of structs: one that stands for nothing, and one more.
use Rattle.std.proofs.Common.{◌≡◌, ◌<◌, ◌+◌, ◌++◌, ℕ, List, [], ◌∷◌, length, map, take, set, slice_index_or, ap, sym, subst, ◌∙◌, arith}
use Rattle.std.proofs.{lemmas.List.get_or-map, lemmas.List.length-map, lemmas.List.map-append, lemmas.List.take_more, lemmas.List.take_more_set}
use Rattle.std.proofs.{lemmas.List.Elements.All-get_or, lemmas.List.Elements.All-push}
use Rattle.std.specs.List.{All}
use Rattle.csicodec_tokens.specs.declared.param.CsiParam.{CsiParam}
use Rattle.csicodec_structs.specs.{declared.structs.Param.Param, Structs.param_of, Structs.TokenInRange}

pub none_crosses : {A : Type 0} (crosses : A → Param) (InRange : A → Type 0) (params : List Param) (i : ℕ) (d : Param) → i < length params
    → ((a : A) → InRange a → crosses a ≡ slice_index_or params i d → ⊥) → (all : List A) → All InRange all → map crosses all ≡ params → ⊥
none_crosses crosses InRange params i d low none [] held same = absurd (omega (arith, low, ap length same))
none_crosses crosses InRange params i d low none (x ∷ xs) held same =
    let long : length (x ∷ xs) ≡ length params = sym (length-map (x ∷ xs) crosses) ∙ ap length same in
    let here : i < length (x ∷ xs) = omega (arith, low, long) in
    none (slice_index_or (x ∷ xs) i x) (All-get_or InRange (x ∷ xs) i x here held) (sym (get_or-map crosses (x ∷ xs) i x d here) ∙ ap (λ l. slice_index_or l i d) same)

-- a token more
pub one_more : (room : List CsiParam) (params : List Param) (i : ℕ) (d : Param) (t : CsiParam) → i < length room → i < length params
    → All TokenInRange (take i room) × (map param_of (take i room) ≡ take i params) → TokenInRange t → param_of t ≡ slice_index_or params i d
    → All TokenInRange (take (i + 1) (set room i t)) × (map param_of (take (i + 1) (set room i t)) ≡ take (i + 1) params)
one_more room params i d t low few are in_range same =
    let list = sym (take_more_set room i t low) in (
      subst (λ (l : List CsiParam). All TokenInRange l) list (All-push TokenInRange (take i room) t are.0 in_range),
      ap (map param_of) (sym list) ∙ map-append param_of (take i room) (t ∷ []) ∙ ap (λ (l : List Param). l ++ param_of t ∷ []) are.1
          ∙ ap (λ (p : Param). take i params ++ p ∷ []) same ∙ sym (take_more params i d few),
    )
