-- What is left of a list without those at its end.
use Rattle.std.proofs.Common.{◌≡◌, ◌∙◌, Bool, true, false, cond, ◌&&◌, List, [], ◌∷◌, ◌++◌, refl, ap, sym}
use Rattle.csicodec_screen.specs.Views.{is_nil, trimmed}

has_one : {A : Type 0} (list : List A) (x : A) → is_nil (list ++ x ∷ []) ≡ false
has_one [] x = refl
has_one (y ∷ list) x = refl

module _ {A : Type 0} (p : A → Bool) where
  last_gone : (list : List A) (x : A) → p x ≡ true → trimmed p (list ++ x ∷ []) ≡ trimmed p list
  last_gone [] x e = ap (λ (b : Bool). cond b [] (x ∷ [])) e
  last_gone (y ∷ list) x e = ap (λ (z : List A). cond (is_nil z && p y) [] (y ∷ z)) (last_gone list x e)

  last_stays : (list : List A) (x : A) → p x ≡ false → trimmed p (list ++ x ∷ []) ≡ list ++ x ∷ []
  last_stays [] x e = ap (λ (b : Bool). cond b [] (x ∷ [])) e
  last_stays (y ∷ list) x e =
      ap (λ (z : List A). cond (is_nil z && p y) [] (y ∷ z)) (last_stays list x e)
      ∙ ap (λ (b : Bool). cond (b && p y) [] (y ∷ (list ++ x ∷ []))) (has_one list x)

  -- one at the end is left out
  pub trimmed_more : (list front whole : List A) (x : A) → list ≡ front ++ x ∷ [] → p x ≡ true → trimmed p list ≡ trimmed p whole → trimmed p front ≡ trimmed p whole
  trimmed_more list front whole x e h before = sym (ap (trimmed p) e ∙ last_gone front x h) ∙ before

  -- or none is
  pub trimmed_here : (list front whole : List A) (x : A) → list ≡ front ++ x ∷ [] → p x ≡ false → trimmed p list ≡ trimmed p whole → list ≡ trimmed p whole
  trimmed_here list front whole x e h before = e ∙ sym (ap (trimmed p) e ∙ last_stays front x h) ∙ before
