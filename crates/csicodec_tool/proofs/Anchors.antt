-- Lines that are numbered: as they come, from a transform.
use Rattle.csicodec_tool.proofs.Common.{Bool, true, false, ◌≡◌, ℕ, List, [], ◌∷◌, ◌++◌, refl, sym, ap, subst, ◌∙◌, append_assoc, Sends, Transforms, GoesOn}
use Rattle.csicodec_tool.specs.Numbered.{EndsNumbered, NumberedAs, PassesNumbered, behind, front, front_of, further, numbered}
use Rattle.csicodec_tool.specs.{declared.numbered.Numberer.Numberer, declared.numbered.Place.Place}
use Rattle.csicodec_transform.specs.Transform.{EndsOf, PassesOf}

pub numbered_on : (p : Place) (xs ys : List ℕ) → numbered p (xs ++ ys) ≡ numbered p xs ++ numbered (behind p xs) ys
numbered_on p [] ys = refl
numbered_on p (b ∷ xs) ys =
    ap (λ (t : List ℕ). front_of p ++ (b ∷ t)) (numbered_on (further p b) xs ys)
    ∙ sym (append_assoc (front_of p) (b ∷ numbered (further p b) xs) (numbered (behind (further p b) xs) ys))

behind_on : (p : Place) (xs ys : List ℕ) → behind p (xs ++ ys) ≡ behind (behind p xs) ys
behind_on p [] ys = refl
behind_on p (b ∷ xs) ys = behind_on (further p b) xs ys

-- what a transform wrote goes on, and what is written of that
pub goes_numbered : {T : Type 0} (P : PassesOf T) (old new : Numberer T) (bytes more : List ℕ) → GoesOn P old.inner bytes more new.inner
    → new.place ≡ behind old.place more → GoesOn (PassesNumbered P) old bytes (numbered old.place more) new
goes_numbered P old new bytes more goes place first before text (plain, passed, e, f) = (
  plain ++ more,
  goes first.inner before plain passed,
  rw (e, f) (sym (numbered_on first.place plain more)),
  place ∙ ap (λ (p : Place). behind p more) f ∙ sym (behind_on first.place plain more),
)

pub numbered_begun : {T : Type 0} (P : PassesOf T) (n : Numberer T) (inner : T) → n.inner ≡ inner → P inner [] [] inner → PassesNumbered P n [] [] n
numbered_begun P n inner same begun = ([], rw same begun, refl, refl)

pub numbered_sure : {T : Type 0} (P : PassesOf T) (n : Numberer T) (inner : T) (bytes text : List ℕ) → n.place ≡ front → n.inner ≡ inner → Sends (PassesNumbered P) n bytes text
    → NumberedAs true (Sends P inner) bytes text
numbered_sure P n inner bytes text place same (last, (plain, passed, e, f)) =
    (plain, (last.inner, subst (λ (t : _). P t bytes plain last.inner) same passed), subst (λ (p : Place). text ≡ numbered p plain) place e)

pub numbered_whole : {T : Type 0} (P : PassesOf T) (E : EndsOf T) (n : Numberer T) (inner : T) (bytes text : List ℕ) → n.place ≡ front → n.inner ≡ inner
    → Transforms (PassesNumbered P) (EndsNumbered E) n bytes text → NumberedAs true (Transforms P E inner) bytes text
numbered_whole P E n inner bytes text place same (last, sure, rest, (plain, passed, e, f), (more, ends, g), split) = (
  plain ++ more,
  (last.inner, plain, more, subst (λ (t : _). P t bytes plain last.inner) same passed, ends, refl),
  subst (λ (p : Place). text ≡ numbered p (plain ++ more)) place (rw (split, e, g, f) (sym (numbered_on n.place plain more))),
)

-- what comes of bytes otherwise, numbered or not
pub numbered_weaker : (ids : Bool) (Out Other : List ℕ → List ℕ → Type 0) → ((bytes text : List ℕ) → Out bytes text → Other bytes text)
    → (bytes text : List ℕ) → NumberedAs ids Out bytes text → NumberedAs ids Other bytes text
numbered_weaker false Out Other weaker bytes text out = weaker bytes text out
numbered_weaker true Out Other weaker bytes text (plain, out, e) = (plain, weaker bytes plain out, e)

-- what is sure of them, numbered, begins what becomes of them
pub numbered_front : (ids : Bool) (Sure Front : List ℕ → List ℕ → Type 0) → ((bytes text : List ℕ) → Sure bytes text → (unsent : List ℕ) × Front bytes (text ++ unsent))
    → (bytes text : List ℕ) → NumberedAs ids Sure bytes text → (unsent : List ℕ) × NumberedAs ids Front bytes (text ++ unsent)
numbered_front false Sure Front sure bytes text is = sure bytes text is
numbered_front true Sure Front sure bytes text (plain, is, e) =
    let (more, whole) = sure bytes plain is in
    (numbered (behind front plain) more, (plain ++ more, whole, rw e (sym (numbered_on front plain more))))
