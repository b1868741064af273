-- What a step passes, and a list has one list of actions as terminals take it.
use Rattle.std.proofs.Common.{ℤ, ◌↔◌, ◌≡◌, ℕ, zero, suc, ◌<◌, ◌≤◌, true, false, List, [], ◌∷◌, length, map, drop, Option, Some, None, refl, sym, subst, inl, inr, arith, length-drop, MatchBool, ◌||◌, Bool, take, ap, ◌∙◌}
use Rattle.std.proofs.{lemmas.Bool.cases_Bool, lemmas.Option.some_pair_parts}
use Rattle.csicodec_tokens.specs.{declared.param.CsiParam.CsiParam, Fields.Fields, Fields.fields_of}
use Rattle.csicodec_parser.specs.{Groups.is_byte, Groups.group, Groups.marked, declared.group.Group.Group, declared.group.Group.TheVariants.Whole}
use Rattle.csicodec_parser.specs.{declared.group.Group.TheVariants.Styles, declared.group.Group.TheVariants.Modes, declared.group.Group.TheVariants.DecModes}
use Rattle.csicodec_parser.specs.{Segments.Actions}
use Rattle.csicodec_terminal.specs.Terminal.{behind, has_unknown, past_semicolon, up_to, Anew, IsTakenFor, Step, Steps, Terminal, is_open, known_or}
use Rattle.csicodec_terminal.specs.Regular.{regular}
use Rattle.csicodec_tokens.proofs.Reading.{one_seq}
use Rattle.csicodec_actions.specs.Actions.{Action, Unspecified}
use Rattle.csicodec_parser.proofs.{Cuts.one_segmentation, Fronts.piece_front, Fronts.front_fits}

past_within : (list : List CsiParam) → length (past_semicolon list) ≤ length list
past_within [] = omega arith
past_within (t ∷ ts) = elim (cases_Bool (is_byte 59 (Some t))) [
  | inl hit ↦ rw hit (omega arith)
  | inr other ↦ rw other (omega arith)
]

pub behind_piece : (k : ℕ) (rest : List CsiParam) → 0 < k → k ≤ length rest → length (behind k rest) < length rest
behind_piece k rest some within = omega (arith, past_within (drop k rest), length-drop k rest)

pub behind_unknown : (n : ℕ) (rest : List CsiParam) → 0 < length rest → up_to n rest ≤ length rest → length (behind (up_to n rest) rest) < length rest
behind_unknown n [] there within = absurd (omega (arith, there))
behind_unknown n (t ∷ ts) there within = go (up_to n (t ∷ ts)) refl
  where
    at_semicolon : is_byte 59 (Some t) ≡ true → length (behind 0 (t ∷ ts)) < length (t ∷ ts)
    at_semicolon hit = rw hit (omega arith)

    passes : is_byte 59 (Some t) ≡ false → up_to n (t ∷ ts) ≡ suc (up_to n ts)
    passes other = rw other refl

    go : (k : ℕ) → up_to n (t ∷ ts) ≡ k → length (behind (up_to n (t ∷ ts)) (t ∷ ts)) < length (t ∷ ts)
    go (suc k) e = behind_piece (up_to n (t ∷ ts)) (t ∷ ts) (omega (arith, e)) within
    go zero e = elim (cases_Bool (is_byte 59 (Some t))) [
      | inl hit ↦ subst (λ (j : ℕ). length (behind j (t ∷ ts)) < length (t ∷ ts)) (sym e) (at_semicolon hit)
      | inr other ↦ absurd (omega (arith, e, passes other))
    ]

pub no_fields : (list : List CsiParam) → ((l : List CsiParam) (f : List (Option ℤ)) → Fields l f ↔ (fields_of l ≡ Some f)) → ((f : List (Option ℤ)) → Fields list f → ⊥) → fields_of list ≡ None
no_fields list law none = go (fields_of list) refl
  where
    go : (o : Option (List (Option ℤ))) → fields_of list ≡ o → fields_of list ≡ None
    go None e = e
    go (Some f) e = absurd (none f ((law list f).1 e))

-- ---- A list has one list of actions as terminals take it, and where the table reads all it is the table's.

step_one : (g : Group) (flag : Bool) (final : ℕ) (rest : List CsiParam) (k j : ℕ) (x y : Action) → Step g flag final rest k x → Step g flag final rest j y → (k ≡ j) × (x ≡ y)
step_one g flag final rest k j x y (inl p) (inl q) =
    let parts = some_pair_parts _ _ _ _ (sym (piece_front g rest k x p) ∙ piece_front g rest j y q) in
    (parts.1, parts.0)
step_one g flag final rest k j x y (inl p) (inr u) = absurd (u.0 k x p)
step_one g flag final rest k j x y (inr u) (inl p) = absurd (u.0 j y p)
step_one g flag final rest k j x y (inr u) (inr v) =
    let same = u.2 ∙ sym v.2 in
    (same, u.3 ∙ ap (λ n. Unspecified (marked g (take n rest)) flag final) same ∙ sym v.3)

no_step : (g : Group) (flag : Bool) (final : ℕ) (k : ℕ) (x : Action) → Step g flag final [] k x → ⊥
no_step g flag final k x (inl p) = let f = front_fits g [] x k (piece_front g [] k x p) in omega (arith, f.some, f.within)
no_step g flag final k x (inr u) = omega (arith, u.1)

steps_one : (g : Group) (flag : Bool) (final : ℕ) (rest : List CsiParam) (xs ys : List Action) → Steps g flag final rest xs → Steps g flag final rest ys → xs ≡ ys
steps_one g flag final rest [] [] s t = refl
steps_one g flag final rest [] (y ∷ ys) s t = absurd (no_step g flag final t.0 y (subst (λ l. Step g flag final l t.0 y) s t.1))
steps_one g flag final rest (x ∷ xs) [] s t = absurd (no_step g flag final s.0 x (subst (λ l. Step g flag final l s.0 x) t s.1))
steps_one g flag final rest (x ∷ xs) (y ∷ ys) s t =
    let same = step_one g flag final rest s.0 t.0 x y s.1 t.1 in
    let others = steps_one g flag final (behind t.0 rest) xs ys (subst (λ n. Steps g flag final (behind n rest) xs) same.0 s.2) t.2 in
    rw (same.1, others) refl

cut_one : (g : Group) (flag : Bool) (final : ℕ) (foreign : Bool) (one : List Action)
    (rest : List CsiParam) (xs ys : List Action) →
    MatchBool foreign (xs ≡ one) (Steps g flag final rest xs) →
    MatchBool foreign (ys ≡ one) (Steps g flag final rest ys) → xs ≡ ys
cut_one g flag final true one rest xs ys s t = s ∙ sym t
cut_one g flag final false one rest xs ys s t = steps_one g flag final rest xs ys s t

anew_one : (g : Group) (list : List CsiParam) (flag : Bool) (final : ℕ) (xs ys : List Action) → Anew g list flag final xs → Anew g list flag final ys → xs ≡ ys
anew_one Whole list flag final xs ys s t = s.2 ∙ ap (known_or list flag final) (one_segmentation (regular list final) flag final s.0 t.0 s.1 t.1) ∙ sym t.2
anew_one Styles list flag final xs ys s t = cut_one Styles flag final _ _ _ xs ys s t
anew_one (Modes m) list flag final xs ys s t = cut_one (Modes m) flag final _ _ _ xs ys s t
anew_one (DecModes c) list flag final xs ys s t = cut_one (DecModes c) flag final _ _ _ xs ys s t

either_one : (less : Bool) (g : Group) (list : List CsiParam) (flag : Bool) (final : ℕ)
    (first xs ys : List Action) → MatchBool less (Anew g list flag final xs) (xs ≡ first) →
    MatchBool less (Anew g list flag final ys) (ys ≡ first) → xs ≡ ys
either_one true g list flag final first xs ys s t = anew_one g list flag final xs ys s t
either_one false g list flag final first xs ys s t = s ∙ sym t

abbrev Second : List CsiParam → Bool → ℕ → List Action → List Action → Type 0
Second list flag final first xs = MatchBool (has_unknown first || is_open (group list final) list) (Anew (group list final) list flag final xs) (xs ≡ first)

pub one_reading : (list : List CsiParam) (flag : Bool) (final : ℕ) (xs ys : List Action) → Terminal list flag final xs → Terminal list flag final ys → xs ≡ ys
one_reading list flag final xs ys s t =
    let same = one_segmentation list flag final s.0 t.0 s.1 t.1 in
    either_one (has_unknown t.0 || is_open (group list final) list) (group list final) list flag final t.0 xs ys (subst (λ first. Second list flag final first xs) same s.2) t.2

pub taken_once : (bytes : List ℕ) (xs ys : List Action) → IsTakenFor bytes xs → IsTakenFor bytes ys → xs ≡ ys
taken_once bytes xs ys (l, f, s, a) (m, g, t, b) =
    let same = one_seq bytes bytes [] [] l m f g s t refl in
    one_reading l false f xs ys a (rw (same.1, same.2) b)

pub agree : (list : List CsiParam) (flag : Bool) (final : ℕ) (first xs : List Action) →
    Actions list flag final first → has_unknown first ≡ false →
    is_open (group list final) list ≡ false → Terminal list flag final xs → xs ≡ first
agree list flag final first xs are known closed t =
    let same = one_segmentation list flag final t.0 first t.1 are in
    let all : has_unknown first || is_open (group list final) list ≡ false = rw (known, closed) refl in
    subst (λ b. MatchBool b (Anew (group list final) list flag final xs) (xs ≡ first)) all (subst (λ l. Second list flag final l xs) same t.2)
