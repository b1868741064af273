-- One call of `next`, over plain variables.
use Rattle.std.specs.{Prelude.Ok, Prelude.Err, declared.alloc.AllocError.AllocError}
use Rattle.std.proofs.{Common.add-one, lemmas.Bool.ne_eqb, lemmas.List.drop_all}
use Rattle.csicodec_parser.specs.{Private.Steps.all_of, Private.Steps.Sound, declared.parser.ActionRef.ActionRef, Cut.IsRestAfter, Progress.Progress}
use Rattle.csicodec_parser.specs.{Progress.ActionsOf, Progress.HasEnded, Progress.most_left, Next.Answers, Next.AnswersRef, Next.Nexts, Next.NextsRef}
use Rattle.csicodec_parser.proofs.Cuts.{at_drop, actions_are, actions_only, actions_count, first_rest, more_rest}
use Rattle.csicodec_parser.proofs.Common.{slice_get, ◌≡◌, ℕ, ◌+◌, ◌*◌, ◌<◌, ◌≤◌, ◌==◌, Bool, true, false, List, [], ◌∷◌, length, drop, Some, None, refl, sym, ap, ◌∙◌, arith, inl, inr, length-drop, subst, drop-drop, CsiParam, rest_action, actions_after, left_at, fresh_cost, from_at, GoesBy, CanGo, CutsOn, has_failed, CSI, Stage, Fresh, Going, Failed, Group, action_of, group, IsRef, Action}
use Rattle.csicodec_parser.proofs.Blocks.{after_some, rest_takes}

end_of : {A : Type 0} (xs : List A) (i : ℕ) → drop i xs ≡ [] → length xs ≤ i
end_of xs i e = let h : length (drop i xs) ≡ 0 = ap length e in omega (arith, length-drop i xs)

-- what the run was made of stays
pub record Same (p q : Progress) : Type 0 where
  pub list : q.list ≡ p.list
  pub flag : q.flag ≡ p.flag
  pub final : q.final ≡ p.final

left_now : (s : Stage) (p : Progress) → p.failed ≡ has_failed s → Sound s p → p.failed ≡ false → drop p.given (all_of p) ≡ left_at s p.flag p.final p.list p.passed
left_now Fresh p f h n = ap (λ k. drop k (all_of p)) h.stands.0
left_now (Going g) p f h n = h.stands.1
left_now Failed p f h n = cc

budget : (s : Stage) (p : Progress) (q l : ℕ) → Sound s p → q ≤ length p.list →
    l + 115 * p.passed ≤ p.looks + (1 + length p.list) * fresh_cost s + 115 * q → p.failed ≡ false →
    p.failed ≡ has_failed s → l ≤ 1 + length p.list + 115 * q
budget Fresh p q l h w c n f = let a = h.stands in omega arith
budget (Going g) p q l h w c n f = let a = h.stands.2 in omega arith
budget Failed p q l h w c n f = cc

not_failed : (s : Stage) (p : Progress) (a : Action) (more : List Action) → p.failed ≡ has_failed s → left_at s p.flag p.final p.list p.passed ≡ a ∷ more → p.failed ≡ false
not_failed Failed p a more f e = cc
not_failed _ p a more f e = f

group_now : (s : Stage) (p : Progress) (g : Group) → Sound s p → GoesBy s p.list p.final g → g ≡ group p.list p.final
group_now Fresh p g h b = b
group_now (Going k) p g h b = b ∙ h.stands.0
group_now Failed p g h b = absurd b

rest_next : (s : Stage) (p : Progress) (g : Group) (q : ℕ) → Sound s p → GoesBy s p.list p.final g →
    CutsOn g p.list (from_at s g p.passed) q → q ≤ length p.list →
    IsRestAfter p.list p.final (p.given + 1) (drop q p.list)
rest_next Fresh p g q h b on w =
    rw (add-one p.given) (first_rest g p.list p.final q p.given b on h.stands.0)
rest_next (Going k) p g q h b on w =
    let low : p.passed < q = on.2 in
    rw (add-one p.given) (more_rest g p.list p.final p.passed q p.given (b ∙ h.stands.0) h.stands.4 (h.stands.3 (omega arith)) on)
rest_next Failed p g q h b on w = absurd b

-- a step of a run at stage s, from p to q: by the group g it gives the action a
pub record Steps (s : Stage) (g : Group) (p q : Progress) (a : Action) : Type 0 where
  pub same : Same p q
  pub goes : GoesBy s p.list p.final g
  pub told : left_at s p.flag p.final p.list p.passed ≡ a ∷ left_at (Going g) p.flag p.final p.list q.passed
  pub within : q.passed ≤ length q.list
  pub pays : q.looks + 115 * p.passed ≤ p.looks + (1 + length p.list) * fresh_cost s + 115 * q.passed
  pub counted : p.looks ≤ q.looks
  pub given : q.given ≡ p.given + 1
  pub going : q.failed ≡ false

-- and what that says of all actions and of the looks
record Gives (g : Group) (p q : Progress) (a : Action) : Type 0 where
  failed : p.failed ≡ false
  first : slice_get (all_of p) p.given ≡ Some a
  others : drop (p.given + 1) (all_of p) ≡ left_at (Going g) p.flag p.final p.list q.passed
  within : q.passed ≤ length p.list
  pays : q.looks ≤ 1 + length p.list + 115 * q.passed

gives : (s : Stage) (g : Group) (p q : Progress) (a : Action) → p.failed ≡ has_failed s → Sound s p → Steps s g p q a → Gives g p q a
gives s g p q a f h st =
    let n : p.failed ≡ false = not_failed s p _ _ f st.told in
    let all = left_now s p f h n ∙ st.told in
    let w : q.passed ≤ length p.list = rw (sym st.same.list) st.within in
    record { failed = n; first = at_drop (all_of p) p.given _ _ all; others = sym (drop-drop 1 p.given (all_of p)) ∙ ap (drop 1) all; within = w; pays = budget s p q.passed q.looks h w st.pays n f }

pub sound_ok : (s : Stage) (g : Group) (p q : Progress) (a : Action) → p.failed ≡ has_failed s → Sound s p → Steps s g p q a
    → (q.passed < length q.list → CutsOn g p.list (from_at s g p.passed) q.passed) → Sound (Going g) q
sound_ok s g p q a f h st on =
    let k = gives s g p q a f h st in
    let m = st.same in
    let after : q.passed < length q.list → IsRestAfter p.list p.final (p.given + 1) (drop q.passed p.list) = λ l. rest_next s p g q.passed h st.goes (on l) k.within in
    let some : 0 < p.given + 1 = omega arith in
    record { within = st.within; stands = rw (st.given, m.list, m.flag, m.final) (group_now s p g h st.goes, k.others, k.pays, rw m.list at after, some) }

-- what holds of the computed actions holds of the actions
by_actions : (p : Progress) (Q : List Action → Type 0) → Q (all_of p) → (xs : List Action) → ActionsOf p xs → Q xs
by_actions p Q h xs is = subst Q (sym (actions_only p.list p.flag p.final xs is)) h

pub next_ok : (s : Stage) (g : Group) (p q : Progress) (x : CSI) → p.failed ≡ has_failed s → Sound s p → Steps s g p q (action_of x) → Nexts p (Some (Ok x)) q
next_ok s g p q x f h st =
    let k = gives s g p q (action_of x) f h st in
    let all = by_actions p (λ xs. Answers xs p (Some (Ok x)) q) (k.failed, k.first, st.given, st.going) in
    let m = st.same in
    record { list = m.list; flag = m.flag; final = m.final; answers = all; counted = st.counted; cheap = rw m.list (omega (arith, k.pays, k.within)) }

pub ref_ok : (s : Stage) (g : Group) (p q : Progress) (r : ActionRef) (a : Action) → p.failed ≡ has_failed s → Sound s p → Steps s g p q a → IsRef r p.flag p.final a → NextsRef p (Some r) q
ref_ok s g p q r a f h st is =
    let k = gives s g p q a f h st in
    let all = by_actions p (λ xs. AnswersRef xs p (Some r) q) (k.failed, (a, k.first, is), st.given, st.going) in
    let m = st.same in
    record { list = m.list; flag = m.flag; final = m.final; answers = all; counted = st.counted; cheap = rw m.list (omega (arith, k.pays, k.within)) }

-- what is unread is one action, and nothing is left behind it
pub rest_alone : (g : Group) (flag : Bool) (final : ℕ) (list : List CsiParam) (p q : ℕ) (xs : List Action) → xs ≡ rest_action g (drop p list) flag final ∷ [] → length list ≤ q
    → xs ≡ rest_action g (drop p list) flag final ∷ actions_after g flag final (drop q list)
rest_alone g flag final list p q xs is long = rw (drop_all q list long) is

pub next_err : (s : Stage) (p q : Progress) (x : AllocError) (g : Group) (rest : List CsiParam) → p.failed ≡ has_failed s → Sound s p → Same p q
    → left_at s p.flag p.final p.list p.passed ≡ rest_action g rest p.flag p.final ∷ []
    → q.looks + 115 * p.passed ≤ p.looks + (1 + length p.list) * fresh_cost s + 115 * length p.list
    → q.given ≡ p.given → q.failed ≡ true → p.looks ≤ q.looks → Nexts p (Some (Err x)) q
next_err s p q x g rest f h m e c i nf l =
    let n : p.failed ≡ false = not_failed s p _ _ f e in
    let b : q.looks ≤ 1 + length p.list + 115 * length p.list = budget s p (length p.list) q.looks h (omega arith) c n f in
    let next = at_drop (all_of p) p.given _ _ (left_now s p f h n ∙ e) in
    let all = by_actions p (λ xs. Answers xs p (Some (Err x)) q) (n, (rest_action g rest p.flag p.final, next, rest_takes g rest p.flag p.final), i, nf) in
    record { list = m.list; flag = m.flag; final = m.final; answers = all; counted = l; cheap = rw m.list (omega arith) }

ended : (s : Stage) (p : Progress) → p.failed ≡ has_failed s → Sound s p → left_at s p.flag p.final p.list p.passed ≡ [] → HasEnded p
ended Failed p f h e = inl f
ended s p f h e = inr (all_of p, actions_are p.list p.flag p.final, end_of (all_of p) p.given (left_now s p f h f ∙ e))

within_budget : (s : Stage) (p : Progress) → Sound s p → p.looks ≤ 128 * (length p.list + 1)
within_budget Fresh p h = let a = h.stands in omega arith
within_budget (Going g) p h = let a = h.stands.2 in let w = h.within in omega arith
within_budget Failed p h = let a = h.stands in omega arith

pub next_none : (s : Stage) (p : Progress) → p.failed ≡ has_failed s → Sound s p → left_at s p.flag p.final p.list p.passed ≡ [] → Nexts p None p
next_none s p f h e =
    record { list = refl; flag = refl; final = refl; answers = λ xs is. (ended s p f h e, refl); counted = omega arith; cheap = within_budget s p h }

pub ref_none : (s : Stage) (p : Progress) → p.failed ≡ has_failed s → Sound s p → left_at s p.flag p.final p.list p.passed ≡ [] → NextsRef p None p
ref_none s p f h e =
    record { list = refl; flag = refl; final = refl; answers = λ xs is. (ended s p f h e, refl); counted = omega arith; cheap = within_budget s p h }

-- ---- one call leaves less

left_some : (s : Stage) (p : Progress) → p.failed ≡ has_failed s → Sound s p → CanGo s p.passed (length p.list) → 0 < most_left p
left_some Fresh p f h can = rw (f, h.stands.0) (omega arith)
left_some (Going g) p f h can = rw f (omega arith)
left_some Failed p f h can = absurd can

given_more : (p q : Progress) → q.given ≡ p.given + 1 → (q.given == 0) ≡ false
given_more p q e = ne_eqb q.given 0 (λ none. omega (arith, none, e))

pub goes_ok : (s : Stage) (g : Group) (p q : Progress) (a : Action) → p.failed ≡ has_failed s → Sound s p → Steps s g p q a → CanGo s p.passed (length p.list)
    → (p.passed < length p.list → p.passed < q.passed) → most_left q < most_left p
goes_ok Fresh g p q a f h st can on =
    let low : p.passed ≡ 0 = h.stands.1 in
    let w = st.within in
    rw (f, st.going, given_more p q st.given, st.same.list, h.stands.0) (omega arith)
goes_ok (Going k) g p q a f h st can on =
    let far : p.passed < q.passed = on can in
    let w = st.within in
    rw (f, st.going, given_more p q st.given, st.same.list) (omega arith)
goes_ok Failed g p q a f h st can on = absurd can

pub goes_err : (s : Stage) (p q : Progress) → p.failed ≡ has_failed s → Sound s p → CanGo s p.passed (length p.list) → q.failed ≡ true → most_left q < most_left p
goes_err s p q f h can e = let some = left_some s p f h can in rw e (omega arith)

-- ---- what is unread

-- a run that goes on has ended where all is passed
pub ended_at_end : (s : Stage) (p : Progress) (g : Group) → s ≡ Going g → Sound s p → length p.list ≤ p.passed → HasEnded p
ended_at_end (Going k) p g same h e =
    let d : drop p.passed p.list ≡ [] = drop_all p.passed p.list e in
    inr (all_of p, actions_are p.list p.flag p.final, end_of (all_of p) p.given (h.stands.1 ∙ ap (actions_after k p.flag p.final) d))
ended_at_end _ p g same h e = cc

pub fresh_rest : (s : Stage) (p : Progress) (r : List CsiParam) → s ≡ Fresh → Sound s p → r ≡ drop p.passed p.list → IsRestAfter p.list p.final p.given r
fresh_rest Fresh p r e h d = rw h.stands.0 (d ∙ ap (λ k. drop k p.list) h.stands.1)
fresh_rest _ p r e h d = cc

pub going_rest : (s : Stage) (p : Progress) (g : Group) (r : List CsiParam) → s ≡ Going g → Sound s p → p.passed < length p.list → r ≡ drop p.passed p.list → IsRestAfter p.list p.final p.given r
going_rest (Going k) p g r e h w d = rw d (h.stands.3 w)
going_rest _ p g r e h w d = cc

-- ---- while something is left, the run has not ended

pub fresh_goes : (s : Stage) (p : Progress) → s ≡ Fresh → p.failed ≡ has_failed s → Sound s p → HasEnded p → ⊥
fresh_goes Fresh p e f h (inl failed) = cc
fresh_goes Fresh p e f h (inr all) =
    let some = (actions_count p.list p.flag p.final all.0 all.1).0 in
    let none : p.given ≡ 0 = h.stands.0 in
    omega (arith, all.2)
fresh_goes _ p e f h ends = cc

pub going_goes : (s : Stage) (p : Progress) (g : Group) → s ≡ Going g → p.failed ≡ has_failed s → Sound s p → p.passed < length p.list → HasEnded p → ⊥
going_goes (Going k) p g e f h w (inl failed) = cc
going_goes (Going k) p g e f h w (inr all) =
    let same : all.0 ≡ all_of p = actions_only p.list p.flag p.final all.0 all.1 in
    let some = after_some k p.flag p.final (drop p.passed p.list) (omega (arith, length-drop p.passed p.list)) in
    let left : length (drop p.given (all_of p)) ≡ length (actions_after k p.flag p.final (drop p.passed p.list)) = ap length h.stands.1 in
    omega (arith, all.2, ap length same, some, left, length-drop p.given (all_of p))
going_goes _ p g e f h w ends = cc
