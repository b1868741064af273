-- The block at the front, and the actions that follow it.
use Rattle.std.proofs.{Common.cond, Common.add-zero, lemmas.List.drop_all, lemmas.List.take_all, lemmas.Option.slice_get_within}
use Rattle.csicodec_actions.specs.{Actions.TakesMemory, Table.unboxed, Table.whole, declared.mode.Change.Change}
use Rattle.csicodec_parser.specs.{Private.Steps.block, Private.Steps.is_semicolon, Private.Steps.Acts, Private.Steps.Leaves, Segments.empty_action, Cut.body}
use Rattle.csicodec_parser.proofs.Common.{zero, suc, ◌≡◌, ℕ, ◌+◌, ◌*◌, ◌-◌, ◌<◌, ◌≤◌, Bool, true, false, List, [], ◌∷◌, length, drop, take, Some, None, Option, refl, sym, ap, ◌∙◌, arith, length-drop, drop-drop, Action, Sgr, Unspecified, front, block_of, with_semicolon, segments, segments_at, rest_action, actions, actions_after, body_actions, actions_in, fresh_cost, left_at, from_at, GoesBy, CanGo, Group, Whole, Styles, DecModes, CSI, action_of, Stage, Fresh, Going, Failed, group, marked, start, has_odd, IfSome, IfNone, slice_get, option_map, CsiParam, Integer, P, unboxed_whole, boxed_whole}
use Rattle.csicodec_parser.proofs.Fronts.{front_empty, front_fits, marked-body}
use Rattle.csicodec_actions.proofs.AllRows.{boxed-takes}
use Rattle.csicodec_base.specs.declared.sgr.Sgr.TheVariants as sgr

-- the action of a rest takes memory
pub rest_takes : (g : Group) (rest : List CsiParam) (flag : Bool) (final : ℕ) → TakesMemory (rest_action g rest flag final)
rest_takes Whole rest flag final = grind (arith, boxed-takes rest final)
rest_takes _ rest flag final = refl

-- the rest of a list that is cut is unknown
pub rest_unknown : (g : Group) (rest : List CsiParam) (flag : Bool) (final : ℕ) → (g ≡ Whole → ⊥) → rest_action g rest flag final ≡ Unspecified (marked g rest) flag final
rest_unknown Whole rest flag final cut = absurd (cut refl)
rest_unknown _ rest flag final cut = refl

semicolon_at : (rest : List CsiParam) (len : ℕ) (o : Option CsiParam) → slice_get rest len ≡ o → len ≤ length rest → with_semicolon len o ≤ length rest
semicolon_at rest len None e h = h
semicolon_at rest len (Some t) e h = grind (arith, slice_get_within rest len t)

-- the `;` after a piece is in the list
pub semicolon_within : (rest : List CsiParam) (len : ℕ) → len ≤ length rest → with_semicolon len (slice_get rest len) ≤ length rest
semicolon_within rest len h = semicolon_at rest len (slice_get rest len) refl h

pub semicolon_from : (len : ℕ) (o : Option CsiParam) → len ≤ with_semicolon len o
semicolon_from len None = omega arith
semicolon_from len (Some t) = elim (is_semicolon t) as (λ b. len ≤ cond b (len + 1) len) [ true ↦ omega arith | false ↦ omega arith ]

pub cut_some : (g : Group) (rest : List CsiParam) (x : Action) (len taken p p' : ℕ) →
    front g rest ≡ Some (x, len) → taken ≡ with_semicolon len (slice_get rest len) →
    p' ≡ p + taken → block g rest ≡ Some (x, p' - p)
cut_some g rest x len taken p p' f t e =
    let n : with_semicolon len (slice_get rest len) ≡ p' - p = sym t ∙ omega arith in
    ap (block_of rest) f ∙ ap (λ k. Some (x, k)) n

-- skipping is dropping
pub segments_skip : (g : Group) (u : List CsiParam → Action) (ts : List CsiParam) (k : ℕ) → segments g u ts k ≡ segments g u (drop k ts) 0
segments_skip g u [] zero = refl
segments_skip g u [] (suc k) = refl
segments_skip g u (t ∷ ts) zero = refl
segments_skip g u (t ∷ ts) (suc k) = segments_skip g u ts k

-- a block at the front
pub segments_block : (g : Group) (u : List CsiParam → Action) (rest : List CsiParam) (x : Action) (k : ℕ) → block g rest ≡ Some (x, k) → 0 < k → segments g u rest 0 ≡ x ∷ segments g u (drop k rest) 0
segments_block g u [] x k e h = cc (ap (block_of []) (front_empty g), e)
segments_block g u (t ∷ ts) x zero e h = absurd (omega arith)
segments_block g u (t ∷ ts) x (suc k) e h = ap (segments_at u (t ∷ ts) (segments g u ts)) e ∙ ap (λ xs. x ∷ xs) (segments_skip g u ts k)

-- none
pub segments_unknown : (g : Group) (u : List CsiParam → Action) (rest : List CsiParam) → block g rest ≡ None → 0 < length rest → segments g u rest 0 ≡ u rest ∷ []
segments_unknown g u [] e h = absurd (omega arith)
segments_unknown g u (t ∷ ts) e h = ap (segments_at u (t ∷ ts) (segments g u ts)) e

-- one place in two lists that are one
pub at_same : (ts us : List CsiParam) (p q i : ℕ) → us ≡ ts → q ≡ p → slice_get (drop q us) i ≡ slice_get (drop p ts) i
at_same ts us p q i e h = ap (λ n. slice_get (drop n us) i) h ∙ ap (λ l. slice_get (drop p l) i) e

pub block_within : (g : Group) (tokens : List CsiParam) (p len k : ℕ) (a : Action) →
    front g (drop p tokens) ≡ Some (a, len) →
    k ≡ with_semicolon len (slice_get (drop p tokens) len) → p + k ≤ length tokens
block_within g tokens p len k a at taken =
    let fits = front_fits g (drop p tokens) a len at in
    omega (arith, taken, fits.some, semicolon_within (drop p tokens) len fits.within, length-drop p tokens)

-- the actions after p tokens, where a block stands there
pub after_block : (g : Group) (flag : Bool) (final : ℕ) (tokens : List CsiParam) (p q : ℕ)
    (x : Action) → block g (drop p tokens) ≡ Some (x, q - p) → p < q →
    actions_after g flag final (drop p tokens) ≡ x ∷ actions_after g flag final (drop q tokens)
after_block g flag final tokens p q x e h =
    let n : p + (q - p) ≡ q = omega arith in
    segments_block g (λ l. rest_action g l flag final) (drop p tokens) x (q - p) e (omega arith)
    ∙ ap (λ l. x ∷ actions_after g flag final l) (drop-drop (q - p) p tokens ∙ ap (λ k. drop k tokens) n)

pub after_unknown : (g : Group) (flag : Bool) (final : ℕ) (tokens : List CsiParam) (p : ℕ) →
    block g (drop p tokens) ≡ None → p < length tokens →
    actions_after g flag final (drop p tokens) ≡ rest_action g (drop p tokens) flag final ∷ []
after_unknown g flag final tokens p e h = segments_unknown g (λ l. rest_action g l flag final) (drop p tokens) e (omega (arith, length-drop p tokens))

-- a rest with tokens has an action
pub after_some : (g : Group) (flag : Bool) (final : ℕ) (rest : List CsiParam) → 0 < length rest → 0 < length (actions_after g flag final rest)
after_some g flag final [] h = absurd (omega arith)
after_some g flag final (t ∷ ts) h = grind arith

-- ---- the first action of a list that is cut

-- no byte is odd among private modes
pub private_plain : (c : Change) (list : List CsiParam) → has_odd (DecModes c) list ≡ false
private_plain c [] = refl
private_plain c (Integer z ∷ ts) = private_plain c ts
private_plain c (P b ∷ ts) = private_plain c ts

pub odd_unknown : (g : Group) (list : List CsiParam) (flag : Bool) (final : ℕ) → (g ≡ Whole → ⊥) → has_odd g list ≡ true → actions_in g list flag final ≡ Unspecified (marked g list) flag final ∷ []
odd_unknown Whole list flag final cut odd = absurd (cut refl)
odd_unknown (DecModes c) list flag final cut odd = cc (private_plain c list, odd)
odd_unknown _ list flag final cut odd = rw odd refl

-- without an odd byte a list is cut
pub first_cut : (g : Group) (list : List CsiParam) (flag : Bool) (final : ℕ) → (g ≡ Whole → ⊥) → g ≡ group list final → has_odd g list ≡ false
    → actions list flag final ≡ body_actions g list flag final (body g list)
first_cut Whole list flag final cut same plain = absurd (cut refl)
first_cut _ list flag final cut same plain = ap (λ (k : Group). actions_in k list flag final) (sym same) ∙ rw plain refl

pub body_some : (g : Group) (list : List CsiParam) (flag : Bool) (final : ℕ) (rest : List CsiParam) → 0 < length rest → body_actions g list flag final rest ≡ actions_after g flag final rest
body_some g list flag final [] h = absurd (omega arith)
body_some g list flag final (t ∷ ts) h = refl

empty_unknown : (g : Group) (list : List CsiParam) (flag : Bool) (final : ℕ) → (g ≡ Styles → ⊥) → empty_action g list flag final ≡ Unspecified list flag final
empty_unknown Styles list flag final other = absurd (other refl)
empty_unknown _ list flag final other = refl

-- ---- what is left of a list that is cut

pub left_cut : (s : Stage) (g : Group) (list : List CsiParam) (flag : Bool) (final p : ℕ) → (g ≡ Whole → ⊥) → GoesBy s list final g → (s ≡ Fresh → has_odd g list ≡ false)
    → from_at s g p < length list → left_at s flag final list p ≡ actions_after g flag final (drop (from_at s g p) list)
left_cut Fresh g list flag final p cut by plain w = first_cut g list flag final cut by (plain refl) ∙ body_some g list flag final (body g list) (omega (arith, length-drop (start g) list))
left_cut (Going k) g list flag final p cut by plain w = rw by refl
left_cut Failed g list flag final p cut by plain w = absurd by

-- an odd byte makes it unknown
pub left_odd : (s : Stage) (g : Group) (list : List CsiParam) (flag : Bool) (final p q : ℕ) → (g ≡ Whole → ⊥) → GoesBy s list final g → s ≡ Fresh → q ≡ 0 → has_odd g list ≡ true
    → left_at s flag final list p ≡ rest_action g (drop q list) flag final ∷ []
left_odd Fresh g list flag final p q cut by fresh z odd =
    rw z (ap (λ (k : Group). actions_in k list flag final) (sym by) ∙ odd_unknown g list flag final cut odd ∙ ap (λ (a : Action). a ∷ []) (sym (rest_unknown g list flag final cut)))
left_odd _ g list flag final p q cut by fresh z odd = cc

-- where there is nothing to cut
pub left_end : (s : Stage) (g : Group) (list : List CsiParam) (flag : Bool) (final p q : ℕ) → (g ≡ Whole → ⊥) → (g ≡ Styles → ⊥) → GoesBy s list final g → CanGo s p (length list)
    → (s ≡ Fresh → has_odd g list ≡ false) → q ≡ from_at s g p → length list ≤ q → left_at s flag final list p ≡ rest_action g (drop q list) flag final ∷ []
left_end Fresh g list flag final p q cut other by can plain is w =
    let none : drop (start g) list ≡ [] = drop_all (start g) list (omega (arith, is, w)) in
    first_cut g list flag final cut by (plain refl) ∙ ap (body_actions g list flag final) none
    ∙ ap (λ (a : Action). a ∷ []) (empty_unknown g list flag final other ∙ ap (λ (l : List CsiParam). Unspecified l flag final) (sym (marked-body g list final (sym by))))
    ∙ ap (λ (a : Action). a ∷ []) (sym (rest_unknown g (body g list) flag final cut) ∙ ap (λ (n : ℕ). rest_action g (drop n list) flag final) (sym is))
left_end (Going k) g list flag final p q cut other by can plain is w = absurd (omega (arith, can, is, w))
left_end Failed g list flag final p q cut other by can plain is w = absurd by

pub left_reset : (s : Stage) (list : List CsiParam) (flag : Bool) (final p q : ℕ) → GoesBy s list final Styles → CanGo s p (length list) → q ≡ from_at s Styles p → length list ≤ q
    → left_at s flag final list p ≡ Sgr sgr.Reset ∷ actions_after Styles flag final (drop q list)
left_reset Fresh [] flag final p q by can is w = rw is (first_cut Styles [] flag final (λ e. cc) by refl)
left_reset Fresh (t ∷ ts) flag final p q by can is w = absurd (omega (arith, is, w))
left_reset (Going k) list flag final p q by can is w = absurd (omega (arith, can, is, w))
left_reset Failed list flag final p q by can is w = absurd by

-- a block is cut from m, where p tokens were passed before
pub cut_acts : (s : Stage) (r : Option CSI) (g : Group) (list : List CsiParam) (final p m q before mid after : ℕ) → (g ≡ Whole → ⊥) → GoesBy s list final g
    → (s ≡ Fresh → has_odd g list ≡ false) × (m ≡ from_at s g p) → p ≤ m → m < length list
    → mid + p ≤ before + fresh_cost s * length list + m → after + m ≤ mid + 105 + q
    → IfSome r (λ a. block g (drop m list) ≡ Some (action_of a, q - m)) → IfSome r (λ _. m < q) → IfSome r (λ a. Acts s g list final p q before after (action_of a))
cut_acts s None g list final p m q before mid after cut by (plain, is) far w first then b h = tt
cut_acts s (Some x) g list final p m q before mid after cut by (plain, is) far w first then b h = record {
  told = λ flag. left_cut s g list flag final p cut by plain (rw is at w) ∙ ap (λ n. actions_after g flag final (drop n list)) (sym is)
      ∙ after_block g flag final list m q (action_of x) b h;
  cut = λ _. rw (← is) (action_of x, b, h);
  forward = λ _. omega (arith, far, h);
  pays = omega (arith, far, h, first, then);
}

pub cut_leaves : (s : Stage) (r : Option CSI) (g : Group) (list : List CsiParam) (final p m q before mid after : ℕ) → (g ≡ Whole → ⊥) → GoesBy s list final g
    → (s ≡ Fresh → has_odd g list ≡ false) × (m ≡ from_at s g p) → p ≤ m → m < length list
    → mid + p ≤ before + fresh_cost s * length list + m → after + m ≤ mid + 105 + q
    → IfNone r (block g (drop m list) ≡ None) → IfNone r (q ≡ m) → IfNone r (Leaves s g list final p q before after)
cut_leaves s (Some x) g list final p m q before mid after cut by (plain, is) far w first then b e = tt
cut_leaves s None g list final p m q before mid after cut by (plain, is) far w first then b e = record {
  told = λ flag. left_cut s g list flag final p cut by plain (rw is at w) ∙ ap (λ n. actions_after g flag final (drop n list)) (sym is)
      ∙ rw e (after_unknown g flag final list m b w);
  pays = omega (arith, far, w, e, first, then);
}

-- ---- a list that is read whole

-- what is lent is all that is unread
pub lent_rest : (tokens lent : List CsiParam) (p len : ℕ) → p + len ≡ length tokens → lent ≡ take len (drop (p + 0) tokens) → lent ≡ drop p tokens
lent_rest tokens lent p len h l = l ∙ ap (λ q. take len (drop q tokens)) (add-zero p) ∙ take_all len (drop p tokens) (omega (arith, length-drop p tokens))

-- and where none was passed the whole list
pub lent_all : (tokens lent : List CsiParam) (p len : ℕ) → p ≡ 0 → p + len ≡ length tokens → lent ≡ take len (drop (p + 0) tokens) → lent ≡ tokens
lent_all tokens lent p len z h l = lent_rest tokens lent p len h l ∙ ap (λ q. drop q tokens) z

pub lent_none : (tokens lent : List CsiParam) (final : ℕ) (r : Option CSI) → lent ≡ tokens → option_map action_of r ≡ unboxed lent final → r ≡ None → unboxed tokens final ≡ None
lent_none tokens lent final r all told none = ap (λ (l : List CsiParam). unboxed l final) (sym all) ∙ sym told ∙ ap (option_map action_of) none

pub lent_some : (tokens lent : List CsiParam) (final : ℕ) (r : Option CSI) (x : CSI) →
    lent ≡ tokens → option_map action_of r ≡ unboxed lent final → r ≡ Some x →
    whole tokens final ≡ Some (action_of x)
lent_some tokens lent final r x all told some =
    unboxed_whole tokens final (action_of x) (ap (λ (l : List CsiParam). unboxed l final) (sym all) ∙ sym told ∙ ap (option_map action_of) some)

pub rest_actions : (list : List CsiParam) (flag : Bool) (final : ℕ) → group list final ≡ Whole → unboxed list final ≡ None → actions list flag final ≡ rest_action Whole list flag final ∷ []
rest_actions list flag final is none = rw (is, boxed_whole list final none) refl

pub whole_leaves : (s : Stage) (r : Option CSI) (g : Group) (list : List CsiParam) (final p q before after : ℕ) → s ≡ Fresh → g ≡ Whole → p ≡ 0 → GoesBy s list final g
    → after ≤ before + 8 * length list + q → IfNone r (unboxed list final ≡ None) → IfNone r (q ≡ 0) → IfNone r (Leaves s g list final p q before after)
whole_leaves s (Some x) g list final p q before after fresh is z by cost none stays = tt
whole_leaves Fresh None g list final p q before after fresh is z by cost none stays =
    record { told = λ flag. rw (stays, is) (rest_actions list flag final (sym by ∙ is) none); pays = omega (arith, z, cost, stays) }
whole_leaves _ None g list final p q before after fresh is z by cost none stays = cc

pub whole_ends : (s : Stage) (g : Group) (list : List CsiParam) (final p before : ℕ) → (s ≡ Fresh → ⊥) → g ≡ Whole → GoesBy s list final g → CanGo s p (length list) → Leaves s g list final p p before before
whole_ends Fresh g list final p before later is by can = absurd (later refl)
whole_ends (Going k) g list final p before later is by can = record { told = λ flag. rw (← by, is) (after_unknown Whole flag final list p refl can); pays = omega (arith, can) }
whole_ends Failed g list final p before later is by can = absurd by
