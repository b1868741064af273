-- The group of a list, the piece at its front, and how the code tells a list that none of the rules reads.
pub use Rattle.std.proofs.lemmas.Bool.{or_parts as or-parts}
use Rattle.std.proofs.{Common.min, Common.add-zero, lemmas.Bool.or_parts, lemmas.Bool.Decides.nat_tests, lemmas.List.take_min, lemmas.List.take-take}
use Rattle.std.specs.{Prelude.◌==◌, Prelude.ℤ, Prelude.option_and_then, Prelude.pos, Prelude.negsuc, Prelude.not, Prelude.IsTrue, Option.is_some}
use Rattle.csicodec_parser.specs.{Groups.is_byte, Groups.group_by, Groups.is_odd, Groups.BeginsWith, Groups.Piece, declared.group.Group.TheVariants.Modes}
use Rattle.csicodec_parser.specs.{Cut.body, Cut.IsStuck, Private.Steps.number_at, Canonical.IsUncut, Canonical.IsUnknownIn, Segments.IsUnread}
use Rattle.csicodec_base.specs.{Pieces.IsFront, FrontBy.piece}
use Rattle.csicodec_base.proofs.Table.{piece_is, piece_take, is_piece, piece_within}
use Rattle.csicodec_actions.specs.{Actions.Mode, Modes.changed, Modes.switched, Kinds.read, Kinds.Dec, Kinds.Terminal, Table.unboxed, Table.boxed}
use Rattle.csicodec_parser.proofs.Common.{ℕ, ◌≡◌, false, List, [], ◌∷◌, ◌++◌, Option, refl, ap, arith, suc, ◌+◌, ◌<◌, ◌≤◌, length, take, drop, Some, None, sym, ◌∙◌, length-drop, Bool, true, inl, inr, some_pair_parts, slice_get, IfNone, IfSome, ◌↔◌, option_map, group, marked, has_odd, Group, Whole, Styles, DecModes, found, styled, one_token, front, CSI, action_of, CsiParam, Integer, P, Action, Sgr, unboxed_whole, boxed_whole}
use Rattle.csicodec_base.specs.declared.sgr.Sgr as sgr_type

-- a list of styles ends in `m`
styles-end : (first : Option CsiParam) (final : ℕ) → group_by first final ≡ Styles → final ≡ 109
styles-end first final e = grind (arith, nat_tests)

-- ---- what is cut

-- a list is what is cut of it, with what stands before that
pub marked-body : (g : Group) (list : List CsiParam) (final : ℕ) → group list final ≡ g → marked g (body g list) ≡ list
marked-body (DecModes c) (P b ∷ ts) final e = let same : 63 ≡ b = grind (arith, nat_tests) in ap (λ n. P n ∷ ts) same
marked-body (DecModes c) _ final e = grind (arith, nat_tests)
marked-body _ list final e = refl

-- ---- a list without an odd byte

pub plain-behind : (g : Group) (front rest : List CsiParam) → has_odd g (front ++ rest) ≡ false → has_odd g rest ≡ false
plain-behind g [] rest e = e
plain-behind g (t ∷ front) rest e = plain-behind g front rest (or_parts (is_odd g t) (has_odd g (front ++ rest)) e).1

-- before `m` a list without an odd byte doesn't begin with `>` or `<`
pub style-list : (list : List CsiParam) → has_odd Styles list ≡ false → group list 109 ≡ Styles
style-list [] e = refl
style-list (Integer z ∷ ts) e = refl
style-list (P b ∷ ts) e = grind (arith, nat_tests)

-- and among modes not with `?`
no-mark : (s : _) (list : List CsiParam) → has_odd (Modes s) list ≡ false → is_byte 63 (slice_get list 0) ≡ false
no-mark s [] e = refl
no-mark s (Integer z ∷ ts) e = refl
no-mark s (P b ∷ ts) e = (or_parts (b == 63) (has_odd (Modes s) ts) e).0

-- a rest of a list that is cut would be cut as it is, with what stands before it
pub rest-group : (g : Group) (list rest : List CsiParam) (final : ℕ) → group list final ≡ g → (g ≡ Whole → ⊥) → has_odd g rest ≡ false → group (marked g rest) final ≡ g
rest-group Whole list rest final e cut plain = absurd (cut refl)
rest-group Styles list rest final e cut plain = rw (styles-end (slice_get list 0) final e) (style-list rest plain)
rest-group (Modes s) list rest final e cut plain = let none = no-mark s rest plain in grind (arith, nat_tests)
rest-group (DecModes c) list rest final e cut plain = grind (arith, nat_tests)

-- ---- The piece at the front of a list: by the relation, and by the function that computes it.

pub is_none : {A : Type 0} (o : Option A) → ((a : A) → o ≡ Some a → ⊥) → o ≡ None
is_none None h = refl
is_none (Some a) h = absurd (h a refl)

-- the answer for a front is what the table gives
pub piece_of_front : (list : List CsiParam) (r : Option (sgr_type.Sgr × ℕ)) → IsFront list r → piece list ≡ r
piece_of_front list (Some f) h = piece_is list f.1 f.0 h
piece_of_front list None h = is_none (piece list) (λ f e. h f.1 f.0 (is_piece list f.1 f.0 e))

styled_some : (o : Option (sgr_type.Sgr × ℕ)) (a : Action) (k : ℕ) → styled o ≡ Some (a, k) → (s : sgr_type.Sgr) × (o ≡ Some (s, k)) × (a ≡ Sgr s)
styled_some None a k e = cc
styled_some (Some p) a k e =
    let parts = some_pair_parts _ _ _ _ e in
    (p.0, ap (λ (n : ℕ). Some (p.0, n)) parts.1, sym parts.0)

-- ---- a mode at the front

mode_front : {M : Type 0} (make : M → Action) (at : ℤ → Option M) (rest : List CsiParam) (n : ℕ) (m : M) → BeginsWith n rest → at (pos n) ≡ Some m
    → one_token make (option_and_then at (number_at rest)) ≡ Some (make m, 1)
mode_front make at rest n m begins e = rw (begins.1, e) refl

one_token_some : {M : Type 0} (make : M → Action) (o : Option M) (a : Action) (k : ℕ) → one_token make o ≡ Some (a, k) → (m : M) × (o ≡ Some m) × (a ≡ make m) × (k ≡ 1)
one_token_some make None a k e = cc
one_token_some make (Some m) a k e = let parts = some_pair_parts _ _ _ _ e in (m, refl, sym parts.0, sym parts.1)

-- the action is that of the mode whose number is the one token
abbrev IsModeAt : {M : Type 0} → (M → Action) → (ℤ → Option M) → List CsiParam → ℕ → Action → Type 0
IsModeAt make at rest k a = (n : ℕ) × (m : _) × BeginsWith n rest × (k ≡ 1) × (at (pos n) ≡ Some m) × (a ≡ make m)

front_mode : {M : Type 0} (make : M → Action) (at : ℤ → Option M) → ((n : ℕ) → at (negsuc n) ≡ None) → (rest : List CsiParam) (k : ℕ) (a : Action)
    → one_token make (option_and_then at (number_at rest)) ≡ Some (a, k) → IsModeAt make at rest k a
front_mode make at below [] k a e = cc
front_mode make at below (P b ∷ ts) k a e = cc
front_mode make at below (Integer (negsuc n) ∷ ts) k a e = cc (rw (below n) at e)
front_mode make at below (Integer (pos n) ∷ ts) k a e = let s = one_token_some make (at (pos n)) a k e in (n, s.0, (ts, refl), s.3, s.1, s.2)

-- ---- by group

pub piece_front : (g : Group) (rest : List CsiParam) (k : ℕ) (a : Action) → Piece g rest k a → front g rest ≡ Some (a, k)
piece_front Styles rest k a p = ap styled (piece_is rest k p.0 p.1) ∙ ap (λ (x : Action). Some (x, k)) (sym p.2)
piece_front Whole rest k a p = absurd p
piece_front (Modes s) rest k a p =
    mode_front (λ m. Mode (switched s m)) (read Terminal) rest p.0 p.1 p.2 p.4 ∙ rw (p.3, p.5) refl
piece_front (DecModes c) rest k a p = mode_front (λ m. Mode (changed c m)) (read Dec) rest p.0 p.1 p.2 p.4 ∙ rw (p.3, p.5) refl

pub front_piece : (g : Group) (rest : List CsiParam) (k : ℕ) (a : Action) → front g rest ≡ Some (a, k) → Piece g rest k a
unfolding read
front_piece Styles rest k a e = let s = styled_some (piece rest) a k e in (s.0, is_piece rest k s.0 s.1, s.2)
front_piece Whole rest k a e = cc
front_piece (Modes s) rest k a e =
    front_mode (λ m. Mode (switched s m)) (read Terminal) (λ n. refl) rest k a e
front_piece (DecModes c) rest k a e =
    front_mode (λ m. Mode (changed c m)) (read Dec) (λ n. refl) rest k a e

pub stuck_front : (g : Group) (rest : List CsiParam) → IsStuck g rest → front g rest ≡ None
stuck_front g rest h = is_none (front g rest) (λ p e. h p.1 p.0 (front_piece g rest p.1 p.0 e))

pub front_stuck : (g : Group) (rest : List CsiParam) → front g rest ≡ None → IsStuck g rest
front_stuck g rest e k a p = let found = piece_front g rest k a p in cc

-- what was found is the piece
pub found_piece : (g : Group) (rest : List CsiParam) (o : Option (CSI × ℕ)) → found o ≡ front g rest → IfSome o (λ f. Piece g rest f.1 (action_of f.0))
found_piece g rest None e = tt
found_piece g rest (Some f) e = front_piece g rest f.1 (action_of f.0) (sym e)

-- and where nothing was, none stands there
pub found_none : (g : Group) (rest : List CsiParam) (o : Option (CSI × ℕ)) → found o ≡ front g rest → IfNone o (IsStuck g rest)
found_none g rest None e = front_stuck g rest (sym e)
found_none g rest (Some f) e = tt

-- a piece has tokens, and they are in the list
pub record Fits (n k : ℕ) : Type 0 where
  pub some : 0 < k
  pub within : k ≤ n

piece_fits : (g : Group) (rest : List CsiParam) (k : ℕ) (a : Action) → Piece g rest k a → Fits (length rest) k
piece_fits Whole rest k a p = absurd p
piece_fits Styles rest k a p = let w = piece_within rest k p.0 p.1 in record { some = w.0; within = w.1 }
piece_fits _ rest k a p =
    let long : length rest ≡ suc (length p.2.0) = ap length p.2.1 in
    let one : k ≡ 1 = p.3 in
    record { some = omega arith; within = omega arith }

pub front_fits : (g : Group) (rest : List CsiParam) (a : Action) (k : ℕ) → front g rest ≡ Some (a, k) → Fits (length rest) k
front_fits g rest a k e = piece_fits g rest k a (front_piece g rest k a e)

pub front_empty : (g : Group) → front g [] ≡ None
front_empty g = is_none (front g []) (λ p e. let f = front_fits g [] p.0 p.1 e in omega (arith, f.some, f.within))

-- the number at the front is among the first tokens
pub number_same : (list rest : List CsiParam) → take 13 list ≡ take 13 rest → number_at list ≡ number_at rest
number_same list rest e = sym (first list) ∙ ap number_at e ∙ first rest
  where
    first : (l : List CsiParam) → number_at (take 13 l) ≡ number_at l
    first [] = refl
    first (Integer z ∷ ts) = refl
    first (P b ∷ ts) = refl

-- what is lent begins as the unread tokens do
pub lent_front : (tokens lent : List CsiParam) (p len width : ℕ) → p + len ≡ length tokens → width ≡ min len 13 → lent ≡ take width (drop (p + 0) tokens) → take 13 (drop p tokens) ≡ take 13 lent
lent_front tokens lent p len width h w l =
    let xs : List CsiParam = drop p tokens in
    let e : width ≡ min 13 (length xs) = omega (arith, length-drop p tokens) in
    let same : lent ≡ take 13 xs =
    l ∙ ap (λ n. take n (drop (p + 0) tokens)) e ∙ ap (λ q. take (min 13 (length xs)) (drop q tokens)) (add-zero p) ∙ take_min 13 xs in
    sym (ap (take 13) same ∙ take-take 13 13 xs (omega arith))

-- the piece at the front is one of the first tokens
pub front_same : (g : Group) (xs ys : List CsiParam) → take 13 xs ≡ take 13 ys → front g xs ≡ front g ys
front_same Whole xs ys e = refl
front_same Styles xs ys e = ap styled (sym (piece_take xs) ∙ ap piece e ∙ piece_take ys)
front_same (Modes s) xs ys e = ap (λ n. one_token (λ m. Mode (switched s m)) (option_and_then (read Terminal) n)) (number_same xs ys e)
front_same (DecModes c) xs ys e = ap (λ n. one_token (λ m. Mode (changed c m)) (option_and_then (read Dec) n)) (number_same xs ys e)

-- what is lent begins with the piece of the unread tokens
pub lent_piece : (g : Group) (tokens us lent : List CsiParam) (p q len width : ℕ) → us ≡ tokens → q ≡ p → q + len ≡ length us → width ≡ min len 13 → lent ≡ take width (drop (q + 0) us)
    → front g (drop p tokens) ≡ front g lent
lent_piece g tokens us lent p q len width list passes h w l = rw (← list, ← passes) (front_same g (drop q us) lent (lent_front us lent q len width h w l))

-- ---- How the code tells a list that none of the rules reads.

-- ---- a list that is read whole

pub read-unboxed : (list : List CsiParam) (final : ℕ) (o : Option CSI) → option_map action_of o ≡ unboxed list final → is_some o ≡ true → IsTrue false ↔ IsUnread list final
read-unboxed list final None e some = cc
read-unboxed list final (Some x) e some = (λ t. cc, λ unread. absurd (unread (action_of x) (unboxed_whole list final (action_of x) (sym e))))

pub read-boxed : (list : List CsiParam) (final : ℕ) (o p : Option CSI) (b : Bool) →
    option_map action_of o ≡ unboxed list final → is_some o ≡ false →
    option_map action_of p ≡ boxed list final → is_some p ≡ not b
    → IsTrue b ↔ IsUnread list final
read-boxed list final (Some x) p b e none f some = cc
read-boxed list final None None true e none f some = (λ t. λ a w. (let same = boxed_whole list final (sym e) in cc), λ unread. refl)
read-boxed list final None (Some x) false e none f some = (λ t. cc, λ unread. absurd (unread (action_of x) (sym (boxed_whole list final (sym e)) ∙ sym f)))
read-boxed list final _ _ _ e none f some = cc

-- ---- a list that is cut

pub uncut-told : (g : Group) (list : List CsiParam) (o : Option (CSI × ℕ)) (b : Bool) → has_odd g list ≡ false → found o ≡ front g (body g list) → is_some o ≡ not b → IsTrue b ↔ IsUncut g list
uncut-told g list None true plain e some = (λ t. inr (front_stuck g (body g list) (sym e)), λ uncut. refl)
uncut-told g list None false plain e some = cc
uncut-told g list (Some p) true plain e some = cc
uncut-told g list (Some p) false plain e some = (λ t. cc, λ uncut. absurd (go uncut))
  where
    go : IsUncut g list → ⊥
    go (inl odd) = cc (odd, plain)
    go (inr stuck) = let none = stuck_front g (body g list) stuck in cc (none, e)

pub unknown-told : (g : Group) (list : List CsiParam) (final : ℕ) (b : Bool) → (g ≡ Whole → ⊥) → (g ≡ Styles → ⊥) → IsTrue b ↔ IsUncut g list → IsTrue b ↔ IsUnknownIn g list final
unknown-told Whole list final b whole styles h = absurd (whole refl)
unknown-told Styles list final b whole styles h = absurd (styles refl)
unknown-told _ list final b whole styles h = h
