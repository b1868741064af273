-- Every list has one cut that can't be continued, and the computed actions are those of that cut; as such they go into a sink.
pub use Rattle.std.proofs.lemmas.Result.{on_ok_weaker as on_ok}
use Rattle.std.specs.{Prelude.unwrap_or, Prelude.max, Prelude.Result, Prelude.OnOk, Prelude.pos, Fmt.decimal}
use Rattle.std.proofs.{Common.◌⊎◌, Common.pred, Common.add-one, Common.length-append, Common.append-nil, Math.Seq.drop-append_seam, lemmas.Bool.cases_Bool}
use Rattle.std.proofs.{lemmas.Bool.eqb-true, lemmas.List.take-append-drop, lemmas.List.length-take-le, lemmas.Option.same_Some, lemmas.Grind.flat_map-append}
use Rattle.csicodec_parser.specs.Segments.{remainder, Segmented, BodyActions, CutActions, WholeActions, ActionsIn, Actions}
use Rattle.csicodec_parser.specs.{Private.Steps.block, Private.Steps.cut_actions, declared.group.Group.TheVariants.Modes, Cut.semicolon, Cut.NoSemicolon}
use Rattle.csicodec_parser.specs.{Cut.IsBlock, Cut.body, Cut.Cut, Cut.IsStuck, Cut.IsRestAfter}
use Rattle.csicodec_actions.specs.{Actions.Mode, Table.whole, Table.texts, declared.mode.DecPrivateMode.DecPrivateMode, declared.mode.Switch.Switch}
use Rattle.csicodec_actions.specs.{declared.mode.TerminalMode.TerminalMode, Modes.changed, Modes.dec_number, Modes.switched, Modes.terminal_number}
use Rattle.csicodec_actions.specs.{Table.Mode.written_mode, declared.mode.Change.Change}
use Rattle.csicodec_parser.proofs.Blocks.{segments_block, segments_unknown, semicolon_from, after_some, rest_unknown, after_unknown, first_cut, odd_unknown, body_some}
use Rattle.csicodec_parser.proofs.Fronts.{piece_front, front_piece, stuck_front, front_stuck, front_fits, front_empty}
use Rattle.csicodec_parser.proofs.Common.{slice_get, ◌≡◌, ℕ, zero, suc, ◌-◌, ◌==◌, ◌<◌, ◌≤◌, Bool, List, [], ◌∷◌, ◌++◌, length, take, drop, Option, Some, None, refl, sym, ap, subst, ◌∙◌, inl, inr, arith, length-drop, append_assoc, true, false, drop-drop, some_pair_parts, on_ok_weaker, CsiParam, Integer, P, front, block_of, with_semicolon, segments, segments_at, rest_action, actions_after, body_actions, actions_in, actions, CutsOn, one_token, Group, Whole, DecModes, group, start, has_odd, marked, Action, Unspecified, text}
use Rattle.csicodec_actions.proofs.Values.{dec-numbered, terminal-numbered}

-- ---- a block by the relation, and by the function

slice_get-append_seam : (xs ys : List CsiParam) → slice_get (xs ++ ys) (length xs) ≡ slice_get ys 0
slice_get-append_seam [] ys = refl
slice_get-append_seam (x ∷ xs) ys = slice_get-append_seam xs ys

-- a `;` stands there and is taken, or none does
semicolon_or : (k : ℕ) (o : Option CsiParam) → ((o ≡ Some semicolon) × (with_semicolon k o ≡ suc k)) ⊎ ((o ≡ Some semicolon → ⊥) × (with_semicolon k o ≡ k))
semicolon_or k None = inr (λ e. cc, refl)
semicolon_or k (Some (Integer n)) = inr (λ e. cc, refl)
semicolon_or k (Some (P b)) = elim (cases_Bool (b == 59)) [
  | inl hit ↦ inl (ap (λ (n : ℕ). Some (P n)) (eqb-true b 59 hit), rw hit (add-one k))
  | inr other ↦ inr (λ e. (let same : b ≡ 59 = cc in cc (rw same at other)), rw other refl)
]

-- without a `;` behind it a piece is a block
no_semicolon : (k : ℕ) (more : List CsiParam) → NoSemicolon more → with_semicolon k (slice_get more 0) ≡ k
no_semicolon k [] none = refl
no_semicolon k (t ∷ more) none = grind (arith, none more)

-- the tokens of a block are those of its piece, with the `;`
block_length : (tokens b more : List CsiParam) → (b ≡ tokens ++ semicolon ∷ []) ⊎ ((b ≡ tokens) × NoSemicolon more)
    → with_semicolon (length tokens) (slice_get (b ++ more) (length tokens)) ≡ length b
block_length tokens b more (inl e) = rw (e, append_assoc, slice_get-append_seam, length-append) refl
block_length tokens b more (inr h) = rw (h.0, slice_get-append_seam) (no_semicolon (length tokens) more h.1)

-- a block of the relation is the block of the function
pub block_is : (g : Group) (b more : List CsiParam) (x : Action) → IsBlock g b more x → (block g (b ++ more) ≡ Some (x, length b)) × (0 < length b)
block_is g b more x h =
    let found = piece_front g (b ++ more) (length h.tokens) x h.piece in
    let f = front_fits g (b ++ more) x (length h.tokens) found in
    let size = block_length h.tokens b more h.whole in
    let low = semicolon_from (length h.tokens) (slice_get (b ++ more) (length h.tokens)) in
    (ap (block_of (b ++ more)) found ∙ ap (λ n. Some (x, n)) size, omega (arith, f.some))

take_one : (body : List CsiParam) (k : ℕ) (t : CsiParam) → slice_get body k ≡ Some t → take (suc k) body ≡ take k body ++ t ∷ []
take_one [] k t e = cc
take_one (x ∷ xs) zero t e = cc
take_one (x ∷ xs) (suc k) t e = ap (λ (l : List CsiParam). x ∷ l) (take_one xs k t e)

-- the first of what is left stands at its place
pub at_drop : {A : Type 0} (xs : List A) (i : ℕ) (a : A) (bs : List A) → drop i xs ≡ a ∷ bs → slice_get xs i ≡ Some a
at_drop [] zero a bs e = cc
at_drop [] (suc i) a bs e = cc
at_drop (x ∷ xs) zero a bs e = cc
at_drop (x ∷ xs) (suc i) a bs e = at_drop xs i a bs e

-- and the other way round: the tokens that the function takes are a block
is_block : (g : Group) (body : List CsiParam) (x : Action) (n : ℕ) → block g body ≡ Some (x, n) → IsBlock g (take n body) (drop n body) x
is_block g body x n e = go (front g body) refl
  where
    go : (o : Option (Action × ℕ)) → front g body ≡ o → IsBlock g (take n body) (drop n body) x
    go None none = let no = ap (block_of body) none in cc (no, e)
    go (Some p) some =
        let k : ℕ = p.1 in
        let parts = some_pair_parts _ _ _ _ (sym (ap (block_of body) some) ∙ e) in
        let found = front_piece g body k x (some ∙ ap (λ (y : Action). Some (y, k)) parts.0) in
        let long : length (take k body) ≡ k = length-take-le k body (front_fits g body p.0 k some).within in
        let ends = elim (semicolon_or k (slice_get body k)) as (λ _. (take n body ≡ take k body ++ semicolon ∷ []) ⊎ ((take n body ≡ take k body) × NoSemicolon (drop n body))) [
          | inl hit ↦ inl (rw (← parts.1, hit.1) (take_one body k semicolon hit.0))
          | inr other ↦ (let same : n ≡ k = sym parts.1 ∙ other.1 in inr (ap (λ (m : ℕ). take m body) same, λ more d. other.0 (at_drop body k semicolon more (rw same at d))))
        ] in
        record { tokens = take k body; piece = rw (take-append-drop, long) found; whole = ends }

-- ---- cuts

stuck_end : (g : Group) (flag : Bool) (final : ℕ) (rest : List CsiParam) → (g ≡ Whole → ⊥) → front g rest ≡ None → actions_after g flag final rest ≡ remainder g rest flag final
stuck_end g flag final [] cut h = refl
stuck_end g flag final (t ∷ ts) cut h =
    segments_unknown g (λ l. rest_action g l flag final) (t ∷ ts) (ap (block_of (t ∷ ts)) h) (omega arith)
    ∙ ap (λ (a : Action). a ∷ []) (rest_unknown g (t ∷ ts) flag final cut)

-- the actions are those of any cut that can't be continued
actions_of_cut : (g : Group) (flag : Bool) (final : ℕ) (body : List CsiParam) (xs : List Action) (rest : List CsiParam) → (g ≡ Whole → ⊥) → Cut g body xs rest → IsStuck g rest
    → actions_after g flag final body ≡ xs ++ remainder g rest flag final
actions_of_cut g flag final body [] rest cut c s = ap (actions_after g flag final) c ∙ stuck_end g flag final rest cut (stuck_front g rest s)
actions_of_cut g flag final body (x ∷ xs) rest cut c s =
    let b = block_is g c.0 c.1 x c.3 in
    ap (actions_after g flag final) c.2
    ∙ segments_block g (λ l. rest_action g l flag final) (c.0 ++ c.1) x (length c.0) b.0 b.1
    ∙ ap (λ l. x ∷ actions_after g flag final l) (drop-append_seam c.0 c.1)
    ∙ ap (λ more. x ∷ more) (actions_of_cut g flag final c.1 xs rest cut c.4 s)

-- there is one
abbrev HasCut : Group → List CsiParam → Type 0
HasCut g body = (xs : List Action) × (rest : List CsiParam) × Cut g body xs rest × IsStuck g rest

cut_up_to : (g : Group) (n : ℕ) (body : List CsiParam) → length body ≤ n → (o : Option (Action × ℕ)) → front g body ≡ o → HasCut g body
cut_up_to g n body h None e = ([], body, refl, front_stuck g body e)
cut_up_to g zero body h (Some p) e = let f = front_fits g body p.0 p.1 e in absurd (omega (arith, f.some, f.within))
cut_up_to g (suc n) body h (Some p) e =
    let f = front_fits g body p.0 p.1 e in
    let k : ℕ = with_semicolon p.1 (slice_get body p.1) in
    let more = drop k body in
    let c = cut_up_to g n more (omega (arith, f.some, semicolon_from p.1 (slice_get body p.1), length-drop k body)) (front g more) refl in
    (p.0 ∷ c.0, c.1, (take k body, more, sym (take-append-drop k body), is_block g body p.0 k (ap (block_of body) e), c.2), c.3)

-- ---- the actions of a list

-- these are so, and no others
abbrev Only : (List Action → Type 0) → List Action → Type 0
Only Q these = Q these × ((xs : List Action) → Q xs → xs ≡ these)

segmented : (g : Group) (list : List CsiParam) (flag : Bool) (final : ℕ) → (g ≡ Whole → ⊥) → Only (Segmented g list flag final) (actions_after g flag final list)
segmented g list flag final cut =
    let c = cut_up_to g (length list) list (omega arith) (front g list) refl in (
      record { pieces = c.0; rest = c.1; cut = c.2; stuck = c.3; all = actions_of_cut g flag final list c.0 c.1 cut c.2 c.3 },
      λ xs s. s.all ∙ sym (actions_of_cut g flag final list s.pieces s.rest cut s.cut s.stuck),
    )

whole_are : (list : List CsiParam) (flag : Bool) (final : ℕ) (o : Option Action) → whole list final ≡ o → Only (WholeActions list flag final) (unwrap_or o (Unspecified list flag final) ∷ [])
whole_are list flag final (Some a) e = (inl (a, e, refl), λ xs w. elim w [ inl h ↦ (let same : h.0 ≡ a = cc (h.1, e) in h.2 ∙ ap (λ (b : Action). b ∷ []) same) | inr h ↦ absurd (h.0 a e) ])
whole_are list flag final None e = (inr (λ a w. cc (e, w), refl), λ xs w. elim w [ inl h ↦ cc (e, h.1) | inr h ↦ h.1 ])

body_are : (g : Group) (list body : List CsiParam) (flag : Bool) (final : ℕ) → (g ≡ Whole → ⊥) → Only (BodyActions g list body flag final) (body_actions g list flag final body)
body_are g list [] flag final cut = (refl, λ xs h. h)
body_are g list (t ∷ ts) flag final cut = segmented g (t ∷ ts) flag final cut

cut_are : (g : Group) (list : List CsiParam) (flag : Bool) (final : ℕ) → (g ≡ Whole → ⊥) → Only (CutActions g list flag final) (cut_actions g list flag final)
cut_are g list flag final cut = elim (cases_Bool (has_odd g list)) [
  | inl odd ↦ rw odd (refl, λ xs h. h)
  | inr plain ↦ rw plain (body_are g list (body g list) flag final cut)
]

in_are : (g : Group) (list : List CsiParam) (flag : Bool) (final : ℕ) → Only (ActionsIn g list flag final) (actions_in g list flag final)
in_are Whole list flag final = whole_are list flag final (whole list final) refl
in_are g list flag final = cut_are g list flag final (λ e. cc)

-- the computed actions are the actions of the list, and there are no others
pub actions_are : (list : List CsiParam) (flag : Bool) (final : ℕ) → Actions list flag final (actions list flag final)
actions_are list flag final = (in_are (group list final) list flag final).0

pub actions_only : (list : List CsiParam) (flag : Bool) (final : ℕ) (xs : List Action) → Actions list flag final xs → xs ≡ actions list flag final
actions_only list flag final xs h = (in_are (group list final) list flag final).1 xs h

pub one_segmentation : (list : List CsiParam) (flag : Bool) (final : ℕ) (xs ys : List Action) → Actions list flag final xs → Actions list flag final ys → xs ≡ ys
one_segmentation list flag final xs ys h k = actions_only list flag final xs h ∙ sym (actions_only list flag final ys k)

-- ---- how many there are

segments_low : (u : List CsiParam → Action) (rest : List CsiParam) (after : ℕ → List Action) (n : ℕ) (o : Option (Action × ℕ)) → ((skip : ℕ) → length (after skip) ≤ n)
    → length (segments_at u rest after o) ≤ suc n
segments_low u rest after n None h = omega arith
segments_low u rest after n (Some b) h = omega (arith, h (pred b.1))

segments_count : (g : Group) (u : List CsiParam → Action) (ts : List CsiParam) (skip : ℕ) → length (segments g u ts skip) ≤ length ts
segments_count g u [] skip = omega arith
segments_count g u (t ∷ ts) (suc skip) = omega (arith, segments_count g u ts skip)
segments_count g u (t ∷ ts) zero = segments_low u (t ∷ ts) (segments g u ts) (length ts) (block g (t ∷ ts)) (λ k. segments_count g u ts k)

-- at least one action, and no more than these tokens, or one
abbrev IsCount : ℕ → List Action → Type 0
IsCount n xs = (0 < length xs) × (length xs ≤ max 1 n)

body_count : (g : Group) (list body : List CsiParam) (flag : Bool) (final n : ℕ) → length body ≤ n → IsCount n (body_actions g list flag final body)
body_count g list [] flag final n within = (omega arith, omega arith)
body_count g list (t ∷ ts) flag final n within =
    (after_some g flag final (t ∷ ts) (omega arith), omega (arith, segments_count g (λ l. rest_action g l flag final) (t ∷ ts) 0))

in_count : (g : Group) (list : List CsiParam) (flag : Bool) (final : ℕ) → IsCount (length list) (actions_in g list flag final)
in_count Whole list flag final = (omega arith, omega arith)
in_count g list flag final =
    grind (arith, body_count g list (body g list) flag final (length list), length-drop (start g) list)

pub actions_count : (list : List CsiParam) (flag : Bool) (final : ℕ) (xs : List Action) → Actions list flag final xs → (0 < length xs) × (length xs ≤ max 1 (length list))
actions_count list flag final xs h = rw (actions_only list flag final xs h) (in_count (group list final) list flag final)

-- ---- one more block

cut_more : (g : Group) (body : List CsiParam) (xs : List Action) (mid : List CsiParam)
    (b more : List CsiParam) (x : Action) → Cut g body xs mid → mid ≡ b ++ more →
    IsBlock g b more x → Cut g body (xs ++ x ∷ []) more
cut_more g body [] mid b more x c e h = (b, more, c ∙ e, h, refl)
cut_more g body (y ∷ xs) mid b more x c e h = (c.0, c.1, c.2, c.3, cut_more g c.1 xs mid b more x c.4 e h)

cut_on : (g : Group) (list : List CsiParam) (xs : List Action) (p q : ℕ) (x : Action) → Cut g (body g list) xs (drop p list) → block g (drop p list) ≡ Some (x, q - p) → p < q
    → Cut g (body g list) (xs ++ x ∷ []) (drop q list)
cut_on g list xs p q x c e h =
    let n : ℕ = q - p in
    let mid = drop p list in
    let d : drop n mid ≡ drop q list = drop-drop n p list ∙ ap (λ k. drop k list) (omega arith) in
    subst (λ (l : List CsiParam). Cut g (body g list) (xs ++ x ∷ []) l) d
    (cut_more g (body g list) xs mid (take n mid) (drop n mid) x c (sym (take-append-drop n mid)) (is_block g mid x n e))

pub first_rest : (g : Group) (list : List CsiParam) (final q i : ℕ) → g ≡ group list final → CutsOn g list (start g) q → i ≡ 0 → IsRestAfter list final (suc i) (drop q list)
first_rest g list final q i same on z = rw (z, ← same) (on.0 ∷ [], cut_on g list [] (start g) q on.0 refl on.1 on.2, refl)

pub more_rest : (g : Group) (list : List CsiParam) (final p q i : ℕ) → g ≡ group list final →
    0 < i → IsRestAfter list final i (drop p list) → CutsOn g list p q →
    IsRestAfter list final (suc i) (drop q list)
more_rest g list final p q zero same low r on = absurd (omega arith)
more_rest g list final p q (suc i) same low r on =
    let c : Cut g (body g list) r.0 (drop p list) = rw same r.1 in
    let len : length (r.0 ++ on.0 ∷ []) ≡ suc (suc i) = omega (arith, length-append r.0 (on.0 ∷ []), r.2) in
    rw (← same) (r.0 ++ on.0 ∷ [], cut_on g list r.0 p q on.0 c on.1 on.2, len)

-- ---- Actions that go into a sink, over plain variables.

-- what has gone in, and then the others, are all
pub taken_all : (before told xs all : List Action) → told ++ xs ≡ all → (before ++ told) ++ xs ≡ before ++ all
taken_all before told xs all e = append_assoc before told xs ∙ ap (λ (l : List Action). before ++ l) e

pub none_taken : {S : Type 0} (holds : S → List Action → Type 0) (s : S) (before : List Action) → holds s before → holds s (before ++ [])
none_taken holds s before h = subst (holds s) (sym (append-nil before)) h

-- what is computed are the actions of the list
pub all_taken : {S T E : Type 0} (holds : S → List Action → Type 0) (old new : S) (r : Result T E) (list : List CsiParam) (flag : Bool) (final : ℕ)
    → OnOk r ((before : List Action) → holds old before → holds new (before ++ actions list flag final))
    → OnOk r ((all : List Action) × Actions list flag final all × ((before : List Action) → holds old before → holds new (before ++ all)))
all_taken holds old new r list flag final h = on_ok_weaker r (λ put. (actions list flag final, actions_are list flag final, put)) h

-- ---- the actions of a list that is cut

pub actions_odd : (g : Group) (list : List CsiParam) (flag : Bool) (final : ℕ) →
    g ≡ group list final → (g ≡ Whole → ⊥) → has_odd g list ≡ true →
    Unspecified (marked g list) flag final ∷ [] ≡ actions list flag final
actions_odd g list flag final same cut odd = sym (ap (λ (k : Group). actions_in k list flag final) (sym same) ∙ odd_unknown g list flag final cut odd)

pub actions_begin : (g : Group) (list rest : List CsiParam) (flag : Bool) (final : ℕ) → g ≡ group list final → (g ≡ Whole → ⊥) → has_odd g list ≡ false → rest ≡ body g list → 0 < length rest
    → actions_after g flag final rest ≡ actions list flag final
actions_begin g list rest flag final same cut plain is w =
    sym (first_cut g list flag final cut same plain ∙ ap (body_actions g list flag final) (sym is) ∙ body_some g list flag final rest w)

pub actions_front : (g : Group) (flag : Bool) (final : ℕ) (rest behind : List CsiParam) (told all : List Action) (a : Action) (len : ℕ) → front g rest ≡ Some (a, len) → 0 < len
    → behind ≡ drop (with_semicolon len (slice_get rest len)) rest → told ++ actions_after g flag final rest ≡ all → (told ++ a ∷ []) ++ actions_after g flag final behind ≡ all
actions_front g flag final rest behind told all a len e w is parts =
    let passed = semicolon_from len (slice_get rest len) in
    let next = segments_block g (λ l. rest_action g l flag final) rest a (with_semicolon len (slice_get rest len)) (ap (block_of rest) e) (omega (arith, passed, w)) in
    append_assoc told (a ∷ []) (actions_after g flag final behind) ∙ ap (λ (l : List CsiParam). told ++ a ∷ actions_after g flag final l) is ∙ ap (λ (l : List Action). told ++ l) (sym next) ∙ parts

pub actions_stuck : (g : Group) (flag : Bool) (final : ℕ) (rest : List CsiParam) (told all : List Action) → (g ≡ Whole → ⊥) → front g rest ≡ None → 0 < length rest
    → told ++ actions_after g flag final rest ≡ all → told ++ Unspecified (marked g rest) flag final ∷ [] ≡ all
actions_stuck g flag final rest told all cut e w parts =
    ap (λ (a : Action). told ++ a ∷ []) (sym (rest_unknown g rest flag final cut)) ∙ ap (λ (l : List Action). told ++ l) (sym (after_unknown g flag final rest 0 (ap (block_of rest) e) w)) ∙ parts

pub front_none : (g : Group) (rest : List CsiParam) → slice_get rest 0 ≡ None → front g rest ≡ None
front_none g [] e = front_empty g
front_none g (t ∷ ts) e = cc

-- a piece that the first token is by itself
pub front_first : (g : Group) (rest : List CsiParam) (t : CsiParam) (a : Action) → slice_get rest 0 ≡ Some t → ((others : List CsiParam) → front g (t ∷ others) ≡ Some (a, 1))
    → front g rest ≡ Some (a, 1)
front_first g [] t a e all = cc
front_first g (x ∷ rest) t a e all = rw (same_Some _ _ e) (all rest)

pub texts_last : (xs : List Action) (a : Action) → texts (xs ++ a ∷ []) ≡ texts xs ++ text a
texts_last xs a = flat_map-append text xs (a ∷ []) ∙ ap (λ (l : List ℕ). texts xs ++ l) (append-nil (text a))

-- an action that a token is by itself, and its text
pub record First (g : Group) (t : CsiParam) (said : List ℕ) : Type 0 where
  pub action : Action
  pub fronts : (others : List CsiParam) → front g (t ∷ others) ≡ Some (action, 1)
  pub says : text action ≡ 27 ∷ 91 ∷ said

dec_text : (c : Change) (m : DecPrivateMode) (end : ℕ) → (written_mode (changed c m)).final ≡ end → text (Mode (changed c m)) ≡ 27 ∷ 91 ∷ 63 ∷ (decimal (dec_number m) ++ end ∷ [])
dec_text Change.Set m end e = rw (← e) refl
dec_text _ m end e = rw (← e) refl

terminal_text : (s : Switch) (m : TerminalMode) (end : ℕ) → (written_mode (switched s m)).final ≡ end → text (Mode (switched s m)) ≡ 27 ∷ 91 ∷ (decimal (terminal_number m) ++ end ∷ [])
terminal_text Switch.Set m end e = rw (← e) refl
terminal_text Switch.Reset m end e = rw (← e) refl

-- the mode of a number is written as the number
pub dec_first : (c : Change) (n end : ℕ) → n < 65536 → ((m : DecPrivateMode) → (written_mode (changed c m)).final ≡ end) → First (DecModes c) (Integer (pos n)) (63 ∷ (decimal n ++ end ∷ []))
dec_first c n end fits ends =
    let (m, found, is) = dec-numbered n fits in
    record { action = Mode (changed c m); fronts = λ others. ap (one_token (λ x. Mode (changed c x))) found; says = dec_text c m end (ends m) ∙ ap (λ k. 27 ∷ 91 ∷ 63 ∷ (decimal k ++ end ∷ [])) is }

pub terminal_first : (s : Switch) (n end : ℕ) → n < 65536 → ((m : TerminalMode) → (written_mode (switched s m)).final ≡ end) → First (Modes s) (Integer (pos n)) (decimal n ++ end ∷ [])
terminal_first s n end fits ends =
    let (m, found, is) = terminal-numbered n fits in
    record { action = Mode (switched s m); fronts = λ others. ap (one_token (λ x. Mode (switched s x))) found; says = terminal_text s m end (ends m) ∙ ap (λ k. 27 ∷ 91 ∷ (decimal k ++ end ∷ [])) is }

-- such a token has gone in where its text is appended
pub first_taken : (g : Group) (t : CsiParam) (said old new : List ℕ) (f : First g t said) →
    new ≡ old ++ 27 ∷ 91 ∷ said → (before : List Action) → old ≡ texts before →
    new ≡ texts (before ++ f.action ∷ [])
first_taken g t said old new f appended before held = appended ∙ ap (λ (l : List ℕ). l ++ 27 ∷ 91 ∷ said) held ∙ ap (λ (l : List ℕ). texts before ++ l) (sym f.says) ∙ sym (texts_last before f.action)
