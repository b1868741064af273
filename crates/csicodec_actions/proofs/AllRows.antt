-- What holds of all that the rows of whole lists give: said for each row, and proved of any list; and no two of them read one list.
use Rattle.std.proofs.{lemmas.Grind.flat_map-append, lemmas.Bool.cases_Bool, lemmas.Bool.and_parts}
use Rattle.csicodec_actions.specs.{Rows.Makes, Rows.AtEnd, Rows.ended, Rows.has_shape, Rows.Before, Rows.Byte, Rows.fits, Table.all_subjects, Table.whole}
use Rattle.csicodec_actions.specs.{Table.unboxed, Table.boxed, Table.RowsDecide, Actions.TakesMemory, Table.Device.device_rows, Table.Device.as_device}
use Rattle.csicodec_actions.specs.{Table.XtSmGraphics.graphics_fields, Table.XtSmGraphics.as_graphics, Table.Window.window_fields, Table.Window.as_window}
use Rattle.csicodec_actions.proofs.AllFieldRows.{FieldRowsKeep, NumbersCount, RowOf, fields-append, fields-keep, first-append, option_or-assoc, row-of}
use Rattle.csicodec_actions.proofs.Common.{◌≡◌, ℕ, List, [], ◌∷◌, ◌++◌, Some, refl, sym, ap, ◌∙◌, inl, inr, None, rules, zero, suc, ◌⊎◌, Option, arith, eqb-true, same_Some, option_and_then_some, slice_get_read, made, Slot, One, gives, Row, given, rows_before, read_by, first_of, Number, table, field_table, Action, read_fields, Kind, Value, read, ◌==◌, Bool, true, false, ◌&&◌, ◌||◌, not, slice_get, AllByRecursion, option_or, CsiParam, Integer, P, IsSpellable, Spellable, is_number-pos}
use Rattle.csicodec_actions.proofs.Found.{guarded, one-of}

-- ---- several tables as one

pub read-append : {R : Type 0} (xs ys : List (Before R)) (list : List CsiParam) (final : ℕ) → read_by (xs ++ ys) list final ≡ option_or (read_by xs list final) (read_by ys list final)
read-append {R} xs ys list final = ap (λ rows. given rows list) (flat_map-append _ xs ys) ∙ first-append (λ (r : Row R). gives r list) (rows_before xs final) (rows_before ys final)

pub whole-table : (list : List CsiParam) (final : ℕ) → whole list final ≡ option_or (read_by table list final) (read_fields field_table list final)
unfolding all_subjects
whole-table list final = simp (option_or-assoc, read-append, fields-append) refl

-- ---- the row that gave an action

-- of each row of the table
abbrev pub AllRows : (ℕ → Row Action → Type 0) → List (Before Action) → Type 0
AllRows Q others = AllByRecursion (λ (b : Before Action). AllByRecursion (λ (r : Row Action). Q b.final r) b.rows) others

pub all-append : {X : Type 0} (Q : X → Type 0) (xs ys : List X) → AllByRecursion Q xs → AllByRecursion Q ys → AllByRecursion Q (xs ++ ys)
all-append Q [] ys all more = more
all-append Q (x ∷ xs) ys all more = (all.0, all-append Q xs ys all.1 more)

rows-of : (Q : ℕ → Row Action → Type 0) (others : List (Before Action)) (final : ℕ) → AllRows Q others → AllByRecursion (λ (r : Row Action). Q final r) (rows_before others final)
rows-of Q [] final all = tt
rows-of Q (b ∷ others) final all = elim (cases_Bool (final == b.final)) [
  | inl here ↦
      let mine : AllByRecursion (λ (r : Row Action). Q final r) b.rows = rw (eqb-true final b.final here) all.0 in
      rw here (all-append (λ (r : Row Action). Q final r) b.rows (rows_before others final) mine (rows-of Q others final all.1))
  | inr later ↦ rw later (rows-of Q others final all.1)
]

pub row-in : (Q : ℕ → Row Action → Type 0) (rows : List (Before Action)) (list : List CsiParam) (final : ℕ) (a : Action) → AllRows Q rows → read_by rows list final ≡ Some a
    → RowOf (Q final) (λ (r : Row Action). gives r list) a
row-in Q rows list final a all e = row-of (Q final) _ (rows_before rows final) a (rows-of Q rows final all) e

-- ---- what the rows make

-- what is made of tokens with the property T has the property Q
pub record KeepsTail (T : CsiParam → Type 0) (Q : Action → Type 0) (make : List CsiParam → Action) : Type 0 where
  pub each : (rest : List CsiParam) → AllByRecursion T rest → Q (make rest)

-- the same of what is made at the end of a row, with a tail or without
abbrev pub KeepsEnd : (CsiParam → Type 0) → (Action → Type 0) → (tail : Bool) → AtEnd tail Action → Type 0
KeepsEnd T Q true make = KeepsTail T Q make
KeepsEnd T Q false whole = Q whole

-- Each action that the row makes has the property Q, where each value has the property G, and each token of a tail the property T.
abbrev pub Keeps : (CsiParam → Type 0) → ((k : Kind) → Value k → Type 0) → (Action → Type 0) → (tail : Bool) (shape : List Slot) → Makes (AtEnd tail Action) shape → Type 0
Keeps T G Q tail [] end = KeepsEnd T Q tail end
Keeps T G Q tail (One k ∷ shape) make = (v : Value k) → G k v → Keeps T G Q tail shape (make v)
Keeps T G Q tail (s ∷ shape) make = Keeps T G Q tail shape make

end-keeps : (T : CsiParam → Type 0) (Q : Action → Type 0) (tail : Bool) (end : AtEnd tail Action) (list : List CsiParam) (a : Action) → KeepsEnd T Q tail end → AllByRecursion T list
    → ended tail end list ≡ a → Q a
end-keeps T Q true make list a keeps all e = rw (← e) (keeps.each list all)
end-keeps T Q false whole list a keeps all e = rw (← e) keeps

made-keeps : (T : CsiParam → Type 0) (G : (k : Kind) → Value k → Type 0) (Q : Action → Type 0) → NumbersCount T G → (tail : Bool) (shape : List Slot) (make : Makes (AtEnd tail Action) shape)
    (list : List CsiParam) (a : Action) → Keeps T G Q tail shape make → AllByRecursion T list → made tail shape make list ≡ Some a → Q a
made-keeps T G Q reads tail [] end list a keeps all e = end-keeps T Q tail end list a keeps all (same_Some _ _ e)
made-keeps T G Q reads tail (One k ∷ shape) make (Integer z ∷ ts) a keeps all e =
    option_and_then_some (λ v. made tail shape (make v) ts) (read k z) a e
    (λ v found is. made-keeps T G Q reads tail shape (make v) ts a (keeps v (reads k z v all.0 found)) all.1 is)
made-keeps T G Q reads tail (One k ∷ shape) make (P c ∷ ts) a keeps all e = cc
made-keeps T G Q reads tail (s ∷ shape) make (t ∷ ts) a keeps all e = made-keeps T G Q reads tail shape make ts a keeps all.1 e
made-keeps T G Q reads tail _ make _ a keeps all e = cc

abbrev pub TableKeeps : (CsiParam → Type 0) → ((k : Kind) → Value k → Type 0) → (Action → Type 0) → List (Before Action) → Type 0
TableKeeps T G Q rows = AllRows (λ final row. Keeps T G Q row.tail row.shape row.make) rows

pub table-keeps : (T : CsiParam → Type 0) (G : (k : Kind) → Value k → Type 0) (Q : Action →
    Type 0) → NumbersCount T G → (rows : List (Before Action)) → TableKeeps T G Q rows →
    (list : List CsiParam) (final : ℕ)
    (a : Action) → AllByRecursion T list → read_by rows list final ≡ Some a → Q a
table-keeps T G Q reads rows keep list final a all e =
    let r = row-in (λ final row. Keeps T G Q row.tail row.shape row.make) rows list final a keep e in
    made-keeps T G Q reads r.row.tail r.row.shape r.row.make list a r.holds all (guarded (has_shape r.row.tail r.row.shape list) _ a r.gave).1

pub whole-keeps : (T : CsiParam → Type 0) (G : (k : Kind) → Value k → Type 0) (Q : Action →
    Type 0) → NumbersCount T G → TableKeeps T G Q table → FieldRowsKeep G Q field_table →
    (list : List CsiParam) (final : ℕ)
    (a : Action) → AllByRecursion T list → whole list final ≡ Some a → Q a
whole-keeps T G Q reads keep keep-fields list final a all e = elim (one-of (read_by table list final) (read_fields field_table list final) a (sym (whole-table list final) ∙ e)) [
  | inl row ↦ table-keeps T G Q reads table keep list final a all row
  | inr fields ↦ fields-keep T G Q reads field_table keep-fields list final a all fields
]

-- of any tokens
pub no-tokens : (list : List CsiParam) → AllByRecursion (λ (t : CsiParam). Unit {0}) list
no-tokens [] = tt
no-tokens (t ∷ ts) = (tt, no-tokens ts)

pub spellable-tokens : (list : List CsiParam) → Spellable list → AllByRecursion IsSpellable list
spellable-tokens [] ok = tt
spellable-tokens (t ∷ ts) ok = (ok.0, spellable-tokens ts ok.2)

-- ---- Actions of lists that are read whole, made with memory and without.

pub unboxed_whole : (list : List CsiParam) (final : ℕ) (a : Action) → unboxed list final ≡ Some a → whole list final ≡ Some a
unfolding whole
unboxed_whole list final a e = rw e refl

pub boxed_whole : (list : List CsiParam) (final : ℕ) → unboxed list final ≡ None → boxed list final ≡ whole list final
unfolding whole
boxed_whole list final e = rw e refl

pub boxed-takes : (list : List CsiParam) (final : ℕ) (a : Action) → boxed list final ≡ Some a → TakesMemory a
unfolding boxed as_device as_window as_graphics
boxed-takes list final a e = elim (one-of (read_by device_rows list final) (read_fields field_table list final) a
    (ap (option_or (read_by device_rows list final)) (fields-append window_fields graphics_fields list final) ∙ e)) [
      | inl row ↦ table-keeps (λ t. Unit {0}) (λ k v. Unit {0}) TakesMemory (λ k z v h f. tt) device_rows (search rules depth 60) list final a (no-tokens list) row
      | inr fields ↦ fields-keep (λ t. Unit {0}) (λ k v. Unit {0}) TakesMemory (λ k z v h f. tt) field_table (search rules depth 60) list final a (no-tokens list) fields
    ]

-- ---- No two rows of a final read one list: a test that is computed over all pairs.

-- ---- the first of several that gives something

abbrev pub apart_from : {A : Type 0} → (A → A → Bool) → A → List A → Bool
apart_from apart x [] = true
apart_from apart x (y ∷ ys) = apart x y && apart_from apart x ys

abbrev pub all_apart : {A : Type 0} → (A → A → Bool) → List A → Bool
all_apart apart [] = true
all_apart apart (x ∷ xs) = apart_from apart x xs && all_apart apart xs

-- what gives something is fit to, and of two that are apart one isn't
pub record AreApart {A R : Type 0} (apart : A → A → Bool) (fit : A → Bool) (give : A → Option R) : Type 0 where
  pub gave : (x : A) (r : R) → give x ≡ Some r → fit x ≡ true
  pub one : (x y : A) → apart x y ≡ true → fit x ≡ true → fit y ≡ true → ⊥

apart-one : {A R : Type 0} (apart : A → A → Bool) (fit : A → Bool) (give : A → Option R) → AreApart apart fit give → (x : A) (xs : List A) (i : ℕ) (y : A) → apart_from apart x xs ≡ true
    → slice_get xs i ≡ Some y → fit x ≡ true → fit y ≡ true → ⊥
apart-one apart fit give are x (z ∷ zs) zero y d at f g = grind (arith, are.one x y)
apart-one apart fit give are x (z ∷ zs) (suc i) y d at f g = apart-one apart fit give are x zs i y (and_parts (apart x z) (apart_from apart x zs) d).1 at f g
apart-one apart fit give are x _ _ y d at f g = cc

-- what gives something is picked, wherever it stands
pub picked : {A R : Type 0} (apart : A → A → Bool) (fit : A → Bool) (give : A → Option R) →
    AreApart apart fit give → (xs : List A) (i : ℕ) (x : A) (r : R) → all_apart apart xs ≡ true →
    slice_get xs i ≡ Some x
    → give x ≡ Some r → first_of give xs ≡ Some r
picked apart fit give are (y ∷ ys) zero x r d at e = grind arith
picked apart fit give are (y ∷ ys) (suc i) x r d at e =
    grind (arith, picked apart fit give are ys i x r, apart-one apart fit give are y ys i x, are.gave y, are.gave x r)
picked apart fit give are _ _ x r d at e = cc

-- ---- the rows of tokens

-- no token fits both slots
abbrev differ : Slot → Slot → Bool
differ (Byte b) (Byte c) = not (b == c)
differ (Byte b) (Number n) = true
differ (Number n) (Number m) = not (n == m)
differ (Number n) (One k) = false
differ (One k) (Number n) = false
differ (One k) (One j) = false
differ _ _ = true

-- no list has both shapes, each with a tail or without
abbrev shapes_apart : Bool → List Slot → Bool → List Slot → Bool
shapes_apart tail [] other [] = false
shapes_apart tail [] other (t ∷ ts) = not tail
shapes_apart tail (s ∷ ss) other [] = not other
shapes_apart tail (s ∷ ss) other (t ∷ ts) = differ s t || shapes_apart tail ss other ts

abbrev pub are_apart : Row Action → Row Action → Bool
are_apart q r = shapes_apart q.tail q.shape r.tail r.shape

-- of each final of these
abbrev finals_apart : List (Before Action) → List (Before Action) → Bool
finals_apart all [] = true
finals_apart all (b ∷ others) = all_apart are_apart (rows_before all b.final) && finals_apart all others

-- ---- what the test says

differ-slots : (s t : Slot) (x : CsiParam) → differ s t ≡ true → fits s x ≡ true → fits t x ≡ true → ⊥
differ-slots (Byte b) t (Integer z) d e f = cc
differ-slots (Number n) t (P c) d e f = cc
differ-slots (One k) t (P c) d e f = cc
differ-slots (One k) (Byte b) (Integer z) d e f = cc
differ-slots (Byte b) (Byte a) (P c) d e f = grind arith
differ-slots (Number n) (Number m) (Integer z) d e f = grind (arith, is_number-pos n z, is_number-pos m z)
differ-slots _ _ _ d e f = cc

apart-shapes : (tail : Bool) (s : List Slot) (other : Bool) (t : List Slot) (list : List CsiParam) →
    shapes_apart tail s other t ≡ true → has_shape tail s list ≡ true → has_shape other t list ≡ true → ⊥
apart-shapes tail [] other [] list d e f = cc
apart-shapes tail (s ∷ ss) other (t ∷ ts) (x ∷ xs) d e f =
    grind (arith, differ-slots s t x, apart-shapes tail ss other ts xs)
apart-shapes false [] other (t ∷ ts) (x ∷ xs) d e f = cc
apart-shapes tail (s ∷ ss) false [] (x ∷ xs) d e f = cc
apart-shapes _ _ _ _ _ d e f = cc

-- the list has the shape of the row
abbrev pub has : Row Action → List CsiParam → Bool
has r list = has_shape r.tail r.shape list

rows-are-apart : (list : List CsiParam) → AreApart are_apart (λ (r : Row Action). has r list) (λ (r : Row Action). gives r list)
rows-are-apart list = record { gave = λ r a e. (guarded (has r list) _ a e).0; one = λ q r d e f. apart-shapes q.tail q.shape r.tail r.shape list d e f }

rows-apart : (all others : List (Before Action)) (final : ℕ) → finals_apart all others ≡ true → (rows_before others final ≡ []) ⊎ (all_apart are_apart (rows_before all final) ≡ true)
rows-apart all [] final d = inl refl
rows-apart all (b ∷ others) final d =
    let p = and_parts (all_apart are_apart (rows_before all b.final)) (finals_apart all others) d in
    elim (cases_Bool (final == b.final)) [ inl here ↦ inr (rw (eqb-true final b.final here) p.0) | inr later ↦ rw later (rows-apart all others final p.1) ]

table-apart : (final : ℕ) → all_apart are_apart (rows_before table final) ≡ true
table-apart final = elim (rows-apart table table final refl) [ inl none ↦ rw none refl | inr apart ↦ apart ]

pub row-whole : (list : List CsiParam) (final : ℕ) (a : Action) → read_by table list final ≡ Some a → whole list final ≡ Some a
row-whole list final a e = whole-table list final ∙ ap (λ o. option_or o (read_fields field_table list final)) e

pub rows_lem : (list : List CsiParam) (final : ℕ) → RowsDecide list final
rows_lem list final r a listed e =
    row-whole list final a
    (picked are_apart _ _ (rows-are-apart list) (rows_before table final) listed.0 r a (table-apart final)
    (slice_get_read (rows_before table final) _ listed.0 r refl listed.1 (sym listed.2)) e)

-- the row that gave something fits, so no row apart from it does
pub apart-given : (p : Row Action) (rows : List (Row Action)) (list : List CsiParam) (a : Action) → apart_from are_apart p rows ≡ true → has p list ≡ true → given rows list ≡ Some a → ⊥
apart-given p [] list a d f e = cc
apart-given p (r ∷ rows) list a d f e =
    grind (arith, apart-given p rows list a, apart-shapes p.tail p.shape r.tail r.shape list)
