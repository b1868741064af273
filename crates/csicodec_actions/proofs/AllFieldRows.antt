-- What holds of all that the rows over fields give: said for each row, and proved of any list.
use Rattle.csicodec_tokens.specs.Fields.{with_field}
use Rattle.csicodec_actions.specs.FieldRows.{Slot, Maybe, There, Must, Or, Rest, Makes, first, behind, value_or, have_shape, made, gives, given, Over, ahead_of_byte, behind_byte, fields_over, read_over}
use Rattle.csicodec_actions.proofs.Common.{fields_of, CsiParam, Integer, P, numbers, FieldRow, read_fields, Action, Kind, Any, Value, read, first_of, ◌≡◌, ℕ, List, [], ◌∷◌, ◌++◌, Option, None, Some, refl, sym, ap, ◌∙◌, subst, eqb-true, same_Some, option_and_then_some, ℤ, ◌==◌, if◌then◌else◌, option_and_then, AllByRecursion, option_or}
use Rattle.csicodec_actions.proofs.{Found.guarded, Found.map-some, Values.read_any}

-- ---- several tables as one

pub option_or-assoc : {R : Type 0} (a b c : Option R) → option_or (option_or a b) c ≡ option_or a (option_or b c)
option_or-assoc None b c = refl
option_or-assoc (Some x) b c = refl

pub first-append : {A R : Type 0} (give : A → Option R) (xs ys : List A) → first_of give (xs ++ ys) ≡ option_or (first_of give xs) (first_of give ys)
first-append give [] ys = refl
first-append give (x ∷ xs) ys = ap (option_or (give x)) (first-append give xs ys) ∙ sym (option_or-assoc (give x) (first_of give xs) (first_of give ys))

pub fields-append : {R : Type 0} (xs ys : List (Over R)) (list : List CsiParam) (final : ℕ) → read_fields (xs ++ ys) list final ≡ option_or (read_fields xs list final) (read_fields ys list final)
fields-append {R} xs ys list final = first-append (λ (o : Over R). if final == o.final then read_over o list else None) xs ys

-- ---- the row that gave an action

-- of each row of each entry
abbrev pub AllFieldRows : (Over Action → FieldRow Action → Type 0) → List (Over Action) → Type 0
AllFieldRows Q entries = AllByRecursion (λ (o : Over Action). AllByRecursion (Q o) o.rows) entries

pub record RowOf {R : Type 0} (Q : R → Type 0) (give : R → Option Action) (a : Action) : Type 0 where
  pub row : R
  pub holds : Q row
  pub gave : give row ≡ Some a

-- what all give is what the first of them gives that gives something
pub row-of : {R : Type 0} (Q : R → Type 0) (give : R → Option Action) (rows : List R) (a : Action) → AllByRecursion Q rows → first_of give rows ≡ Some a → RowOf Q give a
row-of Q give [] a hold e = cc
row-of Q give (r ∷ rows) a hold e = go (give r) refl e (row-of Q give rows a hold.1)
  where
    go : (o : Option Action) → give r ≡ o → option_or o (first_of give rows) ≡ Some a → (first_of give rows ≡ Some a → RowOf Q give a) → RowOf Q give a
    go (Some x) gave e later = record { row = r; holds = hold.0; gave = gave ∙ e }
    go None gave e later = later e

-- the fields that it was given of
pub record OverOf (Q : Over Action → FieldRow Action → Type 0) (list : List CsiParam) (final : ℕ) (a : Action) : Type 0 where
  pub entry : Over Action
  pub here : final ≡ entry.final
  pub fields : List (Option ℤ)
  pub are : fields_over entry list ≡ Some fields
  pub found : RowOf (Q entry) (λ (r : FieldRow Action). gives r fields) a

pub over-in : (Q : Over Action → FieldRow Action → Type 0) (entries : List (Over Action))
    (list : List CsiParam) (final : ℕ) (a : Action) → AllFieldRows Q entries →
    read_fields entries list final ≡ Some a
    → OverOf Q list final a
over-in Q entries list final a all e =
    let o = row-of (λ (o : Over Action). AllByRecursion (Q o) o.rows) (λ o. if final == o.final then read_over o list else None) entries a all e in
    let g = guarded (final == o.row.final) _ a o.gave in
    option_and_then_some (given o.row.rows) (fields_over o.row list) a g.1
    (λ fs are is. record { entry = o.row; here = eqb-true final o.row.final g.0; fields = fs; are = are; found = row-of (Q o.row) _ o.row.rows a o.holds is })

-- ---- what the rows make

-- what is made of numbers with the property G has the property that is asked for
pub record KeepsRest (G : (k : Kind) → Value k → Type 0) (Kept : List ℤ → Type 0) : Type 0 where
  pub each : (all : List ℤ) → AllByRecursion (G Any) all → Kept all

-- Each action that the row makes has the property Q, where each value has the property G.
abbrev pub FieldsKeep : ((k : Kind) → Value k → Type 0) → (Action → Type 0) → (slots : List Slot) → Makes Action slots → Type 0
FieldsKeep G Q [] made = Q made
FieldsKeep G Q (Maybe ∷ row) make = FieldsKeep G Q row (make None) × ((z : ℤ) → G Any z → FieldsKeep G Q row (make (Some z)))
FieldsKeep G Q (There ∷ row) make = FieldsKeep G Q row (make None) × ((z : ℤ) → G Any z → FieldsKeep G Q row (make (Some z)))
FieldsKeep G Q (Must k ∷ row) make = (v : Value k) → G k v → FieldsKeep G Q row (make v)
FieldsKeep G Q (Or k missing ∷ row) make = G k missing × ((v : Value k) → G k v → FieldsKeep G Q row (make v))
FieldsKeep G Q (Rest ∷ row) make = KeepsRest G (λ all. FieldsKeep G Q row (make all))
FieldsKeep G Q (s ∷ row) make = FieldsKeep G Q row make

abbrev pub FieldRowsKeep : ((k : Kind) → Value k → Type 0) → (Action → Type 0) → List (Over Action) → Type 0
FieldRowsKeep G Q entries = AllFieldRows (λ o row. FieldsKeep G Q row.slots row.make) entries

-- the number of a field, if it has one, has the property that its token has
abbrev Has : (CsiParam → Type 0) → Option ℤ → Type 0
Has T None = Unit {0}
Has T (Some z) = T (Integer z)

-- numbers with the property T count as values with the property G
abbrev pub NumbersCount : (CsiParam → Type 0) → ((k : Kind) → Value k → Type 0) → Type 0
NumbersCount T G = (k : Kind) (z : ℤ) (v : Value k) → T (Integer z) → read k z ≡ Some v → G k v

first-has : (T : CsiParam → Type 0) (fs : List (Option ℤ)) → AllByRecursion (Has T) fs → Has T (first fs)
first-has T [] all = tt
first-has T (f ∷ fs) all = all.0

behind-has : (T : CsiParam → Type 0) (fs : List (Option ℤ)) → AllByRecursion (Has T) fs → AllByRecursion (Has T) (behind fs)
behind-has T [] all = tt
behind-has T (f ∷ fs) all = all.1

value-counts : (T : CsiParam → Type 0) (G : (k : Kind) → Value k → Type 0) → NumbersCount T G →
    (k : Kind) (missing v : Value k) (o : Option ℤ) → G k missing → Has T o →
    value_or k missing o ≡ Some v → G k v
value-counts T G counts k missing v None good has e = subst (G k) (same_Some _ _ e) good
value-counts T G counts k missing v (Some z) good has e = counts k z v has e

must-count : (T : CsiParam → Type 0) (G : (k : Kind) → Value k → Type 0) → NumbersCount T G → (k : Kind) (v : Value k) (o : Option ℤ) → Has T o → option_and_then (read k) o ≡ Some v → G k v
must-count T G counts k v None has e = cc
must-count T G counts k v (Some z) has e = counts k z v has e

maybe-keep : (T : CsiParam → Type 0) (G : (k : Kind) → Value k → Type 0) (Q : Action → Type 0) → NumbersCount T G → (row : List Slot) (make : Option ℤ → Makes Action row) (o : Option ℤ)
    → FieldsKeep G Q row (make None) × ((z : ℤ) → G Any z → FieldsKeep G Q row (make (Some z))) → Has T o → FieldsKeep G Q row (make o)
maybe-keep T G Q counts row make None keeps has = keeps.0
maybe-keep T G Q counts row make (Some z) keeps has = keeps.1 z (counts Any z z has (read_any z))

numbers-count : (T : CsiParam → Type 0) (G : (k : Kind) → Value k → Type 0) → NumbersCount T G → (fs : List (Option ℤ)) → AllByRecursion (Has T) fs → AllByRecursion (G Any) (numbers fs)
numbers-count T G counts [] has = tt
numbers-count T G counts (None ∷ fs) has = numbers-count T G counts fs has.1
numbers-count T G counts (Some z ∷ fs) has = (counts Any z z has.0 (read_any z), numbers-count T G counts fs has.1)

made-keeps : (T : CsiParam → Type 0) (G : (k : Kind) → Value k → Type 0) (Q : Action → Type 0) → NumbersCount T G → (slots : List Slot) (make : Makes Action slots) (fs : List (Option ℤ)) (a : Action)
    → FieldsKeep G Q slots make → AllByRecursion (Has T) fs → made slots make fs ≡ Some a → Q a
made-keeps T G Q counts [] made fs a keeps all e = rw (← same_Some _ _ e) keeps
made-keeps T G Q counts (Maybe ∷ row) make fs a keeps all e =
    made-keeps T G Q counts row (make (first fs)) (behind fs) a (maybe-keep T G Q counts row make (first fs) keeps (first-has T fs all)) (behind-has T fs all) e
made-keeps T G Q counts (There ∷ row) make fs a keeps all e =
    made-keeps T G Q counts row (make (first fs)) (behind fs) a (maybe-keep T G Q counts row make (first fs) keeps (first-has T fs all)) (behind-has T fs all) e
made-keeps T G Q counts (Must k ∷ row) make fs a keeps all e =
    option_and_then_some (λ v. made row (make v) (behind fs)) (option_and_then (read k) (first fs)) a e
    (λ v found is. made-keeps T G Q counts row (make v) (behind fs) a (keeps v (must-count T G counts k v (first fs) (first-has T fs all) found)) (behind-has T fs all) is)
made-keeps T G Q counts (Or k missing ∷ row) make fs a keeps all e =
    option_and_then_some (λ v. made row (make v) (behind fs)) (value_or k missing (first fs)) a e
    (λ v found is. made-keeps T G Q counts row (make v) (behind fs) a (keeps.1 v (value-counts T G counts k missing v (first fs) keeps.0 (first-has T fs all) found)) (behind-has T fs all) is)
made-keeps T G Q counts (Rest ∷ row) make fs a keeps all e =
    made-keeps T G Q counts row (make (numbers fs)) (behind fs) a (keeps.each (numbers fs) (numbers-count T G counts fs all)) (behind-has T fs all) e
made-keeps T G Q counts (s ∷ row) make fs a keeps all e = made-keeps T G Q counts row make (behind fs) a keeps (behind-has T fs all) e

-- ---- the tokens of the fields

with-has : (T : CsiParam → Type 0) (x : Option ℤ) (o : Option (List (Option ℤ)))
    (fs : List (Option ℤ)) → Has T x →
    ((g : List (Option ℤ)) → o ≡ Some g → AllByRecursion (Has T) g) → with_field x o ≡ Some fs
    → AllByRecursion (Has T) fs
with-has T x None fs has others e = cc
with-has T x (Some g) fs has others e = rw (← same_Some _ _ e) (has, others g refl)

fields-have : (T : CsiParam → Type 0) (list : List CsiParam) (fs : List (Option ℤ)) → AllByRecursion T list → fields_of list ≡ Some fs → AllByRecursion (Has T) fs
fields-have T [] fs all e = rw (← same_Some _ _ e) tt
fields-have T (P b ∷ list) fs all e = with-has T None (fields_of list) fs tt (λ g is. fields-have T list g all.1 is) (guarded (b == 59) _ fs e).1
fields-have T (Integer z ∷ []) fs all e = rw (← same_Some _ _ e) (all.0, tt)
fields-have T (Integer z ∷ P b ∷ list) fs all e = with-has T (Some z) (fields_of list) fs all.0 (λ g is. fields-have T list g all.1.1 is) (guarded (b == 59) _ fs e).1
fields-have T (Integer z ∷ Integer y ∷ list) fs all e = with-has T (Some z) (fields_of (Integer y ∷ list)) fs all.0 (λ g is. fields-have T (Integer y ∷ list) g all.1 is) e

behind-tokens : (T : CsiParam → Type 0) (b : Option ℕ) (list rest : List CsiParam) → AllByRecursion T list → behind_byte b list ≡ Some rest → AllByRecursion T rest
behind-tokens T None list rest all e = rw (← same_Some _ _ e) all
behind-tokens T (Some b) (P c ∷ ts) rest all e = rw (← same_Some _ _ (guarded (c == b) _ rest e).1) all.1
behind-tokens T (Some b) _ rest all e = cc

ahead-tokens : (T : CsiParam → Type 0) (b : Option ℕ) (list rest : List CsiParam) → AllByRecursion T list → ahead_of_byte b list ≡ Some rest → AllByRecursion T rest
ahead-tokens T None list rest all e = rw (← same_Some _ _ e) all
ahead-tokens T (Some b) (P c ∷ []) rest all e = rw (← same_Some _ _ (guarded (c == b) _ rest e).1) tt
ahead-tokens T (Some b) (t ∷ u ∷ ts) rest all e =
    let m = map-some (λ l. t ∷ l) (ahead_of_byte (Some b) (u ∷ ts)) rest e in
    rw (← m.2) (all.0, ahead-tokens T (Some b) (u ∷ ts) m.0 all.1 m.1)
ahead-tokens T (Some b) _ rest all e = cc

over-have : (T : CsiParam → Type 0) (o : Over Action) (list : List CsiParam) (fs : List (Option ℤ)) → AllByRecursion T list → fields_over o list ≡ Some fs → AllByRecursion (Has T) fs
over-have T o list fs all e =
    option_and_then_some fields_of (option_and_then (ahead_of_byte o.end) (behind_byte o.ahead list)) fs e
    (λ front cut are. option_and_then_some (ahead_of_byte o.end) (behind_byte o.ahead list) front cut
    (λ rest begun ended. fields-have T front fs (ahead-tokens T o.end rest front (behind-tokens T o.ahead list rest all begun) ended) are))

pub fields-keep : (T : CsiParam → Type 0) (G : (k : Kind) → Value k → Type 0) (Q : Action →
    Type 0) → NumbersCount T G → (entries : List (Over Action)) → FieldRowsKeep G Q entries →
    (list : List CsiParam)
    (final : ℕ) (a : Action) → AllByRecursion T list → read_fields entries list final ≡ Some a → Q a
fields-keep T G Q counts entries keep list final a all e =
    let o = over-in (λ o row. FieldsKeep G Q row.slots row.make) entries list final a keep e in
    let r = o.found in
    made-keeps T G Q counts r.row.slots r.row.make o.fields a r.holds (over-have T o.entry list o.fields all o.are) (guarded (have_shape r.row.slots o.fields) _ a r.gave).1
