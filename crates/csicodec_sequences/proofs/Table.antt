-- The table: values as they are written and read, tests of each row and of each two, which are computed, and what they say.
use Rattle.std.proofs.Common.{◌≡◌, ℕ, List, [], ◌∷◌, ◌++◌, Option, Some, refl, ap, arith, append-nil, append_assoc, ◌<◌, ◌≤◌, ◌+◌, ◌*◌, zero, suc, None, length, drop, get_or, sym, ◌∙◌, inl, inr, pos, add-one, drop-cons}
use Rattle.std.proofs.{lemmas.Bool.and_parts, lemmas.Bool.cases_Bool, lemmas.Bool.eqb-true, lemmas.Int.ints, lemmas.List.drop_all, lemmas.Option.same_Some}
use Rattle.std.proofs.{lemmas.Option.option_and_then_some}
use Rattle.csicodec_actions.proofs.{AllFieldRows.first-append, AllRows.AreApart, AllRows.all_apart, AllRows.picked, Found.guarded}
use Rattle.std.specs.Prelude.{ℤ, true, false, ◌==◌, if◌then◌else◌, encode_utf8, nat_lt, ◌&&◌, ◌||◌, Bool, not, is_some, slice_get, map}
use Rattle.std.specs.{List.list_all, Option.option_map, Option.option_or}
use Rattle.csicodec_tokens.specs.{declared.param.CsiParam.CsiParam, declared.param.CsiParam.TheVariants.Integer, declared.param.CsiParam.TheVariants.P}
use Rattle.csicodec_tokens.specs.{Fields.fields_of, Fields.with_field, Param.spells, Sequence.Apart, Sequence.IsFinal, Sequence.IsSpellable, Sequence.Spellable}
use Rattle.csicodec_actions.specs.FieldRows.{behind, first}
use Rattle.csicodec_sequences.specs.Parts.{is_intermediate, is_marker, parts_of, with_front, without_intermediate, without_marker}
use Rattle.csicodec_sequences.specs.Rows.{Row, are_missing_within, behind_text, byte_text, byte_tokens, each_behind, fit, form_text, has_bytes, has_its_bytes, is_final, is_row, joined, numbers_text, read_row, row_list, slot_value, slot_values, is_within}
use Rattle.csicodec_sequences.specs.Known.{dec_rows, first_reading, gives, other_rows, reading, report_rows, rows_of, table}
use Rattle.csicodec_sequences.specs.{declared.row.NumberSlot.NumberSlot, declared.row.SequenceForm.SequenceForm}

-- ---- slots

-- a first value, and those behind it
pub record Taken (s : NumberSlot) (ss : List NumberSlot) (fs : List (Option ℤ)) (vs : List ℕ) : Type 0 where
  pub one : ℕ
  pub others : List ℕ
  pub value : slot_value s (first fs) ≡ Some one
  pub later : slot_values ss (behind fs) ≡ Some others
  pub all : one ∷ others ≡ vs

-- where a field stands
pub taken : (s : NumberSlot) (ss : List NumberSlot) (f : Option ℤ) (fs : List (Option ℤ)) (vs : List ℕ) → slot_values (s ∷ ss) (f ∷ fs) ≡ Some vs → Taken s ss (f ∷ fs) vs
taken s ss f fs vs e = grind arith

-- the fields of numbers
abbrev number_fields : List ℕ → List (Option ℤ)
number_fields vs = map (λ v. Some (pos v)) vs

joined_fields : (vs : List ℕ) → fields_of (joined vs) ≡ Some (number_fields vs)
joined_fields [] = refl
joined_fields (v ∷ []) = refl
joined_fields (v ∷ w ∷ vs) = ap (with_field (Some (pos v))) (joined_fields (w ∷ vs))

-- what fits is read back
fit_read : (ss : List NumberSlot) (vs : List ℕ) → fit ss vs ≡ true → slot_values ss (number_fields vs) ≡ Some vs
fit_read [] vs h = grind arith
fit_read (s ∷ ss) [] h = grind arith
fit_read (s ∷ ss) (v ∷ vs) h = grind (arith, fit_read ss vs)

-- what is read fits
read_fit : (ss : List NumberSlot) (fs : List (Option ℤ)) (vs : List ℕ) → slot_values ss fs ≡ Some vs → are_missing_within ss ≡ true → fit ss vs ≡ true
read_fit [] fs vs e h = grind arith
read_fit (s ∷ ss) fs vs e h = grind (arith, read_fit ss)

-- ---- the bytes around them

pub cut_end : (front : List CsiParam) (t : CsiParam) → without_intermediate (front ++ t ∷ []) ≡ ((without_intermediate (t ∷ [])).0, front ++ (without_intermediate (t ∷ [])).1)
cut_end [] t = refl
cut_end (x ∷ []) t = ap (with_front x) (cut_end [] t)
cut_end (x ∷ y ∷ front) t = ap (with_front x) (cut_end (y ∷ front) t)

-- a token that is no intermediate byte stays
pub stays : (t : CsiParam) (list : List CsiParam) → without_intermediate (t ∷ []) ≡ (0, t ∷ []) → without_intermediate (t ∷ list) ≡ with_front t (without_intermediate list)
stays t list alone = grind arith

-- numbers have no intermediate byte behind them
joined_ends : (vs : List ℕ) → without_intermediate (joined vs) ≡ (0, joined vs)
joined_ends [] = refl
joined_ends (v ∷ vs) = grind (arith, joined_ends vs)

begins : (m i : ℕ) (vs : List ℕ) → (if m == 0 then true else is_marker m) ≡ true → (if i == 0 then true else is_intermediate i) ≡ true
    → without_marker (byte_tokens m ++ (joined vs ++ byte_tokens i)) ≡ (m, joined vs ++ byte_tokens i)
begins m i vs marker intermediate = grind arith

ends : (i : ℕ) (vs : List ℕ) → (if i == 0 then true else is_intermediate i) ≡ true → without_intermediate (joined vs ++ byte_tokens i) ≡ (i, joined vs)
ends i vs ok = grind (arith, append-nil (joined vs), joined_ends vs, cut_end (joined vs) (P i))

-- the parts of the list that a row writes are those of the row
parts_are : (row : Row) (vs : List ℕ) → has_its_bytes row ≡ true → parts_of (row_list row vs) ≡ record { marker = row.form.marker; body = joined vs; intermediate = row.form.intermediate }
parts_are row vs h = grind (arith, begins row.form.marker row.form.intermediate vs, ends row.form.intermediate vs)

-- what the code cuts off
pub cut-byte : (list front : List CsiParam) (t : CsiParam) (b : ℕ) → list ≡ front ++ t ∷ [] → t ≡ P b → is_intermediate b ≡ true → (b, front) ≡ without_intermediate list
cut-byte list front t b parts is between = rw (parts, is, cut_end front (P b)) (rw between (rw append-nil refl))

pub kept-byte : (list front : List CsiParam) (t : CsiParam) (b : ℕ) → list ≡ front ++ t ∷ [] → t ≡ P b → is_intermediate b ≡ false → (0, list) ≡ without_intermediate list
kept-byte list front t b parts is other = rw (parts, is, cut_end front (P b)) (rw other refl)

pub kept-number : (list front : List CsiParam) (t : CsiParam) (z : ℤ) → list ≡ front ++ t ∷ [] → t ≡ Integer z → (0, list) ≡ without_intermediate list
kept-number list front t z parts is = rw (parts, is, cut_end front (Integer z)) refl

-- ---- rows

-- what reads has the final, the bytes and the values
pub record HasRead (r : Row) (list : List CsiParam) (final : ℕ) (vs : List ℕ) : Type 0 where
  pub control : final ≡ r.form.control
  pub marker : (parts_of list).marker ≡ r.form.marker
  pub intermediate : (parts_of list).intermediate ≡ r.form.intermediate
  pub fields : List (Option ℤ)
  pub are : fields_of (parts_of list).body ≡ Some fields
  pub values : slot_values r.slots fields ≡ Some vs

pub has_read : (r : Row) (list : List CsiParam) (final : ℕ) (vs : List ℕ) → read_row r list final ≡ Some vs → HasRead r list final vs
has_read r list final vs e =
    let g = guarded (final == r.form.control) _ vs e in
    let p = guarded (has_bytes r (parts_of list)) _ vs g.1 in
    let b = and_parts ((parts_of list).marker == r.form.marker) ((parts_of list).intermediate == r.form.intermediate) p.0 in
    option_and_then_some (slot_values r.slots) (fields_of (parts_of list).body) vs p.1
    (λ fs are is. record { control = eqb-true _ _ g.0; marker = eqb-true _ _ b.0; intermediate = eqb-true _ _ b.1; fields = fs; are = are; values = is })

pub read_fits : (row : Row) (list : List CsiParam) (final : ℕ) (values : List ℕ) → is_row row ≡ true → read_row row list final ≡ Some values → fit row.slots values ≡ true
read_fits row list final values h e = (let r = has_read row list final values e in read_fit row.slots r.fields values r.values (and_parts (is_final row.form.control) _ (and_parts (has_its_bytes row) _ h).1).1)

pub fits_read : (row : Row) (values : List ℕ) → is_row row ≡ true → fit row.slots values ≡ true → read_row row (row_list row values) row.form.control ≡ Some values
fits_read row values h f = of_parts (row_list row values) (grind (arith, parts_are row values)) (joined_fields values) (fit_read row.slots values f)
  where
    of_parts : (list : List CsiParam) → parts_of list ≡ record { marker = row.form.marker; body = joined values; intermediate = row.form.intermediate }
        → fields_of (joined values) ≡ Some (number_fields values) → slot_values row.slots (number_fields values) ≡ Some values → read_row row list row.form.control ≡ Some values
    of_parts list p g e = grind arith

-- ---- the text

spells_append : (xs ys : List CsiParam) → spells (xs ++ ys) ≡ spells xs ++ spells ys
spells_append [] ys = refl
spells_append (x ∷ xs) ys = simp (spells_append xs ys, append_assoc)

behind_spelled : (vs : List ℕ) → behind_text vs ≡ spells (each_behind vs)
unfolding lib.Utf8.encode
behind_spelled [] = refl
behind_spelled (v ∷ vs) = rw (behind_spelled vs)

numbers_spelled : (vs : List ℕ) → numbers_text vs ≡ spells (joined vs)
numbers_spelled [] = refl
numbers_spelled (v ∷ vs) = rw (behind_spelled vs)

byte_spelled : (b : ℕ) → byte_text b ≡ spells (byte_tokens b)
byte_spelled b = grind (arith, append-nil (encode_utf8 b))

pub text_lem : (row : Row) (values : List ℕ) → form_text row.form values ≡ spells (row_list row values) ++ encode_utf8 row.form.control
text_lem row values = simp (byte_spelled, numbers_spelled, spells_append, append_assoc)

-- ---- The rows of the table: tests of each row and of each two, which are computed, and what they say.

-- ---- slots that no list is read by

-- the number has to stand there
abbrev pub must : NumberSlot → Bool
must s = not (is_some s.missing) && not s.optional

-- one of the ranges is empty, or they don't meet
abbrev ranges_apart : NumberSlot → NumberSlot → Bool
ranges_apart s t = nat_lt s.last s.first || (nat_lt t.last t.first || (nat_lt s.last t.first || nat_lt t.last s.first))

-- no field is a value of both, and not both may be missing
abbrev differ : NumberSlot → NumberSlot → Bool
differ s t = ranges_apart s t && (must s || must t)

abbrev pub slots_apart : List NumberSlot → List NumberSlot → Bool
slots_apart [] [] = false
slots_apart [] (t ∷ ts) = must t || (not t.optional && slots_apart [] ts)
slots_apart (s ∷ ss) [] = must s || (not s.optional && slots_apart ss [])
slots_apart (s ∷ ss) (t ∷ ts) = differ s t || (not s.optional && (not t.optional && slots_apart ss ts))

differ_values : (s t : NumberSlot) (o : Option ℤ) (v w : ℕ) → differ s t ≡ true → slot_value s o ≡ Some v → slot_value t o ≡ Some w → ⊥
differ_values s t o v w h e f = grind arith

-- two slots and those behind them, at the end of the fields
ended_apart : (s t : NumberSlot) (ss ts : List NumberSlot) (vs ws : List ℕ) → ((us xs : List ℕ) → slot_values ss [] ≡ Some us → slot_values ts [] ≡ Some xs → slots_apart ss ts ≡ true → ⊥)
    → slots_apart (s ∷ ss) (t ∷ ts) ≡ true → slot_values (s ∷ ss) [] ≡ Some vs → slot_values (t ∷ ts) [] ≡ Some ws → ⊥
ended_apart s t ss ts vs ws later h e f = grind arith

pub slots-apart : (ss ts : List NumberSlot) (fs : List (Option ℤ)) (vs ws : List ℕ) → slots_apart ss ts ≡ true → slot_values ss fs ≡ Some vs → slot_values ts fs ≡ Some ws → ⊥
slots-apart [] [] fs vs ws h e f = cc
slots-apart [] (t ∷ ts) [] vs ws h e f = grind (arith, slots-apart [] ts [] [])
slots-apart (s ∷ ss) [] [] vs ws h e f =
    let later : (us : List ℕ) → slots_apart ss [] ≡ true → slot_values ss [] ≡ Some us → ⊥ = λ us k g. slots-apart ss [] [] us [] k g refl in grind (arith, later)
slots-apart (s ∷ ss) (t ∷ ts) [] vs ws h e f = ended_apart s t ss ts vs ws (λ us xs g k m. slots-apart ss ts [] us xs m g k) h e f
slots-apart (s ∷ ss) (t ∷ ts) (x ∷ fs) vs ws h e f =
    let a = taken s ss x fs vs e in let b = taken t ts x fs ws f in grind (arith, differ_values s t x a.one b.one, slots-apart ss ts fs a.others b.others, a.value, b.value, a.later, b.later)
slots-apart _ _ _ vs ws h e f = cc

-- ---- rows

abbrev rows_apart : Row → Row → Bool
rows_apart q r =
    not (q.form.control == r.form.control) || (not (q.form.marker == r.form.marker) || (not (q.form.intermediate == r.form.intermediate) || slots_apart q.slots r.slots))

apart_rows : (q r : Row) (list : List CsiParam) (final : ℕ) (vs ws : List ℕ) → HasRead q list final vs → HasRead r list final ws → rows_apart q r ≡ true → ⊥
apart_rows q r list final vs ws a b h =
    let same : a.fields ≡ b.fields = same_Some _ _ (sym a.are ∙ b.are) in grind (arith, slots-apart q.slots r.slots a.fields vs ws, b.values)

-- ---- tests of each row, and of each two

abbrev two : (Row → Row → Bool) → List Row → Bool
two f [] = true
two f (r ∷ rows) = list_all (f r) rows && two f rows

pub row_at : (f : Row → Bool) (rows : List Row) (i : ℕ) (q : Row) → list_all f rows ≡ true → slice_get rows i ≡ Some q → f q ≡ true
row_at f [] i q h at = cc
row_at f (r ∷ rows) zero q h at = rw (same_Some r q at) at (and_parts (f r) (list_all f rows) h).0
row_at f (r ∷ rows) (suc i) q h at = row_at f rows i q (and_parts (f r) (list_all f rows) h).1 at

-- rows of which the test doesn't hold stand at one place
one_place : (f : Row → Row → Bool) (rows : List Row) (i j : ℕ) (q r : Row) → two f rows ≡ true → slice_get rows i ≡ Some q → slice_get rows j ≡ Some r
    → (f q r ≡ true → ⊥) → (f r q ≡ true → ⊥) → i ≡ j
one_place f [] i j q r h at to n m = cc
one_place f (p ∷ rows) zero zero q r h at to n m = refl
one_place f (p ∷ rows) zero (suc j) q r h at to n m = grind (arith, row_at (f p) rows j r)
one_place f (p ∷ rows) (suc i) zero q r h at to n m = grind (arith, row_at (f p) rows i q)
one_place f (p ∷ rows) (suc i) (suc j) q r h at to n m = ap suc (one_place f rows i j q r (and_parts (list_all (f p) rows) (two f rows) h).1 at to n m)

-- each is a row
pub are_all : list_all is_row table ≡ true
unfolding rows_of table
are_all = refl

-- no slot has a larger number
abbrev are_small : List NumberSlot → Bool
are_small slots = list_all (λ (s : NumberSlot). nat_lt s.last 4294967296) slots

abbrev good : Row → Bool
good q = nat_lt 10000 q.form.kind && (nat_lt (length q.slots) 13 && (are_small q.slots && is_row q))

are_good : list_all good table ≡ true
unfolding rows_of table
are_good = refl

abbrev kinds_apart : Row → Row → Bool
kinds_apart q r = not (q.form.kind == r.form.kind)

own_kinds : two kinds_apart table ≡ true
unfolding rows_of table
own_kinds = refl

are_apart : all_apart rows_apart table ≡ true
unfolding rows_of table
are_apart = refl

-- ---- kinds, and rows of one list

pub above : (i : ℕ) (q : Row) → slice_get table i ≡ Some q → 10000 < q.form.kind
above i q at = (let h : good q ≡ true = row_at good table i q are_good at in grind arith)

pub one : (i j : ℕ) (q r : Row) → slice_get table i ≡ Some q → slice_get table j ≡ Some r → q.form.kind ≡ r.form.kind → i ≡ j
one i j q r at to same = one_place kinds_apart table i j q r own_kinds at to (λ h. grind arith) (λ h. grind arith)

-- ---- the first row that reads

-- the row at a place, and those behind it
row_behind : (forms : List SequenceForm) (all : List (List NumberSlot)) (k : ℕ) (f : SequenceForm) (ss : List NumberSlot) → k < length forms → k < length all
    → rows_of (drop k forms) (drop k all) ≡ record { form = get_or forms k f; slots = get_or all k ss } ∷ rows_of (drop (k + 1) forms) (drop (k + 1) all)
unfolding rows_of
row_behind forms all k f ss low within = rw (add-one, drop-cons forms k f, drop-cons all k ss)

-- at a place: what the row there reads, or those behind it
pub row_read : (forms : List SequenceForm) (all : List (List NumberSlot)) (k : ℕ) (f : SequenceForm) (ss : List NumberSlot) (params : List CsiParam) (control : ℕ) (o : Option (List ℕ))
    → k < length forms → k < length all → o ≡ read_row (record { form = get_or forms k f; slots = get_or all k ss }) params control
    → first_reading (rows_of (drop k forms) (drop k all)) params control
    ≡ option_or (option_map (λ vs. (get_or forms k f, vs)) o) (first_reading (rows_of (drop (k + 1) forms) (drop (k + 1) all)) params control)
row_read forms all k f ss params control o low within is = rw (row_behind forms all k f ss low within, is) refl

-- no row is left
pub none_left : (forms : List SequenceForm) (others : List (List NumberSlot)) (k : ℕ) (params : List CsiParam) (control : ℕ) → length forms ≤ k
    → None ≡ first_reading (rows_of (drop k forms) others) params control
unfolding rows_of
none_left forms others k params control h = rw (drop_all k forms h)

reading_table : (params : List CsiParam) (control : ℕ) → reading params control ≡ first_reading table params control
unfolding table
reading_table params control =
    sym (first-append (gives params control) dec_rows (other_rows ++ report_rows) ∙ ap (option_or (first_reading dec_rows params control)) (first-append (gives params control) other_rows report_rows))

-- no two rows that are apart read one list, so any row that reads decides
mapped : {A B : Type 0} (f : A → B) (o : Option A) (b : B) → option_map f o ≡ Some b → is_some o ≡ true
mapped f None b e = cc
mapped f (Some a) b e = refl

one_reads : (q r : Row) (params : List CsiParam) (control : ℕ) (o p : Option (List ℕ)) → rows_apart q r ≡ true → read_row q params control ≡ o → read_row r params control ≡ p → is_some o ≡ true → is_some p ≡ true → ⊥
one_reads q r params control (Some vs) (Some ws) h e f is also = apart_rows q r params control vs ws (has_read q params control vs e) (has_read r params control ws f) h
one_reads q r params control _ _ h e f is also = cc

rows-are-apart : (params : List CsiParam) (control : ℕ) → AreApart rows_apart (λ (r : Row). is_some (read_row r params control)) (gives params control)
rows-are-apart params control = record { gave = λ r known e. mapped _ _ known e; one = λ q r h e f. one_reads q r params control _ _ h refl refl e f }

pub any_row : (i : ℕ) (r : Row) (params : List CsiParam) (control : ℕ) (vs : List ℕ) → slice_get table i ≡ Some r → read_row r params control ≡ Some vs → reading params control ≡ Some (r.form, vs)
any_row i r params control vs at e =
    reading_table params control ∙ picked rows_apart _ _ (rows-are-apart params control) table i r (r.form, vs) are_apart at (ap (option_map (λ values. (r.form, values))) e)

pub one_row : (list : List CsiParam) (final i j : ℕ) (q r : Row) (v w : List ℕ) → slice_get table i ≡ Some q → slice_get table j ≡ Some r
    → read_row q list final ≡ Some v → read_row r list final ≡ Some w → i ≡ j
one_row list final i j q r v w at to e f =
    one i j q r at to (ap (λ (k : SequenceForm × List ℕ). k.0.kind) (same_Some _ _ (sym (any_row i q list final v at e) ∙ any_row j r list final w to f)))

-- ---- how long a list is

fields_length : (list : List CsiParam) (fs : List (Option ℤ)) → fields_of list ≡ Some fs → length list ≤ 2 * length fs
fields_length [] fs e = omega arith
fields_length (P b ∷ ts) fs e = grind (arith, fields_length ts)
fields_length (Integer z ∷ []) fs e = grind arith
fields_length (Integer z ∷ P b ∷ ts) fs e = grind (arith, fields_length ts)
fields_length (Integer z ∷ Integer y ∷ ts) fs e = grind (arith, fields_length (Integer y ∷ ts))

slots_length : (ss : List NumberSlot) (fs : List (Option ℤ)) (vs : List ℕ) → slot_values ss fs ≡ Some vs → length fs ≤ length ss
slots_length [] fs vs e = grind arith
slots_length (s ∷ ss) [] vs e = omega arith
slots_length (s ∷ ss) (f ∷ fs) vs e = (let x = taken s ss f fs vs e in omega (arith, slots_length ss fs x.others x.later))

marker_length : (list : List CsiParam) → length list ≤ length (without_marker list).1 + 1
marker_length list = grind arith

intermediate_length : (list : List CsiParam) → length list ≤ length (without_intermediate list).1 + 1
intermediate_length [] = omega arith
intermediate_length (t ∷ []) = grind arith
intermediate_length (t ∷ u ∷ ts) = omega (arith, intermediate_length (u ∷ ts))

row_length : (r : Row) (list : List CsiParam) (final : ℕ) (vs : List ℕ) → good r ≡ true → HasRead r list final vs → length list ≤ 26
row_length r list final vs h e =
    let few : length r.slots < 13 = grind arith in
    omega (arith, slots_length r.slots e.fields vs e.values, fields_length (parts_of list).body e.fields e.are, marker_length list, intermediate_length (without_marker list).1, few)

first_length : (rows : List Row) (list : List CsiParam) (final : ℕ) (known : SequenceForm × List ℕ) → list_all good rows ≡ true → first_reading rows list final ≡ Some known → length list ≤ 26
first_length [] list final known h e = cc
first_length (r ∷ rows) list final known h e =
    let p = and_parts (good r) (list_all good rows) h in
    go (first_length rows list final known p.1) (λ vs f. row_length r list final vs p.0 (has_read r list final vs f)) e
  where
    go : (first_reading rows list final ≡ Some known → length list ≤ 26) → ((vs : List ℕ) → read_row r list final ≡ Some vs → length list ≤ 26)
        → first_reading (r ∷ rows) list final ≡ Some known → length list ≤ 26
    go later here e = grind arith

pub longest : (list : List CsiParam) (final : ℕ) (known : SequenceForm × List ℕ) → reading list final ≡ Some known → length list ≤ 26
longest list final known e = first_length table list final known are_good (sym (reading_table list final) ∙ e)

-- ---- what is written is a control sequence

number_spellable : (s : NumberSlot) (v : ℕ) → nat_lt s.last 4294967296 ≡ true → is_within s v ≡ true → IsSpellable (Integer (pos v))
number_spellable s v small within = grind (arith, ints)

byte_spellable : (b : ℕ) → (is_marker b || is_intermediate b) ≡ true → IsSpellable (P b)
byte_spellable b h = grind (arith, ints)

-- a number can stand before this
abbrev BehindNumber : List CsiParam → Type 0
BehindNumber end = (v : ℕ) → Apart (Integer (pos v)) end

behind_spellable : (ss : List NumberSlot) (vs : List ℕ) (end : List CsiParam) → are_small ss ≡ true → fit ss vs ≡ true → Spellable end → BehindNumber end
    → Spellable (each_behind vs ++ end) × BehindNumber (each_behind vs ++ end)
behind_spellable ss [] end small fits spelled apart = (spelled, apart)
behind_spellable [] (v ∷ vs) end small fits spelled apart = cc
behind_spellable (s ∷ ss) (v ∷ vs) end small fits spelled apart =
    let p = and_parts (nat_lt s.last 4294967296) (are_small ss) small in
    let q = and_parts (is_within s v) (fit ss vs) fits in
    let r = behind_spellable ss vs end p.1 q.1 spelled apart in
    ((((omega arith, omega arith), λ digit. omega (arith, digit.1)), tt, (number_spellable s v p.0 q.0, r.1 v, r.0)), λ u. tt)

joined_spellable : (ss : List NumberSlot) (vs : List ℕ) (end : List CsiParam) → are_small ss ≡ true → fit ss vs ≡ true → Spellable end → BehindNumber end → Spellable (joined vs ++ end)
joined_spellable ss [] end small fits spelled apart = spelled
joined_spellable ss (v ∷ vs) end small fits spelled apart = (behind_spellable ss (v ∷ vs) end small fits spelled apart).0.2

end_spellable : (i : ℕ) → (if i == 0 then true else is_intermediate i) ≡ true → Spellable (byte_tokens i) × BehindNumber (byte_tokens i)
end_spellable i ok = elim (cases_Bool (i == 0)) [
  | inl none ↦ rw none (tt, λ u. tt)
  | inr some_it ↦ rw some_it ((byte_spellable i (grind arith), tt, tt), λ u. tt)
]

front_spellable : (m : ℕ) (list : List CsiParam) → (if m == 0 then true else is_marker m) ≡ true → Spellable list → Spellable (byte_tokens m ++ list)
front_spellable m list ok spelled = grind (arith, byte_spellable m)

pub sequence : (i : ℕ) (q : Row) (vs : List ℕ) → slice_get table i ≡ Some q → fit q.slots vs ≡ true → Spellable (row_list q vs) × IsFinal q.form.control
sequence i q vs at f =
    let test : good q ≡ true = row_at good table i q are_good at in
    let end = end_spellable q.form.intermediate (grind arith) in
    let values = joined_spellable q.slots vs (byte_tokens q.form.intermediate) (grind arith) f end.0 end.1 in
    (front_spellable q.form.marker (joined vs ++ byte_tokens q.form.intermediate) (grind arith) values, grind arith)
