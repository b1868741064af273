-- No row of the table reads a list that is read whole as an action: tests that are computed of each row and each row of actions before its final character.
use Rattle.std.proofs.Common.{◌≡◌, ℕ, List, [], ◌∷◌, ◌++◌, Option, None, Some, ◌⊎◌, refl, sym, ap, ◌∙◌, inl, inr, subst, arith}
use Rattle.std.proofs.{lemmas.Bool.and_parts, lemmas.Bool.cases_Bool, lemmas.Bool.eqb-true, lemmas.Option.same_Some}
use Rattle.csicodec_tokens.specs.{Fields.fields_of, Fields.with_field, declared.param.CsiParam.CsiParam, declared.param.CsiParam.TheVariants.Integer}
use Rattle.csicodec_tokens.specs.{declared.param.CsiParam.TheVariants.P}
use Rattle.std.specs.Prelude.{ℤ, pos, negsuc, ◌==◌, ◌&&◌, ◌||◌, Bool, true, false, not, is_some, if◌then◌else◌, option_and_then, slice_get}
use Rattle.std.specs.{List.list_all, Option.option_or}
use Rattle.csicodec_actions.specs.FieldRows.{This, Empty, End, There, Must, FieldRow, ahead_of_byte, behind, behind_byte, byte, first, fits, have_shape, no_byte, over, read_fields, read_over}
use Rattle.csicodec_actions.specs.{Actions.Action, Rows.Byte, Rows.Number, Rows.One, Rows.has_shape, Rows.read_by, Rows.rows_before, Table.field_table}
use Rattle.csicodec_actions.specs.{Table.whole, Table.Window.areas, Table.Window.windows, Table.XtSmGraphics.graphics_rows, Common.is_number}
use Rattle.csicodec_actions.proofs.AllRows.{whole-table}
use Rattle.csicodec_parser.proofs.Fronts.{is_none}
use Rattle.csicodec_sequences.specs.{Parts.is_marker, Parts.without_intermediate, Parts.without_marker, declared.row.NumberSlot.NumberSlot, Known.rows_of}
use Rattle.csicodec_sequences.specs.{Known.table, Rows.Row, Rows.is_within, Rows.read_row, Rows.slot_value, Rows.slot_values}
use Rattle.csicodec_sequences.proofs.Table.{HasRead, has_read, must, row_at, slots-apart, slots_apart, cut_end, stays, taken}
use Rattle.csicodec_actions.specs.FieldRows as fields
use Rattle.csicodec_actions.specs.Rows as actions
use Rattle.csicodec_actions.specs.Table as all_actions

-- ---- the test of a row of actions over tokens

-- the byte is no intermediate byte at the end of what these slots read
abbrev byte_apart : ℕ → List NumberSlot → ℕ → Bool → List actions.Slot → Bool
byte_apart i ss b tail [] = not (b == i) || (not tail && slots_apart [] ss)
byte_apart i ss b tail (s ∷ shape) = true

-- no list of this shape, from the beginning of a field on or from behind a number, is read by these slots with this intermediate byte behind it
abbrev walk : Bool → ℕ → List NumberSlot → Bool → List actions.Slot → Bool
walk behind i ss tail [] = not tail && (not (i == 0) || slots_apart [] ss)
walk true i ss tail (Byte b ∷ shape) = if b == 59 then walk false i ss tail shape else byte_apart i ss b tail shape
walk true i ss tail (s ∷ shape) = false
walk false i [] tail (Byte b ∷ shape) = (b == 59) || byte_apart i [] b tail shape
walk false i [] tail (s ∷ shape) = true
walk false i (s ∷ ss) tail (Byte b ∷ shape) = if b == 59 then not (is_some s.missing) || walk false i ss tail shape else byte_apart i (s ∷ ss) b tail shape
walk false i (s ∷ ss) tail (Number n ∷ shape) = not (is_within s n) || walk true i ss tail shape
walk false i (s ∷ ss) tail (One k ∷ shape) = walk true i ss tail shape

-- the same of a list with its marker
abbrev marked_apart : ℕ → ℕ → List NumberSlot → Bool → List actions.Slot → Bool
marked_apart m i ss tail [] = not tail && (not (m == 0) || walk false i ss false [])
marked_apart m i ss tail (Byte b ∷ shape) =
    if is_marker b then not (m == b) || walk false i ss tail shape else not (m == 0) || walk false i ss tail (Byte b ∷ shape)
marked_apart m i ss tail (s ∷ shape) = not (m == 0) || walk false i ss tail (s ∷ shape)

abbrev row_apart : Row → actions.Row Action → Bool
row_apart q r = marked_apart q.form.marker q.form.intermediate q.slots r.tail r.shape

-- ---- what it says

-- the fields from the beginning of one on, or from behind a number
abbrev fields_at : Bool → List CsiParam → Option (List (Option ℤ))
fields_at true [] = Some []
fields_at true (P b ∷ ts) = if b == 59 then fields_of ts else None
fields_at at ts = fields_of ts

number_field : (z : ℤ) (ts : List CsiParam) → fields_of (Integer z ∷ ts) ≡ with_field (Some z) (fields_at true ts)
number_field z [] = refl
number_field z (P b ∷ ts) = elim (cases_Bool (b == 59)) [ inl is ↦ rw is refl | inr other ↦ rw other refl ]
number_field z (Integer y ∷ ts) = refl

abbrev ReadsAt : Bool → List NumberSlot → List CsiParam → List ℕ → Type 0
ReadsAt at ss body vs = option_and_then (slot_values ss) (fields_at at body) ≡ Some vs

-- a byte other than `;` is read by no slot
other_byte : (at : Bool) (ss : List NumberSlot) (b : ℕ) (body : List CsiParam) (vs : List ℕ) → (b == 59) ≡ false → ReadsAt at ss (P b ∷ body) vs → ⊥
other_byte false [] b body vs other e = cc
other_byte false (s ∷ ss) b body vs other e = grind arith
other_byte true ss b body vs other e = grind arith

byte_read : (at : Bool) (i : ℕ) (ss : List NumberSlot) (b : ℕ) (tail : Bool) (shape : List actions.Slot) (ts : List CsiParam) (vs : List ℕ) → (b == 59) ≡ false → byte_apart i ss b tail shape ≡ true
    → has_shape tail shape ts ≡ true → (without_intermediate (P b ∷ ts)).0 ≡ i → ReadsAt at ss (without_intermediate (P b ∷ ts)).1 vs → ⊥
byte_read at i ss b tail shape (u ∷ us) vs other h shaped ends e = other_byte at ss b _ vs other e
byte_read at i ss b tail (s ∷ shape) [] vs other h shaped ends e = cc
byte_read at i ss b tail [] [] vs other h shaped ends e = grind (arith, other_byte at ss b [] vs, slots-apart [] ss [] [] vs)

-- a field at the front, and what stands behind it
field_read : (s : NumberSlot) (ss : List NumberSlot) (x : Option ℤ) (o : Option (List (Option ℤ))) (vs : List ℕ) → option_and_then (slot_values (s ∷ ss)) (with_field x o) ≡ Some vs
    → (is_some (slot_value s x) ≡ true) × ((us : List ℕ) × (option_and_then (slot_values ss) o ≡ Some us))
field_read s ss x None vs e = cc
field_read s ss x (Some fs) vs e = (let a = taken s ss x fs vs e in (rw a.value refl, (a.others, a.later)))

field_front : (at : Bool) (i : ℕ) (s : NumberSlot) (ss : List NumberSlot) (x : Option ℤ) (t : CsiParam) (ts : List CsiParam) (vs : List ℕ) → without_intermediate (t ∷ []) ≡ (0, t ∷ [])
    → ((w : List CsiParam) → fields_of (t ∷ w) ≡ with_field x (fields_at at w)) → (without_intermediate (t ∷ ts)).0 ≡ i → ReadsAt false (s ∷ ss) (without_intermediate (t ∷ ts)).1 vs
    → ((us : List ℕ) → is_some (slot_value s x) ≡ true → (without_intermediate ts).0 ≡ i → ReadsAt at ss (without_intermediate ts).1 us → ⊥) → ⊥
field_front at i s ss x t ts vs alone is ends e later =
    let cut = stays t ts alone in
    let begun : option_and_then (slot_values (s ∷ ss)) (fields_of (t ∷ (without_intermediate ts).1)) ≡ Some vs = rw cut at e in
    let r = field_read s ss x (fields_at at (without_intermediate ts).1) vs (rw (is (without_intermediate ts).1) at begun) in later r.1.0 r.0 (rw cut at ends) r.1.1

-- a number that counts is none that the slot hasn't
counts : (s : NumberSlot) (n : ℕ) (z : ℤ) (ok : Bool) → (not (is_within s n) || ok) ≡ true → is_number n z ≡ true → is_some (slot_value s (Some z)) ≡ true → ok ≡ true
counts s n (pos m) ok h same some = grind arith
counts s n (negsuc m) ok h same some = cc

-- a byte at the front: the intermediate byte, or a `;`, behind which these slots read on
byte_front : (at : Bool) (i : ℕ) (ss : List NumberSlot) (tail : Bool) (shape : List actions.Slot) (b : ℕ) (ts : List CsiParam) (vs : List ℕ) → walk at i ss tail (Byte b ∷ shape) ≡ true
    → has_shape tail shape ts ≡ true → (without_intermediate (P b ∷ ts)).0 ≡ i → ReadsAt at ss (without_intermediate (P b ∷ ts)).1 vs
    → ((rest : List NumberSlot) (us : List ℕ) → walk false i rest tail shape ≡ true → (without_intermediate ts).0 ≡ i → ReadsAt false rest (without_intermediate ts).1 us → ⊥) → ⊥
byte_front true i ss tail shape b ts vs h shaped ends e later = grind (arith, byte_read true i ss b tail shape ts vs, later ss vs)
byte_front false i [] tail shape b ts vs h shaped ends e later = grind (arith, byte_read false i [] b tail shape ts vs)
byte_front false i (s ∷ ss) tail shape b ts vs h shaped ends e later = elim (cases_Bool (b == 59)) [
  | inl is ↦
      let same : b ≡ 59 = eqb-true b 59 is in
      let here : (not (is_some s.missing) || walk false i ss tail shape) ≡ true = rw is at h in
      field_front false i s ss None (P 59) ts vs refl (λ w. refl) (subst (λ x. (without_intermediate (P x ∷ ts)).0 ≡ i) same ends)
      (subst (λ x. ReadsAt false (s ∷ ss) (without_intermediate (P x ∷ ts)).1 vs) same e) (λ us some. later ss us (grind arith))
  | inr other ↦ byte_read false i (s ∷ ss) b tail shape ts vs other (rw other at h) shaped ends e
]

walk_apart : (at : Bool) (i : ℕ) (ss : List NumberSlot) (tail : Bool) (shape : List actions.Slot) (ts : List CsiParam) (vs : List ℕ) → walk at i ss tail shape ≡ true → has_shape tail shape ts ≡ true
    → (without_intermediate ts).0 ≡ i → ReadsAt at ss (without_intermediate ts).1 vs → ⊥
walk_apart at i ss tail [] ts vs h shaped ends e = grind (arith, slots-apart [] ss [] [] vs)
walk_apart at i ss tail (s ∷ shape) [] vs h shaped ends e = cc
walk_apart false i (s ∷ ss) tail (Number n ∷ shape) (Integer z ∷ ts) vs h shaped ends e =
    let p = and_parts (has_shape tail shape ts) (is_number n z) shaped in
    field_front true i s ss (Some z) (Integer z) ts vs refl (number_field z) ends e (λ us some closes read. walk_apart true i ss tail shape ts us (counts s n z (walk true i ss tail shape) h p.1 some) p.0 closes read)
walk_apart false i (s ∷ ss) tail (One k ∷ shape) (Integer z ∷ ts) vs h shaped ends e =
    let p = and_parts (has_shape tail shape ts) true shaped in field_front true i s ss (Some z) (Integer z) ts vs refl (number_field z) ends e (λ us some closes read. walk_apart true i ss tail shape ts us h p.0 closes read)
walk_apart at i ss tail (Byte b ∷ shape) (P c ∷ ts) vs h shaped ends e =
    let p = and_parts (has_shape tail shape ts) (c == b) shaped in
    let same : c ≡ b = eqb-true c b p.1 in
    byte_front at i ss tail shape b ts vs h p.0 (subst (λ x. (without_intermediate (P x ∷ ts)).0 ≡ i) same ends) (subst (λ x. ReadsAt at ss (without_intermediate (P x ∷ ts)).1 vs) same e)
    (λ rest us apart ending_is read. walk_apart false i rest tail shape ts us apart p.0 ending_is read)
walk_apart false i [] tail (Number n ∷ shape) (Integer z ∷ ts) vs h shaped ends e = grind (arith, stays (Integer z) ts refl, number_field z (without_intermediate ts).1)
walk_apart false i [] tail (One k ∷ shape) (Integer z ∷ ts) vs h shaped ends e = grind (arith, stays (Integer z) ts refl, number_field z (without_intermediate ts).1)
walk_apart at i ss tail (s ∷ shape) (t ∷ ts) vs h shaped ends e = (let no_it = (and_parts (has_shape tail shape ts) (actions.fits s t) shaped).1 in cc)

-- the same with the marker
unmarked : (m : ℕ) (b : Bool) → (not (m == 0) || b) ≡ true → 0 ≡ m → b ≡ true
unmarked m b h begins = grind arith

marked : (m b c : ℕ) (ts : List CsiParam) (x y : Bool) → (if is_marker b then not (m == b) || x else not (m == 0) || y) ≡ true → (c == b) ≡ true → (without_marker (P c ∷ ts)).0 ≡ m
    → ((is_marker c ≡ true) × (x ≡ true)) ⊎ ((is_marker c ≡ false) × (y ≡ true))
marked m b c ts x y h same begins = grind arith

marked_read : (m i : ℕ) (ss : List NumberSlot) (tail : Bool) (shape : List actions.Slot) (list : List CsiParam) (vs : List ℕ) → marked_apart m i ss tail shape ≡ true → has_shape tail shape list ≡ true
    → (without_marker list).0 ≡ m → (without_intermediate (without_marker list).1).0 ≡ i → ReadsAt false ss (without_intermediate (without_marker list).1).1 vs → ⊥
marked_read m i ss true [] list vs h shaped begins ends e = cc
marked_read m i ss false [] (t ∷ ts) vs h shaped begins ends e = cc
marked_read m i ss false [] [] vs h shaped begins ends e = walk_apart false i ss false [] [] vs (unmarked m (walk false i ss false []) h begins) refl ends e
marked_read m i ss tail (s ∷ shape) [] vs h shaped begins ends e = cc
marked_read m i ss tail (Number n ∷ shape) (Integer z ∷ ts) vs h shaped begins ends e =
    walk_apart false i ss tail (Number n ∷ shape) (Integer z ∷ ts) vs (unmarked m (walk false i ss tail (Number n ∷ shape)) h begins) shaped ends e
marked_read m i ss tail (One k ∷ shape) (Integer z ∷ ts) vs h shaped begins ends e =
    walk_apart false i ss tail (One k ∷ shape) (Integer z ∷ ts) vs (unmarked m (walk false i ss tail (One k ∷ shape)) h begins) shaped ends e
marked_read m i ss tail (Byte b ∷ shape) (P c ∷ ts) vs h shaped begins ends e =
    let p = and_parts (has_shape tail shape ts) (c == b) shaped in
    elim (marked m b c ts (walk false i ss tail shape) (walk false i ss tail (Byte b ∷ shape)) h p.1 begins) [
      | inl is ↦ walk_apart false i ss tail shape ts vs is.1 p.0 (rw is.0 at ends) (rw is.0 at e)
      | inr other ↦ walk_apart false i ss tail (Byte b ∷ shape) (P c ∷ ts) vs other.1 shaped (rw other.0 at ends) (rw other.0 at e)
    ]
marked_read m i ss tail (s ∷ shape) (t ∷ ts) vs h shaped begins ends e = (let no_it = (and_parts (has_shape tail shape ts) (actions.fits s t) shaped).1 in cc)

-- what a row reads is read by no row of actions that it is apart from
tokens_unread : (q : Row) (rows : List (actions.Row Action)) (list : List CsiParam) (final : ℕ) (vs : List ℕ) → list_all (row_apart q) rows ≡ true
    → HasRead q list final vs → actions.given rows list ≡ None
tokens_unread q [] list final vs h e = refl
tokens_unread q (r ∷ rows) list final vs h e =
    let p = and_parts (row_apart q r) (list_all (row_apart q) rows) h in
    let reads : ReadsAt false q.slots (without_intermediate (without_marker list).1).1 vs = rw e.are e.values in
    grind (arith, tokens_unread q rows list final vs p.1 e, marked_read q.form.marker q.form.intermediate q.slots r.tail r.shape list vs p.0)

-- ---- the test of a row of actions over fields

-- the field can't be missing
abbrev wants : fields.Slot → Bool
wants (This n) = true
wants There = true
wants (Must k) = true
wants _ = false

-- no field is a value of one and fits the other
abbrev field_differs : NumberSlot → fields.Slot → Bool
field_differs s (This n) = not (is_within s n)
field_differs s Empty = must s
field_differs s End = must s
field_differs s _ = false

abbrev fields_apart : List NumberSlot → List fields.Slot → Bool
fields_apart ss [] = false
fields_apart [] (t ∷ row) = wants t || fields_apart [] row
fields_apart (s ∷ ss) (t ∷ row) = field_differs s t || (not s.optional && fields_apart ss row)

abbrev apart_from_fields : List NumberSlot → List (FieldRow Action) → Bool
apart_from_fields ss rows = list_all (λ (r : FieldRow Action). fields_apart ss r.slots) rows

-- ---- what it says

field_apart : (s : NumberSlot) (t : fields.Slot) (fs : List (Option ℤ)) (v : ℕ) → field_differs s t ≡ true → slot_value s (first fs) ≡ Some v → fits t fs ≡ true → ⊥
field_apart s t fs v h e shaped = grind arith

fields_read : (ss : List NumberSlot) (row : List fields.Slot) (fs : List (Option ℤ)) (vs : List ℕ) → fields_apart ss row ≡ true → slot_values ss fs ≡ Some vs → have_shape row fs ≡ true → ⊥
fields_read ss [] fs vs h e shaped = cc
fields_read [] (t ∷ row) [] vs h e shaped = grind (arith, fields_read [] row [] [])
fields_read [] (t ∷ row) (x ∷ fs) vs h e shaped = cc
fields_read (s ∷ ss) (t ∷ row) [] vs h e shaped = grind (arith, fields_read ss row [])
fields_read (s ∷ ss) (t ∷ row) (x ∷ fs) vs h e shaped =
    let a = taken s ss x fs vs e in grind (arith, field_apart s t (x ∷ fs) a.one, fields_read ss row fs a.others, a.value, a.later)

fields_unread : (ss : List NumberSlot) (rows : List (FieldRow Action)) (fs : List (Option ℤ)) (vs : List ℕ) → apart_from_fields ss rows ≡ true → slot_values ss fs ≡ Some vs
    → fields.given rows fs ≡ None
fields_unread ss [] fs vs h e = refl
fields_unread ss (r ∷ rows) fs vs h e =
    let p = and_parts (fields_apart ss r.slots) (apart_from_fields ss rows) h in grind (arith, fields_unread ss rows fs vs p.1 e, fields_read ss r.slots fs vs p.0 e)

-- ---- the bytes around fields

-- a list of fields has no marker and no intermediate byte
fields_begin : (list : List CsiParam) (fs : List (Option ℤ)) → fields_of list ≡ Some fs → without_marker list ≡ (0, list)
fields_begin list fs f = grind arith

fields_end : (list : List CsiParam) (fs : List (Option ℤ)) → fields_of list ≡ Some fs → without_intermediate list ≡ (0, list)
fields_end [] fs f = refl
fields_end (P b ∷ ts) fs f = grind (arith, fields_end ts)
fields_end (Integer z ∷ []) fs f = refl
fields_end (Integer z ∷ P b ∷ ts) fs f = grind (arith, fields_end ts)
fields_end (Integer z ∷ Integer y ∷ ts) fs f = grind (arith, fields_end (Integer y ∷ ts))

-- a list behind a byte begins with it
byte_ahead : (b : ℕ) (list rest : List CsiParam) → is_marker b ≡ true → behind_byte (Some b) list ≡ Some rest → (without_marker list).0 ≡ b
byte_ahead b list rest m e = grind arith

-- a list ahead of a byte ends with it
byte_behind : (b : ℕ) (list front : List CsiParam) → ahead_of_byte (Some b) list ≡ Some front → list ≡ front ++ P b ∷ []
byte_behind b [] front e = cc
byte_behind b (t ∷ []) front e = grind arith
byte_behind b (t ∷ u ∷ ts) front e = grind (arith, byte_behind b (u ∷ ts))

star_last : (front : List CsiParam) → (without_intermediate (without_marker (front ++ P 42 ∷ [])).1).0 ≡ 42
star_last [] = refl
star_last (t ∷ front) = grind (arith, cut_end front (P 42), cut_end (t ∷ front) (P 42))

-- ---- the table

abbrev window_apart : Row → Bool
window_apart q = not (q.form.marker == 0) || (not (q.form.intermediate == 0) || apart_from_fields q.slots windows)

abbrev apart_from_table : Row → Bool
apart_from_table q =
    (not (q.form.control == 116) || window_apart q) && ((not (q.form.control == 121) || not (q.form.intermediate == 42)) && (not (q.form.control == 83) || not (q.form.marker == 63)))

abbrev row_unread : Row → Bool
row_unread q = list_all (row_apart q) (rows_before all_actions.table q.form.control) && apart_from_table q

is_unread : list_all row_unread table ≡ true
unfolding rows_of table
is_unread = refl

nothing_then : {X Y : Type 0} (f : X → Option Y) (o : Option X) → ((x : X) → o ≡ Some x → f x ≡ None) → option_and_then f o ≡ None
nothing_then f None h = refl
nothing_then f (Some x) h = h x refl

windows_unread : (q : Row) (list : List CsiParam) (final : ℕ) (vs : List ℕ) → HasRead q list final vs → window_apart q ≡ true → read_over (over no_byte no_byte "t" windows) list ≡ None
windows_unread q list final vs r h = nothing_then (fields.given windows) (fields_of list) go
  where
    go : (fs : List (Option ℤ)) → fields_of list ≡ Some fs → fields.given windows fs ≡ None
    go fs here =
        let begins = fields_begin list fs here in
        let closes = fields_end list fs here in
        let same : r.fields ≡ fs = same_Some _ _ (sym r.are ∙ grind (arith, begins, closes, here)) in
        fields_unread q.slots windows fs vs (grind arith) (subst (λ g. slot_values q.slots g ≡ Some vs) same r.values)

areas_unread : (q : Row) (list : List CsiParam) (final : ℕ) (vs : List ℕ) → HasRead q list final vs → not (q.form.intermediate == 42) ≡ true → read_over (over no_byte (byte "*") "y" areas) list ≡ None
areas_unread q list final vs r h = rw (is_none (ahead_of_byte (Some 42) list) go) refl
  where
    go : (front : List CsiParam) → ahead_of_byte (Some 42) list ≡ Some front → ⊥
    go front e = (let star : (without_intermediate (without_marker list).1).0 ≡ 42 = rw (byte_behind 42 list front e) (star_last front) in grind arith)

graphics_unread : (q : Row) (list : List CsiParam) (final : ℕ) (vs : List ℕ) → HasRead q list final vs → not (q.form.marker == 63) ≡ true
    → read_over (over (byte "?") no_byte "S" graphics_rows) list ≡ None
graphics_unread q list final vs r h = rw (is_none (behind_byte (Some 63) list) go) refl
  where
    go : (rest : List CsiParam) → behind_byte (Some 63) list ≡ Some rest → ⊥
    go rest e = (let begins = byte_ahead 63 list rest refl e in grind arith)

three : (final : ℕ) (w a g : Option Action) → (final ≡ 116 → w ≡ None) → (final ≡ 121 → a ≡ None) → (final ≡ 83 → g ≡ None)
    → option_or (if final == 116 then w else None) (option_or (if final == 121 then a else None) (option_or (if final == 83 then g else None) None)) ≡ None
three final w a g e f h = grind arith

either : (final control n : ℕ) (b : Bool) → final ≡ control → final ≡ n → (not (control == n) || b) ≡ true → b ≡ true
either final control n b same is h = grind arith

fields_none : (q : Row) (list : List CsiParam) (final : ℕ) (vs : List ℕ) → apart_from_table q ≡ true → HasRead q list final vs → read_fields field_table list final ≡ None
fields_none q list final vs h r =
    let p = and_parts (not (q.form.control == 116) || window_apart q) _ h in
    let p2 = and_parts (not (q.form.control == 121) || not (q.form.intermediate == 42)) (not (q.form.control == 83) || not (q.form.marker == 63)) p.1 in
    three final (read_over (over no_byte no_byte "t" windows) list) (read_over (over no_byte (byte "*") "y" areas) list) (read_over (over (byte "?") no_byte "S" graphics_rows) list)
    (λ is. windows_unread q list final vs r (either final q.form.control 116 (window_apart q) r.control is p.0))
    (λ is. areas_unread q list final vs r (either final q.form.control 121 (not (q.form.intermediate == 42)) r.control is p2.0))
    (λ is. graphics_unread q list final vs r (either final q.form.control 83 (not (q.form.marker == 63)) r.control is p2.1))

pub no_action : (i : ℕ) (q : Row) (list : List CsiParam) (final : ℕ) (vs : List ℕ) → slice_get table i ≡ Some q → read_row q list final ≡ Some vs → whole list final ≡ None
no_action i q list final vs at e =
    let p = and_parts (list_all (row_apart q) (rows_before all_actions.table q.form.control)) (apart_from_table q) (row_at row_unread table i q is_unread at) in
    let r = has_read q list final vs e in
    let tokens : read_by all_actions.table list final ≡ None =
    ap (read_by all_actions.table list) r.control ∙ tokens_unread q (rows_before all_actions.table q.form.control) list final vs p.0 r
    in
    whole-table list final ∙ (ap (λ o. option_or o (read_fields field_table list final)) tokens ∙ fields_none q list final vs p.1 r)
