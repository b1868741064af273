-- No two rows over fields read one list, and none reads what a row of tokens does: tests that are computed over all pairs.
use Rattle.csicodec_actions.specs.FieldRows.{Slot, This, Empty, End, behind, ahead_of_byte, behind_byte, fits, have_shape, gives, given, Over, over, no_byte, byte, fields_over, read_over}
use Rattle.csicodec_actions.specs.{Rows.Byte, Table.XtSmGraphics.graphics_rows, Table.Window.areas, Table.Window.windows, Table.FieldRowsDecide}
use Rattle.csicodec_actions.proofs.AllRows.{AreApart, all_apart, apart-given, apart_from, are_apart as token_rows_apart, has, picked, whole-table}
use Rattle.csicodec_actions.proofs.Common.{arith, ◌≡◌, ℕ, zero, suc, List, [], ◌∷◌, Option, None, Some, refl, sym, ap, ◌∙◌, pos, subst, eq-eqb, eqb-true, same_Some, slice_get_read, option_and_then_some, ℤ, ◌==◌, ◌&&◌, ◌||◌, Bool, true, false, not, slice_get, if◌then◌else◌, option_and_then, AllByRecursion, option_or, CsiParam, P, fields_of, is_number-pos, FieldRow, read_fields, Action, Row, open_row, rows_before, read_by, table, field_table, whole}
use Rattle.csicodec_actions.proofs.{AllFieldRows.AllFieldRows, AllFieldRows.over-in, Found.guarded}

-- ---- slots

-- the slot takes no number
abbrev takes_none : Slot → Bool
takes_none Empty = true
takes_none End = true
takes_none _ = false

-- no number fits both slots
abbrev no_number : Slot → Slot → Bool
no_number (This n) t = not (fits t (Some (pos n) ∷ []))
no_number Empty t = true
no_number End t = true
no_number _ t = takes_none t

-- nothing fits both: no missing field, no empty one and no number
abbrev differ : Slot → Slot → Bool
differ s t = not (fits s [] && fits t []) && (not (fits s (None ∷ []) && fits t (None ∷ [])) && no_number s t)

abbrev are_apart : List Slot → List Slot → Bool
are_apart [] ts = false
are_apart (s ∷ ss) [] = false
are_apart (s ∷ ss) (t ∷ ts) = differ s t || are_apart ss ts

-- what a slot takes is told by the field at the front
fits-front : (s : Slot) (f : Option ℤ) (fs : List (Option ℤ)) → fits s (f ∷ fs) ≡ fits s (f ∷ [])
fits-front (This n) f fs = refl
fits-front _ f fs = refl

none-taken : (t : Slot) (z : ℤ) → takes_none t ≡ true → fits t (Some z ∷ []) ≡ true → ⊥
none-taken (This n) z d f = cc
none-taken _ z d f = cc

not-fits : (b : Bool) → not b ≡ true → b ≡ true → ⊥
not-fits true d e = cc
not-fits false d e = cc

number-slots : (s t : Slot) (z : ℤ) → no_number s t ≡ true → fits s (Some z ∷ []) ≡ true → fits t (Some z ∷ []) ≡ true → ⊥
number-slots (This n) t z d e f = let same : z ≡ pos n = is_number-pos n z e in not-fits (fits t (Some (pos n) ∷ [])) d (rw same at f)
number-slots Empty t z d e f = cc
number-slots End t z d e f = cc
number-slots _ t z d e f = none-taken t z d f

differ-slots : (s t : Slot) (fs : List (Option ℤ)) → differ s t ≡ true → fits s fs ≡ true → fits t fs ≡ true → ⊥
differ-slots s t [] d e f = grind arith
differ-slots s t (None ∷ fs) d e f = grind (arith, fits-front s None fs, fits-front t None fs)
differ-slots s t (Some z ∷ fs) d e f =
    grind (arith, fits-front s (Some z) fs, fits-front t (Some z) fs, number-slots s t z)

apart-shapes : (ss ts : List Slot) (fs : List (Option ℤ)) → are_apart ss ts ≡ true → have_shape ss fs ≡ true → have_shape ts fs ≡ true → ⊥
apart-shapes [] ts fs d e f = cc
apart-shapes (s ∷ ss) [] fs d e f = cc
apart-shapes (s ∷ ss) (t ∷ ts) fs d e f =
    grind (arith, differ-slots s t fs, apart-shapes ss ts (behind fs))

-- ---- the rows of one entry

abbrev rows_apart : FieldRow Action → FieldRow Action → Bool
rows_apart r s = are_apart r.slots s.slots

rows-are-apart : (fs : List (Option ℤ)) → AreApart rows_apart (λ (r : FieldRow Action). have_shape r.slots fs) (λ (r : FieldRow Action). gives r fs)
rows-are-apart fs = record { gave = λ r a e. (guarded (have_shape r.slots fs) _ a e).0; one = λ r s d e f. apart-shapes r.slots s.slots fs d e f }

-- ---- the entries

-- they have different finals
abbrev finals_apart : Over Action → Over Action → Bool
finals_apart o p = not (o.final == p.final)

abbrev given_over : List CsiParam → ℕ → Over Action → Option Action
given_over list final o = if final == o.final then read_over o list else None

finals-are-apart : (list : List CsiParam) (final : ℕ) → AreApart finals_apart (λ (o : Over Action). final == o.final) (given_over list final)
finals-are-apart list final = record {
  gave = λ o a e. (guarded (final == o.final) _ a e).0;
  one = λ o p d e f. (let same : o.final ≡ p.final = sym (eqb-true final o.final e) ∙ eqb-true final p.final f in not-fits (o.final == p.final) d (eq-eqb o.final p.final same));
}

-- the row of all lists that begin with the byte ahead, or of all
abbrev begun : Option ℕ → Action → Row Action
begun None a = open_row [] (λ rest. a)
begun (Some b) a = open_row (Byte b ∷ []) (λ rest. a)

-- no row of tokens before its final reads what begins with its byte
record AreNotTokens (o : Over Action) : Type 0 where
  each : (a : Action) → apart_from token_rows_apart (begun o.ahead a) (rows_before table o.final) ≡ true

-- neither do its rows read one list
record IsApart (o : Over Action) : Type 0 where
  rows : all_apart rows_apart o.rows ≡ true
  tokens : AreNotTokens o

are-apart : AllByRecursion IsApart field_table
are-apart =
    let window : IsApart (over no_byte no_byte "t" windows) = record { rows = refl; tokens = record { each = λ a. refl } } in
    let area : IsApart (over no_byte (byte "*") "y" areas) = record { rows = refl; tokens = record { each = λ a. refl } } in
    let graphics : IsApart (over (byte "?") no_byte "S" graphics_rows) = record { rows = refl; tokens = record { each = λ a. refl } } in
    (window, (area, (graphics, tt)))

all-at : {A : Type 0} (Q : A → Type 0) (xs : List A) (i : ℕ) (x : A) → AllByRecursion Q xs → slice_get xs i ≡ Some x → Q x
all-at Q (y ∷ ys) zero x all at = subst Q (same_Some y x at) all.0
all-at Q (y ∷ ys) (suc i) x all at = all-at Q ys i x all.1 at
all-at Q _ _ x all at = cc

-- what is read over fields begins with the byte ahead
byte-begins : (b : Option ℕ) (a : Action) (list rest : List CsiParam) → behind_byte b list ≡ Some rest → has (begun b a) list ≡ true
byte-begins None a list rest e = refl
byte-begins (Some b) a (P c ∷ ts) rest e = rw (guarded (c == b) _ rest e).0 refl
byte-begins (Some b) a _ rest e = cc

over-begins : (o : Over Action) (a : Action) (list : List CsiParam) (fs : List (Option ℤ)) → fields_over o list ≡ Some fs → has (begun o.ahead a) list ≡ true
over-begins o a list fs e =
    option_and_then_some fields_of (option_and_then (ahead_of_byte o.end) (behind_byte o.ahead list)) fs e
    (λ front cut are. option_and_then_some (ahead_of_byte o.end) (behind_byte o.ahead list) front cut (λ rest begins ended. byte-begins o.ahead a list rest begins))

-- what is read by fields is the action
fields-decide : (o : Over Action) (list : List CsiParam) (fs : List (Option ℤ)) (a : Action) → AreNotTokens o → fields_over o list ≡ Some fs → read_fields field_table list o.final ≡ Some a
    → whole list o.final ≡ Some a
fields-decide o list fs a apart are e = whole-table list o.final ∙ go (read_by table list o.final) refl
  where
    go : (r : Option Action) → read_by table list o.final ≡ r → option_or r (read_fields field_table list o.final) ≡ Some a
    go None none = e
    go (Some x) row = absurd (apart-given (begun o.ahead x) (rows_before table o.final) list x (apart.each x) (over-begins o x list fs are) row)

pub field_rows_lem : (list : List CsiParam) (final : ℕ) → FieldRowsDecide list final
field_rows_lem list final o r fs a listed ends row are e =
    let at : slice_get field_table listed.0 ≡ Some o = slice_get_read field_table _ listed.0 o refl listed.1 (sym listed.2) in
    let apart = all-at IsApart field_table listed.0 o are-apart at in
    let here : given o.rows fs ≡ Some a =
    picked rows_apart _ _ (rows-are-apart fs) o.rows row.0 r a apart.rows (slice_get_read o.rows _ row.0 r refl row.1 (sym row.2)) e
    in
    let over : read_over o list ≡ Some a = ap (option_and_then (given o.rows)) are ∙ here in
    let gave : given_over list o.final o ≡ Some a = rw (eq-eqb o.final o.final refl) over in
    rw (← ends)
    (fields-decide o list fs a apart.tokens are (picked finals_apart _ _ (finals-are-apart list o.final) field_table listed.0 o a refl at gave))

-- of each row of these entries
rows-tokens : (o : Over Action) (rows : List (FieldRow Action)) → AreNotTokens o → AllByRecursion (λ (r : FieldRow Action). AreNotTokens o) rows
rows-tokens o [] apart = tt
rows-tokens o (r ∷ rows) apart = (apart, rows-tokens o rows apart)

entries-tokens : (entries : List (Over Action)) → AllByRecursion IsApart entries → AllFieldRows (λ o row. AreNotTokens o) entries
entries-tokens [] apart = tt
entries-tokens (o ∷ others) apart = (rows-tokens o o.rows apart.0.tokens, entries-tokens others apart.1)

-- what the entries read is the action
pub field-whole : (list : List CsiParam) (final : ℕ) (a : Action) → read_fields field_table list final ≡ Some a → whole list final ≡ Some a
field-whole list final a e =
    let o = over-in (λ o row. AreNotTokens o) field_table list final a (entries-tokens field_table are-apart) e in
    rw o.here (fields-decide o.entry list o.fields a o.found.holds o.are (rw (← o.here) e))
