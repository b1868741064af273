-- The group of what the rows read, which are lists that are read whole; and by which rules a list is read.
use Rattle.std.proofs.Common.{◌≡◌, ℕ, List, [], ◌∷◌, None, Some, sym, ◌∙◌, inl, inr, eqb-true, rules, Option, refl, ℤ, ◌==◌, Bool, false, true, slice_get, ◌||◌, if◌then◌else◌, option_and_then}
use Rattle.std.proofs.{lemmas.Bool.and_parts, lemmas.Option.option_and_then_some}
use Rattle.std.specs.Option.{option_or}
use Rattle.csicodec_tokens.specs.{Fields.fields_of, declared.param.CsiParam.TheVariants.Integer}
use Rattle.csicodec_names.specs.Numbered.{is_number}
use Rattle.csicodec_actions.specs.FieldRows.{read_fields, over, no_byte, byte, ahead_of_byte, behind_byte, fields_over, given, read_over}
use Rattle.csicodec_actions.specs.{Rows.Slot, Rows.Byte, Rows.Number, Rows.One, Rows.has_shape, Rows.read_by, Rows.Before, Table.table, Table.field_table}
use Rattle.csicodec_actions.specs.{Table.whole, Table.all_subjects, Table.Cursor.cursor_rows, Table.Cursor.as_cursor, Table.Device.device_rows}
use Rattle.csicodec_actions.specs.{Table.Device.as_device, Table.Edit.edit_rows, Table.Edit.as_edit, Table.Keyboard.keyboard_rows, Table.Keyboard.as_keyboard}
use Rattle.csicodec_actions.specs.{Table.Mode.mode_rows, Table.Mode.as_mode, Table.Mouse.mouse_rows, Table.Mouse.as_mouse, Table.Path.path_rows}
use Rattle.csicodec_actions.specs.{Table.Path.as_path, Table.Window.areas, Table.Window.windows, Table.Window.window_fields, Table.Window.as_window}
use Rattle.csicodec_actions.specs.{Table.XtSmGraphics.graphics_fields, Table.XtSmGraphics.graphics_rows, Table.XtSmGraphics.as_graphics}
use Rattle.csicodec_actions.proofs.{AllFieldRows.over-in, AllFieldRows.option_or-assoc, AllRows.AllRows, AllRows.whole-table, Found.guarded, Found.one-of}
use Rattle.csicodec_parser.specs.{Groups.group_by, Groups.is_byte, Groups.dec_group, Groups.plain_group, declared.group.Group.Group}
use Rattle.csicodec_streams.specs.WhichRules.{Rules, WhichRules, group_by_rules, last_token, read_by_rules, rules_of}
use Rattle.csicodec_streams.proofs.Common.{cases_Bool, CsiParam, P, Action, row-in, group}
use Rattle.csicodec_streams.specs.WhichRules as rule

-- ---- rows over tokens

-- this holds of every list of the shape
abbrev OfShape : Bool → List Slot → (List CsiParam → Type 0) → Type 0
OfShape true [] K = (rest : List CsiParam) → K rest
OfShape false [] K = K []
OfShape tail (Byte b ∷ shape) K = OfShape tail shape (λ ts. K (P b ∷ ts))
OfShape tail (Number n ∷ shape) K = (z : ℤ) → OfShape tail shape (λ ts. K (Integer z ∷ ts))
OfShape tail (One k ∷ shape) K = (z : ℤ) → OfShape tail shape (λ ts. K (Integer z ∷ ts))

of-shape : (tail : Bool) (shape : List Slot) (K : List CsiParam → Type 0) (list : List CsiParam) → OfShape tail shape K → has_shape tail shape list ≡ true → K list
of-shape true [] K list all e = all list
of-shape false [] K [] all e = all
of-shape false [] K (t ∷ ts) all e = cc
of-shape tail (s ∷ shape) K [] all e = cc
of-shape tail (Byte b ∷ shape) K (P c ∷ ts) all e =
    let both = and_parts (has_shape tail shape ts) (c == b) e in
    let same : c ≡ b = eqb-true c b both.1 in
    rw same (of-shape tail shape (λ ts. K (P b ∷ ts)) ts all both.0)
of-shape tail (Number n ∷ shape) K (Integer z ∷ ts) all e =
    let both = and_parts (has_shape tail shape ts) (is_number n z) e in of-shape tail shape (λ ts. K (Integer z ∷ ts)) ts (all z) both.0
of-shape tail (One k ∷ shape) K (Integer z ∷ ts) all e =
    let both = and_parts (has_shape tail shape ts) true e in of-shape tail shape (λ ts. K (Integer z ∷ ts)) ts (all z) both.0
of-shape tail (_ ∷ shape) K (_ ∷ ts) all e = let no : false ≡ true = (and_parts (has_shape tail shape ts) false e).1 in absurd cc

-- so it holds of a list that one of the rows reads, if it does of every list of each row's shape
shaped : (K : ℕ → List CsiParam → Type 0) (rows : List (Before Action)) (list : List CsiParam) (final : ℕ)
    → AllRows (λ final row. OfShape row.tail row.shape (K final)) rows → (a : Action) → read_by rows list final ≡ Some a → K final list
shaped K rows list final all a e =
    let r = row-in (λ final row. OfShape row.tail row.shape (K final)) rows list final a all e in
    of-shape r.row.tail r.row.shape (K final) list r.holds (guarded (has_shape r.row.tail r.row.shape list) _ a r.gave).0

abbrev IsWhole : ℕ → List CsiParam → Type 0
IsWhole final list = group list final ≡ Group.Whole

rows-whole : AllRows (λ final row. OfShape row.tail row.shape (IsWhole final)) table
rows-whole = search rules depth 60

-- ---- over fields

-- whatever stands first, lists before this final are read whole
pub record IsWholeFinal (final : ℕ) : Type 0 where
  pub other : (final == 109) ≡ false
  pub dec : dec_group final ≡ Group.Whole
  pub plain : plain_group final ≡ Group.Whole

pub any-whole : (final : ℕ) (first : Option CsiParam) → IsWholeFinal final → group_by first final ≡ Group.Whole
any-whole final first is = elim (cases_Bool (is_byte 63 first)) [ inl here ↦ rw (is.other, here) is.dec | inr none ↦ rw (is.other, none) is.plain ]

fields-whole : (list : List CsiParam) (final : ℕ) (a : Action) → read_fields field_table list final ≡ Some a → group list final ≡ Group.Whole
fields-whole list final a e = let o =
    over-in (λ o row. IsWholeFinal o.final) field_table list final a (search rules depth 60) e in rw
    o.here (any-whole o.entry.final (slice_get list 0) (o.found.holds))

-- ---- all rows

-- what a row reads is no list of pieces
pub whole-group : (list : List CsiParam) (final : ℕ) (a : Action) → whole list final ≡ Some a → group list final ≡ Group.Whole
whole-group list final a e = elim (one-of (read_by table list final) (read_fields field_table list final) a (sym (whole-table list final) ∙ e)) [
  | inl row ↦ shaped IsWhole table list final rows-whole a row
  | inr fields ↦ fields-whole list final a fields
]

-- ---- the rules of a list, by its final and its first and last token, choose its group and the rows that read it

-- ---- the group

at-m : (less greater : Bool) → (if greater || less then Group.Whole else Group.Styles) ≡ group_by_rules (if less then rule.MouseReport else if greater then rule.KeyModes else rule.Plain) 109
at-m true true = refl
at-m true false = refl
at-m false true = refl
at-m false false = refl

at-mode : (mark : Bool) (final : ℕ) → (final == 109) ≡ false →
    (if mark then dec_group final else plain_group final) ≡ group_by_rules (if mark then rule.PrivateModes else rule.Plain) final
at-mode true final other = refl
at-mode false final other = rw other refl

all-whole : (r : Rules) (final : ℕ) → IsWholeFinal final → group_by_rules r final ≡ Group.Whole
all-whole rule.PrivateModes final is = is.dec
all-whole rule.Plain final is = rw is.other is.plain
all-whole _ final is = refl

-- a final, or none of them
at-final : (n final : ℕ) (Q : ℕ → Type 0) → Q n → ((final == n) ≡ false → Q final) → Q final
at-final n final Q here other = elim (cases_Bool (final == n)) [ inl e ↦ rw (eqb-true final n e) here | inr e ↦ other e ]

groups-agree : (list : List CsiParam) (final : ℕ) → group list final ≡ group_by_rules (rules_of list final) final
groups-agree list final =
    let Q = λ (n : ℕ). group list n ≡ group_by_rules (rules_of list n) n in
    let mark = is_byte 63 (slice_get list 0) in
    at-final 109 final Q (at-m (is_byte 60 (slice_get list 0)) (is_byte 62 (slice_get list 0))) (λ m.
    at-final 104 final Q (at-mode mark 104 refl) (λ h.
    at-final 108 final Q (at-mode mark 108 refl) (λ l.
    at-final 115 final Q (at-mode mark 115 refl) (λ s.
    at-final 114 final Q (at-mode mark 114 refl) (λ r.
    let is : IsWholeFinal final = record { other = m; dec = rw (h, l, s, r) refl; plain = rw (h, l) refl } in
    any-whole final (slice_get list 0) is ∙ sym (all-whole (rules_of list final) final is))))))

-- ---- the rules of each subject

data Subject : Type 0 where
  Cursor : Subject
  Edit : Subject
  Mode : Subject
  Mouse : Subject
  Keyboard : Subject
  Path : Subject
  Device : Subject
  Window : Subject
  Graphics : Subject

-- a list with these rules can be one of this subject
abbrev owns : Rules → Subject → Bool
owns rule.CharacterPath Path = true
owns rule.CursorStyle Cursor = true
owns rule.Checksum Window = true
owns rule.Attributes Device = true
owns rule.MouseReport Mouse = true
owns rule.Graphics Graphics = true
owns rule.Query Mode = true
owns rule.SoftReset Device = true
owns rule.NameAndVersion Device = true
owns rule.KeyModes Mode = true
owns rule.Keyboard Keyboard = true
owns rule.Plain Cursor = true
owns rule.Plain Edit = true
owns rule.Plain Device = true
owns rule.Plain Window = true
owns _ _ = false

-- the rules of a list are of this subject
abbrev Owned : Subject → ℕ → List CsiParam → Type 0
Owned subject final list = owns (rules_of list final) subject ≡ true

-- ---- rows over fields

behind-first : (b : ℕ) (list rest : List CsiParam) → behind_byte (Some b) list ≡ Some rest → is_byte b (slice_get list 0) ≡ true
behind-first b [] rest e = cc
behind-first b (Integer z ∷ ts) rest e = cc
behind-first b (P c ∷ ts) rest e = (guarded (c == b) _ rest e).0

graphics-first : (list : List CsiParam) (a : Action) → read_over (over (byte "?") no_byte "S" graphics_rows) list ≡ Some a → is_byte 63 (slice_get list 0) ≡ true
graphics-first list a e =
    option_and_then_some (given graphics_rows) (fields_over (over (byte "?") no_byte "S" graphics_rows) list) a e
    (λ fs are _. option_and_then_some fields_of (option_and_then (ahead_of_byte no_byte) (behind_byte (Some 63) list)) fs are
    (λ front cut _. option_and_then_some (ahead_of_byte no_byte) (behind_byte (Some 63) list) front cut (λ rest begins _. behind-first 63 list rest begins)))

by-area : (starred : Bool) → owns (if starred then rule.Checksum else rule.Plain) Window ≡ true
by-area true = refl
by-area false = refl

by-graphics : (marked : Bool) → marked ≡ true → owns (if marked then rule.Graphics else rule.Plain) Graphics ≡ true
by-graphics true is = refl
by-graphics false is = cc

window-chosen : (list : List CsiParam) (final : ℕ) (a : Action) → read_fields window_fields list final ≡ Some a → owns (rules_of list final) Window ≡ true
window-chosen list final a e = elim (one-of (if final == 116 then read_over (over no_byte no_byte "t" windows) list else None) (read_fields (over no_byte (byte "*") "y" areas ∷ []) list final) a e) [
  | inl t ↦ let f = guarded (final == 116) _ a t in rw (eqb-true final 116 f.0) refl
  | inr other ↦ elim (one-of (if final == 121 then read_over (over no_byte (byte "*") "y" areas) list else None) None a other) [
    | inl y ↦ let f = guarded (final == 121) _ a y in rw (eqb-true final 121 f.0) (by-area (is_byte 42 (last_token list)))
    | inr none ↦ cc
  ]
]

graphics-chosen : (list : List CsiParam) (final : ℕ) (a : Action) → read_fields graphics_fields list final ≡ Some a → owns (rules_of list final) Graphics ≡ true
graphics-chosen list final a e = elim (one-of (if final == 83 then read_over (over (byte "?") no_byte "S" graphics_rows) list else None) None a e) [
  | inl s ↦ let f = guarded (final == 83) _ a s in rw (eqb-true final 83 f.0) (by-graphics (is_byte 63 (slice_get list 0)) (graphics-first list a f.1))
  | inr none ↦ cc
]

-- ---- what the rules read

or-none : (o : Option Action) → option_or o None ≡ o
or-none None = refl
or-none (Some a) = refl

-- what one subject reads, where these are its rules
abbrev only : Bool → Option Action → Option Action
only true o = o
only false o = None

-- something is read only with such rules
abbrev IsOwn : Bool → Option Action → Type 0
IsOwn mine o = (a : Action) → o ≡ Some a → mine ≡ true

own : {o : Option Action} {mine : Bool} → IsOwn mine o → only mine o ≡ o
own {mine = true} gives = refl
own {o = None} {mine = false} gives = refl
own {o = Some a} {mine = false} gives = let is = gives a refl in cc

-- what the first of all subjects reads that reads anything, in the order of the table
abbrev first-of : (c e m o k p d w g : Option Action) → Option Action
first-of c e m o k p d w g = option_or (option_or c (option_or e (option_or m (option_or o (option_or k p))))) (option_or d (option_or w g))

-- the first that reads anything, of those that the rules leave, is what they read
first-left : (r : Rules) (list : List CsiParam) (final : ℕ) →
    first-of (only (owns r Cursor) (as_cursor list final)) (only (owns r Edit) (as_edit list final))
    (only (owns r Mode) (as_mode list final)) (only (owns r Mouse) (as_mouse list final))
    (only (owns r Keyboard) (as_keyboard list final)) (only (owns r Path) (as_path list final))
    (only (owns r Device) (as_device list final)) (only (owns r Window) (as_window list final))
    (only (owns r Graphics) (as_graphics list final)) ≡ read_by_rules r list final
first-left rule.Graphics list final = refl
first-left rule.PrivateModes list final = refl
first-left rule.Plain list final = simp (or-none, option_or-assoc)
first-left _ list final = simp or-none

agree : (r : Rules) (list : List CsiParam) (final : ℕ) →
    IsOwn (owns r Cursor) (as_cursor list final) → IsOwn (owns r Edit) (as_edit list final) → IsOwn (owns r Mode) (as_mode list final)
    → IsOwn (owns r Mouse) (as_mouse list final) → IsOwn (owns r Keyboard) (as_keyboard list final) → IsOwn (owns r Path) (as_path list final)
    → IsOwn (owns r Device) (as_device list final) → IsOwn (owns r Window) (as_window list final) → IsOwn (owns r Graphics) (as_graphics list final)
    → first-of (as_cursor list final) (as_edit list final) (as_mode list final) (as_mouse list final) (as_keyboard list final)
    (as_path list final) (as_device list final) (as_window list final) (as_graphics list final) ≡ read_by_rules r list final
agree r list final c e m o k p d w g =
    rw (own c, own e, own m, own o, own k, own p, own d, own w, own g) at (first-left r list final)

rows-agree : (list : List CsiParam) (final : ℕ) → whole list final ≡ read_by_rules (rules_of list final) list final
unfolding all_subjects
rows-agree list final = agree (rules_of list final) list final
    (shaped (Owned Cursor) cursor_rows list final (search rules depth 60)) (shaped (Owned Edit) edit_rows list final (search rules depth 60))
    (shaped (Owned Mode) mode_rows list final (search rules depth 60)) (shaped (Owned Mouse) mouse_rows list final (search rules depth 60))
    (shaped (Owned Keyboard) keyboard_rows list final (search rules depth 60)) (shaped (Owned Path) path_rows list final (search rules depth 60))
    (shaped (Owned Device) device_rows list final (search rules depth 60)) (window-chosen list final) (graphics-chosen list final)

pub which_rules_lem : (list : List CsiParam) (final : ℕ) → WhichRules list final
which_rules_lem list final = record { same_group = groups-agree list final; same_action = rows-agree list final }
