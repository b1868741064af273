-- What reading makes is canonical or special, a special one is written as another, and the list that an action is written as.
use Rattle.std.proofs.Common.{◌≡◌, ◌⊎◌, ℕ, List, ◌∷◌, Bool, true, false, None, refl, ap, inl, inr, pos, arith, rules, ℤ, ◌<◌, [], Some, drop, take, sym, ◌∙◌, eq-eqb, eqb-true, ◌==◌, ◌&&◌, Option, ◌≤◌, ◌++◌, length, subst, append-nil}
use Rattle.std.proofs.{lemmas.Bool.and_parts, lemmas.Int.ints}
use Rattle.csicodec_tokens.specs.{OneBased.most, Sequence.IsSpellable, declared.param.CsiParam.TheVariants.Integer, Digits.largest, Param.spells}
use Rattle.csicodec_actions.specs.Devices.{RequestTerminalParameters, Attributes, Vt220, Vt320, Vt420, XtSmGraphics, code_or_token, listed_attributes}
use Rattle.csicodec_actions.specs.Written.{AllGood, tokens, Attribute, any_number, listed, GoodAttribute, Written, written_text}
use Rattle.csicodec_actions.specs.{Actions.Cursor, Actions.Device, Actions.Mode, Actions.Mouse, Special.IsSpecial, Table.whole, Table.table, Table.field_table}
use Rattle.csicodec_actions.specs.{Table.written as written_of, Table.Device.written_parameters, Table.Device.answer, Table.Device.written_attributes}
use Rattle.csicodec_actions.specs.{FieldRows.FieldRow, FieldRows.Over, FieldRows.read_fields, Kinds.IsReport, Kinds.Good, Kinds.IsOneBased, Kinds.Any}
use Rattle.csicodec_actions.specs.{Kinds.Dec, Kinds.GraphicsItem, Kinds.Terminal, Kinds.read, Modes.changed, Modes.switched, Modes.dec_number}
use Rattle.csicodec_actions.specs.{Modes.terminal_number, Mouse.pressed, Mouse.released, Mouse.is_release, Table.Window.window_fields}
use Rattle.csicodec_actions.specs.{Table.XtSmGraphics.graphics_fields, declared.device.DeviceAttribute.DeviceAttribute, declared.mode.Change.Change}
use Rattle.csicodec_actions.specs.{declared.mode.DecPrivateMode.DecPrivateMode, declared.mode.Switch.Switch, declared.mode.TerminalMode.TerminalMode}
use Rattle.csicodec_actions.specs.{declared.mouse.MouseButton.MouseButton, declared.xtsmgraphics.XtSmGraphicsItem.XtSmGraphicsItem, Rows.Before, Rows.Row}
use Rattle.csicodec_actions.specs.{Rows.gives, Rows.read_by, Table.Mode.written_mode, declared.mouse.MouseReport.MouseReport}
use Rattle.csicodec_parser.specs.{Canonical.IsCanonicalWritten, Cut.IsStuck}
use Rattle.csicodec_actions.proofs.AllRows.{whole-table, AllRows, Keeps, KeepsTail, table-keeps, spellable-tokens}
use Rattle.csicodec_actions.proofs.Values.{dec-read, terminal-read, good-read, one-fits, most-fits, zero-said, read-good, release-pressed, none-released}
use Rattle.csicodec_actions.proofs.{Back.is_sound, Back.sound, Back.IsRead, Back.read-back, AllFieldRows.fields-keep, AllFieldRows.FieldsKeep}
use Rattle.csicodec_actions.proofs.{AllFieldRows.FieldRowsKeep, AllFieldRows.KeepsRest, Found.one-of}
use Rattle.std.specs.List.{list_any}
use Rattle.csicodec_names.proofs.Coded.{attributes}
use Rattle.csicodec_names.specs.{DeviceNumbers.device_attribute_codes, DeviceNumbers.device_attribute_number, Numbered.with_number}
use Rattle.csicodec_names.specs.{declared.device.DeviceAttributeCodes.DeviceAttributeCodes, declared.flags.Modifiers.Modifiers}
use Rattle.csicodec_streams.specs.Faithful.{staying_finals}
use Rattle.csicodec_terminal.specs.Terminal.{is_open, is_unknown}
use Rattle.csicodec_tokens.proofs.Printed.{printed}
use Rattle.csicodec_parser.proofs.Fronts.{front_stuck, front_empty}
use Rattle.csicodec_streams.proofs.Common.{encode_ascii, cases_Bool, Spellable, IsFinal, CsiParam, P, Action, Sgr, Unspecified, InRange, text, Canonical, Cut, group, Piece, Actions, Group, all-append, row-in, AllByRecursion, Alone}
use Rattle.csicodec_streams.proofs.{OneReading.decodes-one, OneReading.seq_of, RowGroups.whole-group}
use Rattle.csicodec_base.specs.declared.sgr.Sgr as sgr_type
use Rattle.csicodec_actions.specs.declared.cursor.Cursor.TheVariants as cursor
use Rattle.csicodec_actions.specs.declared.mode.Mode as mode_type
use Rattle.csicodec_actions.specs.declared.mode.Mode.TheVariants as mode

-- the special actions that parsing makes
abbrev pub IsParsedSpecial : Action → Type 0
IsParsedSpecial a =
    (a ≡ Cursor (cursor.SetLeftAndRightMargins 1 most))
    ⊎ ((a ≡ Device (RequestTerminalParameters (pos 0))) ⊎ (a ≡ Device (RequestTerminalParameters (pos 1))))

pub parsed-special : (a : Action) → IsParsedSpecial a → IsSpecial a
parsed-special a (inl e) = rw e (refl, refl)
parsed-special a (inr (inl e)) = rw e tt
parsed-special a (inr (inr e)) = rw e tt

pub record Twin (flag : Bool) (a : Action) : Type 0 where
  pub other : Action
  pub apart : a ≡ other → ⊥
  pub range : InRange other
  pub canonical : Canonical other flag
  pub same : text a ≡ text other

-- a request for parameters, as the report, which no row reads
parameters-twin : (flag : Bool) (z : ℤ) → is_sound (written_parameters z) ≡ true → AllGood (written_parameters z).items → whole (tokens (written_parameters z).items) 120 ≡ None
    → Twin flag (Device (RequestTerminalParameters z))
parameters-twin flag z test good none =
    let w = sound (written_parameters z) test good in
    record {
      other = Unspecified (tokens (written_parameters z).items) flag 120;
      apart = λ e. cc;
      range = tt;
      canonical = record { same_flag = refl; spellable = w.spellable; ends = w.ends; unknown = λ action found. cc (none, found) };
      same = rw (encode_ascii 120 (omega arith)) (ap (λ (l : List ℕ). 27 ∷ 91 ∷ l) w.text);
    }

pub special-twin : (flag : Bool) (a : Action) → IsParsedSpecial a → Twin flag a
-- margins all around, as the cursor that is saved
special-twin flag a (inl e) = rw e (record { other = Cursor cursor.SaveCursor; apart = λ e. cc; range = tt; canonical = (tt, λ e. e); same = refl })
special-twin flag a (inr (inl e)) = rw e (parameters-twin flag (pos 0) refl (search rules) (whole-table _ 120))
special-twin flag a (inr (inr e)) = rw e (parameters-twin flag (pos 1) refl (search rules) (whole-table _ 120))

-- ---- what is never special

pub sgr-plain : (s : sgr_type.Sgr) → IsSpecial (Sgr s) → ⊥
sgr-plain s special = special

-- ---- What reading makes is canonical or special.

-- each action that parsing makes is in range, and canonical or special
pub record Kept (flag : Bool) (a : Action) : Type 0 where
  pub range : InRange a
  pub canonical : IsParsedSpecial a ⊎ Canonical a flag

-- the faithful filter lets sequences with this final stay as they came
abbrev pub is_staying : ℕ → Bool
is_staying final = list_any (λ f. final == f) staying_finals

-- before this final, which is one of those where the action is special
pub record KeptAt (flag : Bool) (final : ℕ) (a : Action) : Type 0 where
  pub range : InRange a
  pub canonical : (IsParsedSpecial a × (is_staying final ≡ true)) ⊎ Canonical a flag

pub kept-at : (flag : Bool) (final : ℕ) (a : Action) → KeptAt flag final a → Kept flag a
kept-at flag final a kept = record { range = kept.range; canonical = elim kept.canonical [ inl special ↦ inl special.0 | inr ok ↦ inr ok ] }

-- top and bottom margins, which are left out where they are all around
rows-kept : (flag : Bool) (final a b : ℕ) → IsOneBased a → IsOneBased b → KeptAt flag final (Cursor (cursor.SetTopAndBottomMargins a b))
rows-kept flag final a b fa fb = elim (cases_Bool (a == 1 && b == most)) [
  | inl all ↦ record { range = tt; canonical = inr (rw all tt, λ h. h) }
  | inr less ↦ record { range = tt; canonical = inr (rw less (fa, (fb, tt)), λ h. h) }
]

-- left and right margins are special where they are all around
columns-kept : (flag : Bool) (a b : ℕ) → IsOneBased a → IsOneBased b → KeptAt flag 115 (Cursor (cursor.SetLeftAndRightMargins a b))
columns-kept flag a b fa fb = elim (cases_Bool (a == 1 && b == most)) [
  | inl all ↦
      let p = and_parts (a == 1) (b == most) all in
      let one : a ≡ 1 = eqb-true a 1 p.0 in
      let end : b ≡ most = eqb-true b most p.1 in
      record { range = tt; canonical = inl (inl (rw (one, end) refl), refl) }
  | inr less ↦
      let around : (a ≡ 1) × (b ≡ most) → ⊥ = λ h. (let all : (a == 1 && b == most) ≡ true = rw (h.0, h.1) refl in cc (all, less)) in
      record { range = tt; canonical = inr (rw less (fa, (fb, tt)), around) }
]

-- a report goes by its button
press-kept : (flag : Bool) (final : ℕ) (v : MouseButton × Modifiers) (x y : ℕ) → IsReport pressed v → x < 65536 → y < 65536 → KeptAt flag final (Mouse (MouseReport.SGR1006 x y v.0 v.1))
press-kept flag final v x y h fx fy = record { range = tt; canonical = inr (rw (release-pressed v.0 h.one) (h, (fx, (fy, tt))), λ e. e) }

release-kept : (flag : Bool) (final : ℕ) (v : MouseButton × Modifiers) (x y : ℕ) → IsReport released v → x < 65536 → y < 65536 → KeptAt flag final (Mouse (MouseReport.SGR1006 x y v.0 v.1))
release-kept flag final v x y h fx fy = elim (cases_Bool (is_release v.0)) [
  | inl up ↦ record { range = tt; canonical = inr (rw up (h, (fx, (fy, tt))), λ e. e) }
  | inr none ↦
      let here : IsReport pressed v = record { one = none-released v.0 h.one none; held = h.held } in
      record { range = tt; canonical = inr (rw none (here, (fx, (fy, tt))), λ e. e) }
]

-- an answer names extensions by their tokens
attribute-kept : (z : ℤ) (o : Option DeviceAttributeCodes) → with_number device_attribute_number device_attribute_codes z ≡ o → IsSpellable (Integer z) → GoodAttribute (code_or_token (Integer z) o)
attribute-kept z (Some c) found ok = tt
attribute-kept z None found ok = (ok, λ c same. (let here = attributes.each c in cc (found, same, here)))

attributes-kept : (list : List CsiParam) → AllByRecursion IsSpellable list → AllGood (listed Attribute (listed_attributes list))
attributes-kept [] ok = tt
attributes-kept (Integer z ∷ ts) ok = (attribute-kept z _ refl ok.0, attributes-kept ts ok.1)
attributes-kept (P b ∷ ts) ok = elim (cases_Bool (b == 59)) [
  | inl semicolon ↦ rw semicolon (attributes-kept ts ok.1)
  | inr other ↦ rw other ((ok.0, λ same. cc (other, eq-eqb b 59 same)), attributes-kept ts ok.1)
]

class-kept : (flag : Bool) (final : ℕ) (class : List DeviceAttribute → Attributes)
    → ((all : List DeviceAttribute) → AllGood (listed Attribute all) → AllGood (written_attributes (class all)).items)
    → KeepsTail IsSpellable (KeptAt flag final) (λ rest. answer (class (listed_attributes rest)))
class-kept flag final class good = record { each = λ rest ok. record { range = tt; canonical = inr (good (listed_attributes rest) (attributes-kept rest ok), λ e. e) } }

vt220-kept : (flag : Bool) (final : ℕ) → KeepsTail IsSpellable (KeptAt flag final) (λ rest. answer (Vt220 (listed_attributes rest)))
vt220-kept flag final = class-kept flag final Vt220 (λ all good. search rules)

vt320-kept : (flag : Bool) (final : ℕ) → KeepsTail IsSpellable (KeptAt flag final) (λ rest. answer (Vt320 (listed_attributes rest)))
vt320-kept flag final = class-kept flag final Vt320 (λ all good. search rules)

vt420-kept : (flag : Bool) (final : ℕ) → KeepsTail IsSpellable (KeptAt flag final) (λ rest. answer (Vt420 (listed_attributes rest)))
vt420-kept flag final = class-kept flag final Vt420 (λ all good. search rules)

-- what each row makes is kept before its final
abbrev RowsKeep : Bool → List (Before Action) → Type 0
RowsKeep flag rows = AllRows (λ final row. Keeps IsSpellable Good (KeptAt flag final) row.tail row.shape row.make) rows

-- in two parts, wherever the table is cut, since a search over all rows is long
table-kept : (flag : Bool) → RowsKeep flag table
table-kept flag = all-append (λ (b : Before Action). AllByRecursion (λ (r : Row Action). Keeps IsSpellable Good (KeptAt flag b.final) r.tail r.shape r.make) b.rows) (take 30 table) (drop 30 table)
    (search (rules, rows-kept, columns-kept, one-fits, most-fits) depth 60)
    (search (rules, press-kept, release-kept, one-fits, vt220-kept, vt320-kept, vt420-kept) depth 60)

-- graphics have numbers that are said
numbers-kept : (all : List ℤ) → AllByRecursion (Good Any) all → AllGood (listed any_number all)
numbers-kept [] ok = tt
numbers-kept (z ∷ others) ok = (ok.0, numbers-kept others ok.1)

graphics-kept : (flag : Bool) (final : ℕ) (item : XtSmGraphicsItem) (z : ℤ) → Good GraphicsItem item → Good Any z → KeepsRest Good (λ all. KeptAt flag final (Device (XtSmGraphics item z all)))
graphics-kept flag final item z named said = record { each = λ all ok. record { range = tt; canonical = inr ((named, (said, numbers-kept all ok)), λ e. e) } }

fields-kept : (flag : Bool) (final : ℕ) → FieldRowsKeep Good (KeptAt flag final) field_table
fields-kept flag final =
    all-append (λ (o : Over Action). AllByRecursion (λ (r : FieldRow Action). FieldsKeep Good (KeptAt flag final) r.slots r.make) o.rows) window_fields graphics_fields
    (search (rules, one-fits, zero-said) depth 60) ((λ item named z said. graphics-kept flag final item z named said, tt), tt)

-- a row read by itself
row-alone : (final n : ℕ) (row : Row Action) (list : List CsiParam) (a : Action) →
    (final == n) ≡ true → gives row list ≡ Some a →
    read_by (record { final = n; rows = row ∷ [] } ∷ []) list final ≡ Some a
row-alone final n row list a same gave = rw (same, gave) refl

row-kept : (flag : Bool) (list : List CsiParam) (final : ℕ) (a : Action) → Spellable list → read_by table list final ≡ Some a → KeptAt flag final a
row-kept flag list final a ok e =
    let r = row-in (λ final row. Keeps IsSpellable Good (KeptAt flag final) row.tail row.shape row.make) table list final a (table-kept flag) e in
    let alone : List (Before Action) = record { final = final; rows = r.row ∷ [] } ∷ [] in
    let read : read_by alone list final ≡ Some a = row-alone final final r.row list a (eq-eqb final final refl) r.gave in
    table-keeps IsSpellable Good (KeptAt flag final) (λ k z v fits found. good-read k z v fits found) alone ((r.holds, tt), tt) list final a (spellable-tokens list ok) read

pub whole-kept : (flag : Bool) (list : List CsiParam) (final : ℕ) (a : Action) → Spellable list → whole list final ≡ Some a → KeptAt flag final a
whole-kept flag list final a ok e = elim (one-of (read_by table list final) (read_fields field_table list final) a (sym (whole-table list final) ∙ e)) [
  | inl row ↦ row-kept flag list final a ok row
  | inr fields ↦
      fields-keep IsSpellable Good (KeptAt flag final) (λ k z v fits found. good-read k z v fits found) field_table (fields-kept flag final) list final a (spellable-tokens list ok) fields
]

-- ---- pieces

pub changed-kept : (flag : Bool) (final : ℕ) (c : Change) (n : ℕ) (m : DecPrivateMode) → read Dec (pos n) ≡ Some m → KeptAt flag final (Mode (changed c m))
changed-kept flag final Change.Set n m h = record { range = tt; canonical = inr ((dec-read (pos n) m h, tt), λ e. e) }
changed-kept flag final _ n m h = record { range = tt; canonical = inr ((dec-read (pos n) m h, tt), λ e. e) }

pub switched-kept : (flag : Bool) (final : ℕ) (s : Switch) (n : ℕ) (m : TerminalMode) → read Terminal (pos n) ≡ Some m → KeptAt flag final (Mode (switched s m))
switched-kept flag final Switch.Set n m h = record { range = tt; canonical = inr ((terminal-read (pos n) m h, tt), λ e. e) }
switched-kept flag final Switch.Reset n m h = record { range = tt; canonical = inr ((terminal-read (pos n) m h, tt), λ e. e) }

-- ---- The list that an action is written as, and that is read as this action alone.

pub record Spelling (flag : Bool) (a : Action) : Type 0 where
  pub list : List CsiParam
  pub final : ℕ
  pub written : text a ≡ 27 ∷ 91 ∷ (spells list ++ final ∷ [])
  pub spellable : Spellable list
  pub ends : IsFinal final
  pub read : Actions list flag final (a ∷ [])
  -- as terminals take it, too
  pub closed : is_unknown a ≡ false → is_open (group list final) list ≡ false

pub spelling-alone : (flag : Bool) (a : Action) → Spelling flag a → Alone flag a
spelling-alone flag a s =
    rw s.written (decodes-one _ s.list flag s.final (a ∷ []) (seq_of s.list s.final (spells s.list) s.spellable s.ends (printed s.list s.spellable)) s.read)

-- ---- tokens that can be spelled

pub number-spellable : (n : ℕ) → n ≤ largest → IsSpellable (Integer (pos n))
number-spellable n fits = (omega (arith, ints), omega (arith, ints))

pub colon-spellable : IsSpellable (P 58)
colon-spellable = ((omega arith, omega arith), λ digit. omega (arith, digit))

pub question-spellable : IsSpellable (P 63)
question-spellable = ((omega arith, omega arith), λ digit. omega (arith, digit))

-- ---- what is written

-- a list that is read as the action alone
sound-spelling : (flag : Bool) (a : Action) (w : Written) → text a ≡ 27 ∷ 91 ∷ written_text w → is_sound w ≡ true → AllGood w.items
    → Actions (tokens w.items) flag w.final (a ∷ []) → is_open (group (tokens w.items) w.final) (tokens w.items) ≡ false → Spelling flag a
sound-spelling flag a w shown test good read closed =
    let s = sound w test good in
    record {
      list = tokens w.items;
      final = w.final;
      written = shown ∙ ap (λ (l : List ℕ). 27 ∷ 91 ∷ l) s.text;
      spellable = s.spellable;
      ends = s.ends;
      read = read;
      closed = λ known. closed;
    }

-- by reading it whole
written-spelling : (flag : Bool) (a : Action) (w : Written) → text a ≡ 27 ∷ 91 ∷ written_text w → AllGood w.items → IsRead w a → Spelling flag a
written-spelling flag a w shown good back =
    let whole = whole-group (tokens w.items) w.final a back.read in
    sound-spelling flag a w shown back.sound good (rw whole (inl (a, back.read, refl))) (rw whole refl)

-- ---- a list that is one piece, in any group

pub cut-one : (g : Group) (list : List CsiParam) (a : Action) → Piece g list (length list) a → Cut g list (a ∷ []) []
cut-one g list a p = (
  list,
  [],
  sym (append-nil list),
  record {
    tokens = list;
    piece = subst (λ (l : List CsiParam). Piece g l (length list) a) (sym (append-nil list)) p;
    whole = inr (refl, λ more e. cc);
  },
  refl,
)

pub stuck-empty : (g : Group) → IsStuck g []
stuck-empty g = front_stuck g [] (front_empty g)

-- ---- what a mode is written as is read as it: as a piece, or as a whole list

dec-means : (flag : Bool) (c : Change) (final : ℕ) (m : DecPrivateMode) → group (P 63 ∷ Integer (pos (dec_number m)) ∷ []) final ≡ Group.DecModes c → Good Dec m
    → Actions (P 63 ∷ Integer (pos (dec_number m)) ∷ []) flag final (Mode (changed c m) ∷ [])
dec-means flag c final m by good =
    let g = Group.DecModes c in
    let piece : Piece g (Integer (pos (dec_number m)) ∷ []) 1 (Mode (changed c m)) = (dec_number m, m, ([], refl), refl, read-good Dec m good, refl) in
    rw by (record { pieces = Mode (changed c m) ∷ []; rest = []; cut = cut-one g (Integer (pos (dec_number m)) ∷ []) _ piece; stuck = stuck-empty g; all = refl })

terminal-means : (flag : Bool) (s : Switch) (final : ℕ) (m : TerminalMode) → group (Integer (pos (terminal_number m)) ∷ []) final ≡ Group.Modes s → Good Terminal m
    → Actions (Integer (pos (terminal_number m)) ∷ []) flag final (Mode (switched s m) ∷ [])
terminal-means flag s final m by good =
    let g = Group.Modes s in
    let piece : Piece g (Integer (pos (terminal_number m)) ∷ []) 1 (Mode (switched s m)) = (terminal_number m, m, ([], refl), refl, read-good Terminal m good, refl) in
    rw by (record { pieces = Mode (switched s m) ∷ []; rest = []; cut = cut-one g (Integer (pos (terminal_number m)) ∷ []) _ piece; stuck = stuck-empty g; all = refl })

piece-spelling : (flag : Bool) (m : mode_type.Mode) → is_sound (written_mode m) ≡ true → AllGood (written_mode m).items
    → Actions (tokens (written_mode m).items) flag (written_mode m).final (Mode m ∷ [])
    → is_open (group (tokens (written_mode m).items) (written_mode m).final) (tokens (written_mode m).items) ≡ false → Spelling flag (Mode m)
piece-spelling flag m test good read closed = sound-spelling flag (Mode m) (written_mode m) refl test good read closed

pub mode-spelling : (flag : Bool) (m : mode_type.Mode) → AllGood (written_mode m).items → Spelling flag (Mode m)
mode-spelling flag (mode.SetDecPrivateMode m) good = piece-spelling flag (mode.SetDecPrivateMode m) refl good (dec-means flag Change.Set 104 m refl good.0) refl
mode-spelling flag (mode.ResetDecPrivateMode m) good = piece-spelling flag (mode.ResetDecPrivateMode m) refl good (dec-means flag Change.Reset 108 m refl good.0) refl
mode-spelling flag (mode.SaveDecPrivateMode m) good = piece-spelling flag (mode.SaveDecPrivateMode m) refl good (dec-means flag Change.Save 115 m refl good.0) refl
mode-spelling flag (mode.RestoreDecPrivateMode m) good = piece-spelling flag (mode.RestoreDecPrivateMode m) refl good (dec-means flag Change.Restore 114 m refl good.0) refl
mode-spelling flag (mode.SetMode m) good = piece-spelling flag (mode.SetMode m) refl good (terminal-means flag Switch.Set 104 m refl good.0) refl
mode-spelling flag (mode.ResetMode m) good = piece-spelling flag (mode.ResetMode m) refl good (terminal-means flag Switch.Reset 108 m refl good.0) refl
mode-spelling flag m good = written-spelling flag (Mode m) (written_mode m) refl good (read-back (Mode m) good (λ never. never) (λ piece. piece))

-- ---- each canonical action of a row or a mode is written as a list that is read as it alone

pub written-back : (flag : Bool) (a : Action) → IsCanonicalWritten a (written_of a) → Spelling flag a
written-back flag (Sgr s) ok = absurd ok
written-back flag (Unspecified params own final) ok = absurd ok
written-back flag (Mode m) ok = mode-spelling flag m ok.0
written-back flag a ok = written-spelling flag a _ refl ok.0 (read-back a ok.0 ok.1 (λ piece. piece))
