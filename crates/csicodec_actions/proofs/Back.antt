-- The list that an action is written as, its text, and that it is read as the action: subject by subject.
use Rattle.std.proofs.{Common.append_assoc, lemmas.Int.ints, lemmas.Str.encode_ascii, lemmas.Bool.and_parts, lemmas.Bool.cases_Bool}
use Rattle.std.specs.{Prelude.nat_lt, Prelude.Option, Prelude.map, Fmt.signed_decimal, List.Contains}
use Rattle.csicodec_tokens.specs.{Param.spells, Param.token_text, Sequence.IsFinal, Sequence.Apart, OneBased.most}
use Rattle.csicodec_actions.specs.Actions.{Cursor, Edit, Mode, Mouse, Device, Window, Keyboard, SelectCharacterPath}
use Rattle.csicodec_actions.specs.{Written.Byte, Written.The, Written.Unless, Written.Written, Written.tokens, Written.GoodAttribute, Written.two, Kinds.Clear}
use Rattle.csicodec_actions.specs.{Kinds.read, Devices.attribute_token, Devices.attribute_at, Table.written, declared.path.CharacterPath.CharacterPath}
use Rattle.csicodec_actions.specs.{Special.IsNeverRead, Special.IsSpecial, Table.Cursor.written_cursor, Table.Device.answer, Table.Device.written_attributes}
use Rattle.csicodec_actions.specs.{Table.Device.written_device, Table.Edit.written_edit, Table.XtSmGraphics.written_graphics, Table.Keyboard.written_keyboard}
use Rattle.csicodec_actions.specs.{Table.Mode.written_mode, Table.Mouse.report, Table.Mouse.written_mouse, Table.Path.written_path, Table.Window.written_window}
use Rattle.csicodec_actions.specs.{declared.mouse.MouseReport.MouseReport}
use Rattle.csicodec_actions.proofs.Common.{◌≡◌, ℕ, ◌<◌, List, [], ◌∷◌, ◌++◌, Some, refl, sym, arith, pos, None, ap, ◌∙◌, inl, inr, rules, eq-eqb, eqb-true, ne_eqb, Bool, true, false, ◌&&◌, ◌||◌, ℤ, ◌==◌, IsSpellable, Spellable, CsiParam, Integer, P, fields_of, device_attribute_number, device_attribute_codes, is_number, Item, Attribute, shown, written_text, AllGood, any_number, listed, Action, Kind, Value, number, Good, IsSaid, Control, Count, GraphicsItem, InDisplay, InLine, Last, Path, Pressed, Released, Any, DeviceAttribute, listed_attributes, whole, table, field_table, written_class, numbers, read_fields, is_release, Number, mark, open_row, read_by, rows_before, attributes, is_number-pos, none-found}
use Rattle.csicodec_actions.proofs.{Values.number-said, Values.attribute-said, Values.read-good, Values.read_any, AllRows.row-whole, AllRows.rows_lem}
use Rattle.csicodec_actions.proofs.{FieldsApart.field-whole}
use Rattle.csicodec_names.specs.declared.enums as enums
use Rattle.csicodec_actions.specs.declared.cursor.Cursor.TheVariants as cursor
use Rattle.csicodec_actions.specs.declared.edit.Edit.TheVariants as edit
use Rattle.csicodec_actions.specs.declared.keyboard.Keyboard.TheVariants as keyboard
use Rattle.csicodec_actions.specs.declared.mode.Mode.TheVariants as mode
use Rattle.csicodec_actions.specs.declared.window.Window.TheVariants as window
use Rattle.csicodec_actions.specs.declared as types
use Rattle.csicodec_actions.specs.Actions as actions
use Rattle.csicodec_actions.specs.Devices as devices

-- ---- a test that is computed for each action: its bytes can stand in a sequence, no two numbers side by side, and its final can end one

abbrev pub is_mark : ℕ → Bool
is_mark b = nat_lt 31 b && ((nat_lt b 48 || nat_lt 57 b) && nat_lt b 64)

abbrev pub begins_apart : List Item → Bool
begins_apart [] = true
begins_apart (Byte b ∷ items) = true
begins_apart (The k v ∷ items) = false
begins_apart _ = false

abbrev pub are_sound : List Item → Bool
are_sound [] = true
are_sound (Byte b ∷ items) = is_mark b && are_sound items
are_sound (The k v ∷ items) = begins_apart items && are_sound items
are_sound (Unless n k v ∷ items) = begins_apart items && are_sound items
are_sound (Attribute a ∷ items) = begins_apart items && are_sound items

abbrev pub is_sound : Written → Bool
is_sound w = are_sound w.items && (nat_lt 63 w.final && nat_lt w.final 127)

mark-spellable : (b : ℕ) → is_mark b ≡ true → IsSpellable (P b)
mark-spellable b e = grind (arith, ints)

apart : (t : CsiParam) (items : List Item) → begins_apart items ≡ true → Apart t (tokens items)
apart t items e = grind arith

value-spellable : (k : Kind) (v : Value k) → Good k v → IsSpellable (Integer (number k v))
value-spellable k v good = let s = number-said k v good in (s.above, s.fits)

attribute-spellable : (a : DeviceAttribute) → GoodAttribute a → IsSpellable (attribute_token a)
attribute-spellable (DeviceAttribute.Code c) good =
    let small : IsSaid (pos (device_attribute_number c)) = attribute-said c in (small.above, small.fits)
attribute-spellable (DeviceAttribute.Unspecified t) good = good.0

items-spellable : (items : List Item) → are_sound items ≡ true → AllGood items → Spellable (tokens items)
items-spellable [] e good = tt
items-spellable (Byte b ∷ items) e good = grind (arith, mark-spellable b, items-spellable items)
items-spellable (The k v ∷ items) e good =
    grind (arith, value-spellable k v, apart (Integer (number k v)) items, items-spellable items)
items-spellable (Unless n k v ∷ items) e good =
    grind (arith, value-spellable k v, apart (Integer (number k v)) items, items-spellable items)
items-spellable (Attribute a ∷ items) e good =
    grind (arith, attribute-spellable a, apart (attribute_token a) items, items-spellable items)

mark-text : (b : ℕ) → is_mark b ≡ true → b < 128
mark-text b e = grind arith

shown-spells : (items : List Item) (end : List ℕ) → are_sound items ≡ true → shown items end ≡ spells (tokens items) ++ end
shown-spells [] end e = refl
shown-spells (Byte b ∷ items) end e =
    let p = and_parts (is_mark b) (are_sound items) e in rw (encode_ascii b (mark-text b p.0), shown-spells items end p.1) refl
shown-spells (The k v ∷ items) end e = let p = and_parts (begins_apart items) (are_sound items) e in rw (shown-spells items end p.1) (sym (append_assoc _ (spells (tokens items)) end))
shown-spells (Unless n k v ∷ items) end e =
    grind (arith, shown-spells items end, append_assoc (signed_decimal (number k v)) (spells (tokens items)) end)
shown-spells (Attribute a ∷ items) end e =
    let p = and_parts (begins_apart items) (are_sound items) e in rw (shown-spells items end p.1) (sym (append_assoc (token_text (attribute_token a)) (spells (tokens items)) end))

-- the list that is written, before a final, whose text is that of the action
pub record Sound (w : Written) : Type 0 where
  pub spellable : Spellable (tokens w.items)
  pub ends : IsFinal w.final
  pub text : written_text w ≡ spells (tokens w.items) ++ w.final ∷ []

pub sound : (w : Written) → is_sound w ≡ true → AllGood w.items → Sound w
sound w e good =
    record { spellable = items-spellable w.items (grind arith) good; ends = grind arith; text = shown-spells w.items (w.final ∷ []) (grind arith) }

-- the list that is written is one of a sequence, and is read as the action
pub record IsRead (w : Written) (a : Action) : Type 0 where
  pub sound : is_sound w ≡ true
  pub read : whole (tokens w.items) w.final ≡ Some a

-- ---- What an action of a row is written as is read as it, subject by subject.

-- a row of tokens reads what is written
abbrev Returns : Written → Action → Type 0
Returns w a = read_by table (tokens w.items) w.final ≡ Some a

by-row : (w : Written) (a : Action) → is_sound w ≡ true → Returns w a → IsRead w a
by-row w a test read = record { sound = test; read = row-whole _ _ a read }

-- a row over fields does
by-fields : (w : Written) (a : Action) → is_sound w ≡ true → read_fields field_table (tokens w.items) w.final ≡ Some a → IsRead w a
by-fields w a test read = record { sound = test; read = field-whole _ _ a read }

-- ---- a value that is left out where its number is the default

unless-back : (w : Written) (a : Action) (m : ℕ) (k : Kind) (v : Value k) → w.items ≡ Unless m k v ∷ [] → read_by table [] w.final ≡ read_by table (Integer (pos m) ∷ []) w.final
    → read_by table (Integer (number k v) ∷ []) w.final ≡ Some a → Returns w a
unless-back w a m k v is missing one = elim (cases_Bool (is_number m (number k v))) [
  | inl here ↦ (let same = is_number-pos m (number k v) here in rw (is, here) (missing ∙ (rw same at one)))
  | inr there ↦ rw (is, there) one
]

missing : (read Count (pos 1) ≡ Some 1)
    × (read Control (pos 0) ≡ Some enums.CursorTabulationControl.TheVariants.SetCharacterTabStopAtActivePosition)
    × (read Clear (pos 0) ≡ Some enums.TabulationClear.TheVariants.ClearCharacterTabStopAtActivePosition)
    × (read InDisplay (pos 0) ≡ Some enums.EraseInDisplay.TheVariants.EraseToEndOfDisplay)
    × (read InLine (pos 0) ≡ Some enums.EraseInLine.TheVariants.EraseToEndOfLine)
unfolding read
missing = (refl, refl, refl, refl, refl)

-- ---- the cursor

-- margins are left out where they are all around
all-around : (a b : ℕ) → (a == 1 && b == most) ≡ true → (a ≡ 1) × (b ≡ most)
all-around a b e = let p = and_parts (a == 1) (b == most) e in (eqb-true a 1 p.0, eqb-true b most p.1)

-- a line for each variant that isn't written as one count
cursor-back : (c : types.cursor.Cursor.Cursor) → AllGood (written_cursor c).items → ¬ IsSpecial (Cursor c) → Returns (written_cursor c) (Cursor c)
cursor-back (cursor.Position a b) good ok = search (rules, read-good)
cursor-back (cursor.ActivePositionReport a b) good ok = search (rules, read-good)
cursor-back (cursor.CharacterAndLinePosition a b) good ok = search (rules, read-good)
cursor-back (cursor.SetTopAndBottomMargins a b) good ok = elim (cases_Bool (a == 1 && b == most)) [
  | inl all ↦ (let same = all-around a b all in rw (same.0, same.1) (refl {a = Some (Cursor (cursor.SetTopAndBottomMargins 1 most))}))
  | inr less ↦ (let both : AllGood (two Last a b) = rw less at good in rw less (search (rules, read-good)))
]
cursor-back (cursor.SetLeftAndRightMargins a b) good ok = elim (cases_Bool (a == 1 && b == most)) [
  | inl all ↦ absurd (ok (all-around a b all))
  | inr less ↦ (let both : AllGood (two Count a b) = rw less at good in rw less (search (rules, read-good)))
]
cursor-back cursor.SaveCursor good ok = refl
cursor-back cursor.RestoreCursor good ok = refl
cursor-back cursor.RequestActivePositionReport good ok = refl
cursor-back (cursor.CursorStyle c) good ok = search (rules, read-good)
cursor-back (cursor.TabulationControl c) good ok =
    unless-back (written_cursor (cursor.TabulationControl c)) (Cursor (cursor.TabulationControl c))
    _ _ c refl (search (rules, missing.1)) (search (rules, read-good))
cursor-back (cursor.TabulationClear c) good ok =
    unless-back (written_cursor (cursor.TabulationClear c)) (Cursor (cursor.TabulationClear c)) _ _
    c refl (search (rules, missing.2)) (search (rules, read-good))
cursor-back c good ok = unless-back (written_cursor c) (Cursor c) _ _ _ refl (search (rules, missing.0)) (search (rules, read-good))

cursor-sound : (c : types.cursor.Cursor.Cursor) → is_sound (written_cursor c) ≡ true
cursor-sound (cursor.SetTopAndBottomMargins a b) = elim (cases_Bool (a == 1 && b == most)) [ inl all ↦ rw all refl | inr less ↦ rw less refl ]
cursor-sound (cursor.SetLeftAndRightMargins a b) = elim (cases_Bool (a == 1 && b == most)) [ inl all ↦ rw all refl | inr less ↦ rw less refl ]
cursor-sound c = refl

-- ---- edits: a line for each variant that isn't written as one count

edit-back : (e : types.edit.Edit.Edit) → AllGood (written_edit e).items → Returns (written_edit e) (Edit e)
edit-back (edit.EraseInDisplay c) good = unless-back (written_edit (edit.EraseInDisplay c)) (Edit (edit.EraseInDisplay c)) _ _ c refl (search (rules, missing.3)) (search (rules, read-good))
edit-back (edit.EraseInLine c) good = unless-back (written_edit (edit.EraseInLine c)) (Edit (edit.EraseInLine c)) _ _ c refl (search (rules, missing.4)) (search (rules, read-good))
edit-back e good = unless-back (written_edit e) (Edit e) _ _ _ refl (search (rules, missing.0)) (search (rules, read-good))

edit-sound : (e : types.edit.Edit.Edit) → is_sound (written_edit e) ≡ true
edit-sound e = elim e as (λ x. is_sound (written_edit x) ≡ true) [ edit.Repeat n ↦ refl | _ ↦ refl ]

-- ---- the mouse, by what its button does

mouse-read : (m : types.mouse.MouseReport.MouseReport) → AllGood (written_mouse m).items → ¬ IsNeverRead (Mouse m) → IsRead (written_mouse m) (Mouse m)
mouse-read (MouseReport.SGR1016 x y b m) good ok = absurd (ok tt)
mouse-read (MouseReport.SGR1006 x y b m) good ok = elim (cases_Bool (is_release b)) [
  | inl up ↦
      let all : AllGood (report Released (b, m) x y) = rw up at good in
      rw up (by-row _ _ refl (search (rules, read-good)))
  | inr down ↦
      let all : AllGood (report Pressed (b, m) x y) = rw down at good in
      rw down (by-row _ _ refl (search (rules, read-good)))
]

-- ---- the keyboard

keyboard-read : (k : types.keyboard.Keyboard.Keyboard) → AllGood (written_keyboard k).items → IsRead (written_keyboard k) (Keyboard k)
keyboard-read keyboard.QueryKittySupport good = by-row _ _ refl refl
keyboard-read k good = by-row (written_keyboard k) (Keyboard k) refl (search (rules, read-good))

-- ---- modes that are asked for, and modified keys; the others are cut into pieces

abbrev pub IsPiece : Action → Type 0
IsPiece (Mode (mode.QueryDecPrivateMode m)) = ⊥
IsPiece (Mode (mode.QueryMode m)) = ⊥
IsPiece (Mode (mode.XtermKeyMode keys value)) = ⊥
IsPiece (Mode m) = Unit {0}
IsPiece a = ⊥

mode-read : (m : types.mode.Mode.Mode) → AllGood (written_mode m).items → ¬ IsPiece (Mode m) → IsRead (written_mode m) (Mode m)
mode-read (mode.QueryDecPrivateMode m) good ok = by-row _ _ refl (search (rules, read-good))
mode-read (mode.QueryMode m) good ok = by-row _ _ refl (search (rules, read-good))
mode-read (mode.XtermKeyMode keys None) good ok = by-row _ _ refl (search (rules, read-good))
mode-read (mode.XtermKeyMode keys (Some z)) good ok = by-row _ _ refl (search (rules, read-good))
mode-read m good ok = absurd (ok tt)

-- ---- paths of characters

path-read : (p : CharacterPath) (z : ℤ) → AllGood (written_path p z).items → IsRead (written_path p z) (SelectCharacterPath p z)
path-read p z good = elim (cases_Bool (is_number 0 z)) [
  | inl none ↦ (let same : z ≡ pos 0 = is_number-pos 0 z none in rw same (plain p))
  | inr some ↦
      let both : AllGood (The Path p ∷ Byte 59 ∷ The Any z ∷ Byte 32 ∷ []) = rw some at good in
      rw some (by-row _ _ refl (search (rules, read-good)))
]
  where
    plain : (p : CharacterPath) → IsRead (written_path p (pos 0)) (SelectCharacterPath p (pos 0))
    plain CharacterPath.ImplementationDefault = by-row _ _ refl refl
    plain p = by-row (written_path p (pos 0)) (SelectCharacterPath p (pos 0)) refl (search (rules, read-good))

-- ---- windows and areas: a line for each variant that has numbers

window-back : (w : types.window.Window.Window) → AllGood (written_window w).items → read_fields field_table (tokens (written_window w).items) (written_window w).final ≡ Some (Window w)
window-back (window.MoveWindow x y) good = rw (read_any x, read_any y) refl
window-back (window.ResizeWindowPixels None None) good = refl
window-back (window.ResizeWindowPixels (Some w) (Some h)) good = refl
window-back (window.ReportCellSizePixelsResponse None None) good = refl
window-back (window.ReportCellSizePixelsResponse (Some w) (Some h)) good = refl
window-back (window.ResizeWindowCells None None) good = refl
window-back (window.ResizeWindowCells (Some w) (Some h)) good = refl
window-back (window.ChecksumRectangularArea request page top left bottom right) good =
    rw (read_any request, read_any page, read-good Count top good.1.1.0, read-good Count left good.1.1.1.0, read-good Count bottom good.1.1.1.1.0, read-good Count right good.1.1.1.1.1.0) refl
window-back w good = refl

window-sound : (w : types.window.Window.Window) → is_sound (written_window w) ≡ true
window-sound (window.ResizeWindowPixels None None) = refl
window-sound (window.ResizeWindowPixels (Some w) (Some h)) = refl
window-sound (window.ReportCellSizePixelsResponse None None) = refl
window-sound (window.ReportCellSizePixelsResponse (Some w) (Some h)) = refl
window-sound (window.ResizeWindowCells None None) = refl
window-sound (window.ResizeWindowCells (Some w) (Some h)) = refl
window-sound w = refl

-- ---- extensions of a terminal

attribute-back : (a : DeviceAttribute) → GoodAttribute a → attribute_at (attribute_token a) ≡ a ∷ []
attribute-back (DeviceAttribute.Code c) good = rw (attributes.each c) refl
attribute-back (DeviceAttribute.Unspecified (Integer z)) good = rw (none-found device_attribute_number device_attribute_codes z good.1) refl
attribute-back (DeviceAttribute.Unspecified (P b)) good = rw (ne_eqb b 59 good.1) refl

attributes-back : (all : List DeviceAttribute) → AllGood (listed Attribute all) → listed_attributes (tokens (listed Attribute all)) ≡ all
attributes-back [] good = refl
attributes-back (a ∷ others) good = rw (attribute-back a good.0, attributes-back others good.1) refl

listed-apart : {A : Type 0} (item : A → Item) (all : List A) → begins_apart (listed item all) ≡ true
listed-apart item [] = refl
listed-apart item (a ∷ others) = refl

-- items that are sound wherever a byte or nothing follows
listed-sound : {A : Type 0} (item : A → Item) → ((a : A) (items : List Item) → are_sound (item a ∷ items) ≡ begins_apart items && are_sound items) → (all : List A) → are_sound (listed item all) ≡ true
listed-sound item same [] = refl
listed-sound item same (a ∷ others) = rw (same a (listed item others), listed-apart item others, listed-sound item same others) refl

-- a service class and its extensions, by the row of the class
class-read : (n : ℕ) (class : List DeviceAttribute → devices.Attributes) (all : List DeviceAttribute) → written_attributes (class all) ≡ written_class n all → AllGood (written_class n all).items
    → Contains (rows_before table 99) (open_row (mark "?" ∷ Number n ∷ []) (λ rest. answer (class (listed_attributes rest)))) → IsRead (written_attributes (class all)) (answer (class all))
class-read n class all same good row =
    let test : is_sound (written_class n all) ≡ true = rw (listed-apart Attribute all, listed-sound Attribute (λ a items. refl) all) refl in
    let makes = ap (λ (l : List DeviceAttribute). Some (answer (class l))) (attributes-back all good.1) in
    let number = eq-eqb n n refl in
    let found = rows_lem (tokens (written_class n all).items) 99 _ _ row (rw number makes) in
    rw same (record { sound = test; read = found })

-- ---- graphics

numbers-fields : (z : ℤ) (all : List ℤ) → fields_of (Integer z ∷ tokens (listed any_number all)) ≡ Some (Some z ∷ map Some all)
numbers-fields z [] = refl
numbers-fields z (y ∷ others) = rw (numbers-fields y others) refl

numbers-back : (all : List ℤ) → numbers (map Some all) ≡ all
numbers-back [] = refl
numbers-back (z ∷ others) = ap (λ (l : List ℤ). z ∷ l) (numbers-back others)

graphics-read : (item : types.xtsmgraphics.XtSmGraphicsItem.XtSmGraphicsItem) (z : ℤ) (all : List ℤ) → AllGood (written_graphics item z all).items → IsRead (written_graphics item z all) (Device (devices.XtSmGraphics item z all))
graphics-read item z all good =
    let test : is_sound (written_graphics item z all) ≡ true = rw (listed-apart any_number all, listed-sound any_number (λ a items. refl) all) refl in
    by-fields _ _ test (rw (numbers-fields z all, read-good GraphicsItem item good.0, read_any z, numbers-back all) refl)

-- ---- devices

answer-read : (a : devices.Attributes) → AllGood (written_attributes a).items → IsRead (written_attributes a) (answer a)
answer-read (devices.Vt220 all) good = class-read 62 devices.Vt220 all refl good (9, omega arith, refl)
answer-read (devices.Vt320 all) good = class-read 63 devices.Vt320 all refl good (10, omega arith, refl)
answer-read (devices.Vt420 all) good = class-read 64 devices.Vt420 all refl good (11, omega arith, refl)
answer-read a good = by-row (written_attributes a) (answer a) refl refl

device-read : (d : devices.Device) → AllGood (written_device d).items → ¬ IsNeverRead (Device d) → IsRead (written_device d) (Device d)
device-read (devices.DeviceAttributes a) good ok = answer-read a good
device-read (devices.RequestTerminalParameters n) good ok = absurd (ok tt)
device-read (devices.XtSmGraphics item z all) good ok = graphics-read item z all good
device-read d good ok = by-row (written_device d) (Device d) refl refl

-- ---- all subjects

abbrev pub IsReadBack : Action → Option Written → Type 0
IsReadBack a None = Unit {0}
IsReadBack a (Some w) = AllGood w.items → ¬ IsNeverRead a → ¬ IsPiece a → IsRead w a

-- what is written as a row is read whole as it: a line for each subject
pub read-back : (a : Action) → IsReadBack a (written a)
read-back (actions.Sgr s) = tt
read-back (Cursor c) = λ good ok whole. by-row _ _ (cursor-sound c) (cursor-back c good ok)
read-back (Edit e) = λ good ok whole. by-row _ _ (edit-sound e) (edit-back e good)
read-back (Mode m) = λ good ok whole. mode-read m good whole
read-back (Mouse m) = λ good ok whole. mouse-read m good ok
read-back (Device d) = λ good ok whole. device-read d good ok
read-back (Window w) = λ good ok whole. by-fields _ _ (window-sound w) (window-back w good)
read-back (Keyboard k) = λ good ok whole. keyboard-read k good
read-back (SelectCharacterPath p z) = λ good ok whole. path-read p z good
read-back (actions.Unspecified params own final) = tt
