-- The table: which list is read whole as which action, subject by subject, and what each action is written as.
pub mod Cursor
pub mod Device
pub mod Edit
pub mod XtSmGraphics
pub mod Keyboard
pub mod Mode
pub mod Mouse
pub mod Path
pub mod Window
use Rattle.std.specs.{Prelude.⊤, Prelude.encode_utf8, Prelude.◌≡◌, Prelude.◌++◌, Prelude.◌∷◌, List.Contains}
use Rattle.csicodec_tokens.specs.Param.{spells}
use Rattle.csicodec_actions.specs.{Common.ℕ, Common.ℤ, Common.List, Common.Option, Common.Some, Common.[], Common.None, Common.flat_map, Common.option_or}
use Rattle.csicodec_actions.specs.{Common.CsiParam, FieldRows.FieldRow, FieldRows.Over, FieldRows.fields_over, FieldRows.gives as given_by, Rows.Row}
use Rattle.csicodec_actions.specs.{Rows.gives, Rows.Before, Rows.rows_before, Table.Cursor.cursor_rows, Table.Cursor.as_cursor, Table.Cursor.written_cursor}
use Rattle.csicodec_actions.specs.{Table.Device.device_rows, Table.Device.as_device, Table.Device.written_device, Table.Edit.edit_rows, Table.Edit.as_edit}
use Rattle.csicodec_actions.specs.{Table.Edit.written_edit, Table.XtSmGraphics.graphics_fields, Table.XtSmGraphics.as_graphics, Table.Keyboard.keyboard_rows}
use Rattle.csicodec_actions.specs.{Table.Keyboard.as_keyboard, Table.Keyboard.written_keyboard, Table.Mode.mode_rows, Table.Mode.as_mode}
use Rattle.csicodec_actions.specs.{Table.Mode.written_mode, Table.Mouse.mouse_rows, Table.Mouse.as_mouse, Table.Mouse.written_mouse, Table.Path.path_rows}
use Rattle.csicodec_actions.specs.{Table.Path.as_path, Table.Path.written_path, Table.Window.window_fields, Table.Window.as_window, Table.Window.written_window}
use Rattle.csicodec_actions.specs.{Written.Written, Written.written_text, Actions.Action}
use Rattle.csicodec_base.specs.SgrText.{sgr_text}
use Rattle.csicodec_actions.specs.Actions as action

-- ---- lists that are read whole

-- The action of a list before a final character, subject by subject, where it is made without memory. The order of the subjects doesn't
-- matter, here and below: no list is read by two (law `rows`).
unfoldable pub unboxed : List CsiParam → ℕ → Option Action
unboxed list final =
    option_or (as_cursor list final)
    (option_or (as_edit list final) (option_or (as_mode list final) (option_or (as_mouse list final) (option_or (as_keyboard list final) (as_path list final)))))

-- the same, where its value holds memory
unfoldable pub boxed : List CsiParam → ℕ → Option Action
boxed list final =
    option_or (as_device list final) (option_or (as_window list final) (as_graphics list final))

-- the action of a list before a final character: what a row of any subject gives
unfoldable pub whole : List CsiParam → ℕ → Option Action
whole list final = option_or (unboxed list final) (boxed list final)

-- what a proof unfolds to compute which row of any subject reads a list
unfoldable pub all_subjects : ⊤
unfolding whole unboxed boxed as_cursor as_edit as_mode as_mouse as_keyboard as_path as_device as_window as_graphics
all_subjects = tt

abbrev pub Whole : List CsiParam → ℕ → Action → Type 0
Whole list final action = whole list final ≡ Some action

-- the rows over tokens of all subjects
abbrev pub table : List (Before Action)
table = cursor_rows ++ (edit_rows ++ (mode_rows ++ (mouse_rows ++ (keyboard_rows ++ (path_rows ++ device_rows)))))

-- the rows over fields
abbrev pub field_table : List (Over Action)
field_table = window_fields ++ graphics_fields

-- The order of rows and subjects doesn't matter (law `rows`): what any row of the final gives is the action, and so is what
-- any row over fields gives.
abbrev pub RowsDecide : List CsiParam → ℕ → Type 0
RowsDecide list final = (r : Row Action) (action : Action) → Contains (rows_before table final) r
    → gives r list ≡ Some action → Whole list final action

abbrev pub FieldRowsDecide : List CsiParam → ℕ → Type 0
FieldRowsDecide list final = (o : Over Action) (r : FieldRow Action) (fields : List (Option ℤ)) (action : Action) → Contains field_table o → o.final ≡ final → Contains o.rows r
    → fields_over o list ≡ Some fields → given_by r fields ≡ Some action → Whole list final action

-- ---- texts

-- what the action of a row or a mode is written as; attributes and unknown actions have texts of their own
abbrev pub written : Action → Option Written
written (action.Sgr s) = None
written (action.Cursor c) = Some (written_cursor c)
written (action.Edit e) = Some (written_edit e)
written (action.Mode m) = Some (written_mode m)
written (action.Mouse m) = Some (written_mouse m)
written (action.Device d) = Some (written_device d)
written (action.Window w) = Some (written_window w)
written (action.Keyboard k) = Some (written_keyboard k)
written (action.SelectCharacterPath path effect) = Some (written_path path effect)
written (action.Unspecified params flag final) = None

abbrev pub text_of : Option Written → List ℕ
text_of None = []
text_of (Some w) = written_text w

-- ESC and `[`, and then the action's own text
abbrev pub text : Action → List ℕ
text (action.Sgr s) = 27 ∷ 91 ∷ sgr_text s
text (action.Unspecified params flag final) = 27 ∷ 91 ∷ (spells params ++ encode_utf8 final)
text action = 27 ∷ 91 ∷ text_of (written action)

abbrev pub texts : List Action → List ℕ
texts actions = flat_map text actions
