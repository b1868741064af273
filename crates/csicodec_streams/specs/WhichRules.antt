-- Which rules a list falls under, by its final character, its first token or its last, or in three of them its shape as a whole: another way to say
-- which group it is in, and which rows of the table read it.
use Prim.Native.Char.{Char, code}
use Rattle.std.specs.Prelude.{ℕ, ◌≡◌, ◌==◌, ◌||◌, ◌&&◌, Bool, false, List, [], ◌∷◌, Option, None, Some, if◌then◌else◌, slice_get}
use Rattle.std.specs.{List.list_any, Option.option_or}
use Rattle.csicodec_tokens.specs.declared.param.CsiParam.{CsiParam}
use Rattle.csicodec_parser.specs.{declared.group.Group.Group, Groups.dec_group, Groups.group, Groups.is_byte, Groups.plain_group}
use Rattle.csicodec_actions.specs.{Actions.Action, Rows.Row, Rows.has_shape, Rows.mark, Table.whole, Table.Cursor.as_cursor, Table.Device.as_device}
use Rattle.csicodec_actions.specs.{Table.Edit.as_edit, Table.Keyboard.as_keyboard, Table.Keyboard.keyboards, Table.Mode.as_mode, Table.Mode.queries}
use Rattle.csicodec_actions.specs.{Table.Mouse.as_mouse, Table.Path.as_path, Table.Window.as_window, Table.XtSmGraphics.as_graphics}

pub data Rules : Type 0 where
  CharacterPath : Rules
  CursorStyle : Rules
  Checksum : Rules
  Attributes : Rules
  MouseReport : Rules
  Graphics : Rules
  Query : Rules
  SoftReset : Rules
  PrivateModes : Rules
  NameAndVersion : Rules
  KeyModes : Rules
  Keyboard : Rules
  Plain : Rules

-- the list begins with this byte, and ends with it
abbrev pub begins : Char → List CsiParam → Bool
begins c list = is_byte (code c) (slice_get list 0)

abbrev pub last_token : List CsiParam → Option CsiParam
last_token [] = None
last_token (t ∷ []) = Some t
last_token (t ∷ u ∷ ts) = last_token (u ∷ ts)

abbrev pub ends : Char → List CsiParam → Bool
ends c list = is_byte (code c) (last_token list)

-- the list has the shape of one of the rows
abbrev pub has_any : List (Row Action) → List CsiParam → Bool
has_any rows list = list_any (λ (r : Row Action). has_shape r.tail r.shape list) rows

abbrev pub is_final : Char → ℕ → Bool
is_final c final = final == code c

-- `h`, `l`, `s` or `r`
abbrev pub changes_modes : ℕ → Bool
changes_modes final =
    is_final "h" final || (is_final "l" final || (is_final "s" final || is_final "r" final))

-- the first line that fits decides
abbrev pub rules_of : List CsiParam → ℕ → Rules
rules_of list final =
    if is_final "k" final && ends " " list then CharacterPath
    else if is_final "q" final && ends " " list then CursorStyle
    else if is_final "y" final && ends "*" list then Checksum
    else if is_final "c" final &&
    (begins "=" list || (begins ">" list || begins "?" list)) then Attributes
    else if (is_final "m" final || is_final "M" final) && begins "<" list then MouseReport
    else if is_final "S" final && begins "?" list then Graphics
    else if is_final "p" final && has_any queries list then Query
    else if is_final "p" final && has_shape false (mark "!" ∷ []) list then SoftReset
    else if changes_modes final && begins "?" list then PrivateModes
    else if is_final "q" final && begins ">" list then NameAndVersion
    else if is_final "m" final && begins ">" list then KeyModes
    else if is_final "u" final && has_any keyboards list then Keyboard
    else Plain

-- the group of a list with these rules
abbrev pub group_by_rules : Rules → ℕ → Group
group_by_rules PrivateModes final = dec_group final
group_by_rules Plain final = if is_final "m" final then Group.Styles else plain_group final
group_by_rules other final = Group.Whole

-- What they read of a list: the rows of one subject do. Plain rows are those of four subjects.
abbrev pub read_by_rules : Rules → List CsiParam → ℕ → Option Action
read_by_rules CharacterPath list final = as_path list final
read_by_rules CursorStyle list final = as_cursor list final
read_by_rules Checksum list final = as_window list final
read_by_rules Attributes list final = as_device list final
read_by_rules MouseReport list final = as_mouse list final
read_by_rules Graphics list final = as_graphics list final
read_by_rules Query list final = as_mode list final
read_by_rules SoftReset list final = as_device list final
read_by_rules PrivateModes list final = None
read_by_rules NameAndVersion list final = as_device list final
read_by_rules KeyModes list final = as_mode list final
read_by_rules Keyboard list final = as_keyboard list final
read_by_rules Plain list final = option_or (as_cursor list final)
    (option_or (as_edit list final) (option_or (as_device list final) (as_window list final)))

-- The rules choose the group that the list is in, and what they read of it is what any row of the table reads.
pub record WhichRules (list : List CsiParam) (final : ℕ) : Type 0 where
  pub same_group : group list final ≡ group_by_rules (rules_of list final) final
  pub same_action : whole list final ≡ read_by_rules (rules_of list final) list final
