-- What a terminal can draw, asked and answered (XTSMGRAPHICS of xterm): lists before `S`, read by their fields, and what each action is written as.
use Rattle.std.specs.Prelude.{drop, ◌≡◌, ◌∷◌}
use Rattle.csicodec_tokens.specs.{declared.refusal.ParseRefusal.ParseRefusal, declared.refusal.ParseRefusal.TheVariants.NotSpelled}
use Rattle.csicodec_tokens.specs.{declared.refusal.ParseRefusal.TheVariants.Memory}
use Rattle.csicodec_actions.specs.FieldRows.{FieldRow, field_row, Must, Rest, Over, over, no_byte, byte, given, read_fields}
use Rattle.csicodec_actions.specs.Common.{ℕ, ℤ, List, [], Option, None, IsSome, option_and_then, CsiParam, fields_of, XtSmGraphicsItem}
use Rattle.csicodec_actions.specs.{Actions.Action, Actions.Device, Devices.XtSmGraphics, Kinds.Any, Kinds.GraphicsItem, Written.The, Written.Written}
use Rattle.csicodec_actions.specs.{Written.any_number, Written.listed, Written.write, Written.put}

-- `item ; action or status ; values`
abbrev pub graphics_rows : List (FieldRow Action)
graphics_rows =
    field_row (Must GraphicsItem ∷ Must Any ∷ Rest ∷ []) (λ item action_or_status value.
    Device (XtSmGraphics item action_or_status value))
    ∷ []

abbrev pub graphics_fields : List (Over Action)
graphics_fields = over (byte "?") no_byte "S" graphics_rows ∷ []

unfoldable pub as_graphics : List CsiParam → ℕ → Option Action
as_graphics list final = read_fields graphics_fields list final

-- what the row gives behind the first token of a list, whatever that is
abbrev pub graphics_behind : List CsiParam → Option Action
graphics_behind list = option_and_then (given graphics_rows) (fields_of (drop 1 list))

-- why this list may be refused so: the row doesn't read it, or it does, and its values take memory
abbrev pub RefusesGraphics : List CsiParam → ParseRefusal → Type 0
RefusesGraphics list NotSpelled = graphics_behind list ≡ None
RefusesGraphics list Memory = IsSome (graphics_behind list)

-- ---- what is written

abbrev pub written_graphics : XtSmGraphicsItem → ℤ → List ℤ → Written
written_graphics item action_or_status value =
    write (put "?" ∷ The GraphicsItem item ∷ listed any_number (action_or_status ∷ value)) "S"
