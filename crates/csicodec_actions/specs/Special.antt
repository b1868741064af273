-- The actions that parsing makes and whose text is read as another one, and all those whose text is never read as them.
use Rattle.std.specs.{List.All, Prelude.◌≡◌}
use Rattle.csicodec_actions.specs.{Actions.Action, Actions.Cursor, Actions.Device, Actions.Mouse, Devices.RequestTerminalParameters, Common.List, Common.most}
use Rattle.csicodec_actions.specs.{declared.mouse.MouseReport.MouseReport}
use Rattle.csicodec_actions.specs.declared.cursor.Cursor.TheVariants as cursor

-- left and right margins all around are written as `s`, which saves the cursor; a request for the terminal's parameters is written as the report
abbrev pub IsSpecial : Action → Type 0
IsSpecial (Cursor (cursor.SetLeftAndRightMargins left right)) = (left ≡ 1) × (right ≡ most)
IsSpecial (Device (RequestTerminalParameters n)) = Unit {0}
IsSpecial action = ⊥

abbrev pub NoneSpecial : List Action → Type 0
NoneSpecial actions = All (λ action. ¬ IsSpecial action) actions

-- a report in pixels is written as one in cells is
abbrev pub IsNeverRead : Action → Type 0
IsNeverRead (Mouse (MouseReport.SGR1016 x_pixels y_pixels button modifiers)) = Unit {0}
IsNeverRead action = IsSpecial action
