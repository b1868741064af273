-- Numbers that are lent as the tokens that they are read from, and graphics whose values are.
use Rattle.csicodec_actions.specs.{declared.xtsmgraphics.GraphicsRef.GraphicsRef, Actions.Action, Actions.Device, Devices.XtSmGraphics, Common.ℤ, Common.List}
use Rattle.csicodec_actions.specs.{Common.[], Common.flat_map, Common.CsiParam, Common.Integer, Common.P}
use Rattle.std.specs.Prelude.{◌∷◌}

-- the numbers among tokens
abbrev pub integer_at : CsiParam → List ℤ
integer_at (Integer z) = z ∷ []
integer_at (P b) = []

abbrev pub integers : List CsiParam → List ℤ
integers list = flat_map integer_at list

-- these are the values of graphics that are lent
abbrev pub lent_graphics : GraphicsRef → Action
lent_graphics g = Device (XtSmGraphics g.item g.action_or_status (integers g.values.now))
