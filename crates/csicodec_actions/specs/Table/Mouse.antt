-- Reports of the mouse (xterm, "Extended coordinates"): lists before `M` and `m`, and what each action is written as.
use Rattle.csicodec_actions.specs.{Common.ℕ, Common.List, Common.[], Common.Option, Common.CsiParam, Common.Modifiers, Common.MouseButton, Actions.Action}
use Rattle.csicodec_actions.specs.{Actions.Mouse, Kinds.Kind, Kinds.Value, Kinds.Pressed, Kinds.Released, Kinds.Word, Mouse.is_release, Rows.Row, Rows.row}
use Rattle.csicodec_actions.specs.{Rows.One, Rows.mark, Rows.Before, Rows.before, Rows.read_by, Written.Item, Written.Written, Written.The, Written.write}
use Rattle.csicodec_actions.specs.{Written.put}
use Rattle.std.specs.Prelude.{◌∷◌, if◌then◌else◌}
use Rattle.csicodec_actions.specs.declared.mouse.MouseReport as mouse_type
use Rattle.csicodec_actions.specs.declared.mouse.MouseReport.TheVariants as mouse

-- `< code ; x ; y`
abbrev pub mouse_report : (k : Kind) → (Value k → ℕ → ℕ → Action) → Row Action
mouse_report k make = row (mark "<" ∷ One k ∷ mark ";" ∷ One Word ∷ mark ";" ∷ One Word ∷ []) make

-- a line for each final character
abbrev pub mouse_rows : List (Before Action)
mouse_rows =
    before "M" (mouse_report Pressed (λ c x y. Mouse (mouse.SGR1006 x y c.0 c.1)) ∷ [])
    ∷ before "m" (mouse_report Released (λ c x y. Mouse (mouse.SGR1006 x y c.0 c.1)) ∷ [])
    ∷ []

unfoldable pub as_mouse : List CsiParam → ℕ → Option Action
as_mouse list final = read_by mouse_rows list final

-- `< code ; x ; y`
abbrev pub report : (k : Kind) → Value k → ℕ → ℕ → List Item
report k v x y = put "<" ∷ The k v ∷ put ";" ∷ The Word x ∷ put ";" ∷ The Word y ∷ []

-- releases end in `m`, all else in `M`
abbrev pub written_report : MouseButton → Modifiers → ℕ → ℕ → Written
written_report b m x y = if is_release b then write (report Released (b, m) x y) "m" else write (report Pressed (b, m) x y) "M"

-- a line for each variant; a place in pixels is written as one in cells is
abbrev pub written_mouse : mouse_type.MouseReport → Written
written_mouse (mouse.SGR1006 x y b m) = written_report b m x y
written_mouse (mouse.SGR1016 x y b m) = written_report b m x y
