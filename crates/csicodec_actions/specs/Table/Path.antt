-- SCP, select character path (ECMA-48, 8.3.111): lists before `k`, and what the action is written as.
use Rattle.csicodec_actions.specs.{Common.ℕ, Common.ℤ, Common.List, Common.[], Common.Option, Common.pos, Common.CsiParam, Common.CharacterPath}
use Rattle.csicodec_actions.specs.{Common.is_number, Actions.Action, Actions.SelectCharacterPath, Kinds.Any, Kinds.Path, Rows.Row, Rows.row, Rows.One}
use Rattle.csicodec_actions.specs.{Rows.mark, Rows.Before, Rows.before, Rows.read_by, Written.Written, Written.The, Written.Unless, Written.write, Written.put}
use Rattle.std.specs.Prelude.{◌∷◌, if◌then◌else◌}
use Rattle.csicodec_actions.specs.declared.path.CharacterPath.TheVariants as path

-- ` `, `a ` and `a ; b `
abbrev pub paths : List (Row Action)
paths =
    row (mark " " ∷ []) (SelectCharacterPath path.ImplementationDefault (pos 0))
    ∷ row (One Path ∷ mark " " ∷ []) (λ p. SelectCharacterPath p (pos 0))
    ∷ row (One Path ∷ mark ";" ∷ One Any ∷ mark " " ∷ []) SelectCharacterPath
    ∷ []

-- a line for each final character
abbrev pub path_rows : List (Before Action)
path_rows =
    before "k" paths
    ∷ []

unfoldable pub as_path : List CsiParam → ℕ → Option Action
as_path list final = read_by path_rows list final

-- an effect of 0 is left out, and then a path of 0 too
abbrev pub written_path : CharacterPath → ℤ → Written
written_path p z = write (if is_number 0 z then Unless 0 Path p ∷ put " " ∷ [] else The Path p ∷ put ";" ∷ The Any z ∷ put " " ∷ []) "k"
