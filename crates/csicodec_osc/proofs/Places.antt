-- Written by tools/table from table/osc.toml: change that, and run python3 tools/table.
-- Each command is in the table.
use Rattle.std.proofs.Common.{◌≡◌, ℕ, suc, List, [], ◌∷◌, Some, refl}
use Rattle.std.specs.Prelude.{slice_get, if◌then◌else◌}
use Rattle.std.specs.Str.{bytes_eq}
use Rattle.csicodec_osc.specs.declared.command.Command.{Command}
use Rattle.csicodec_osc.specs.declared.command.Command.TheVariants as command
use Rattle.csicodec_osc.specs.declared.command.Title.TheVariants as title
use Rattle.csicodec_osc.specs.declared.command.ColorTable.TheVariants as color_table
use Rattle.csicodec_osc.specs.declared.command.Dynamic.TheVariants as dynamic
use Rattle.csicodec_osc.specs.declared.command.Folder.TheVariants as folder
use Rattle.csicodec_osc.specs.declared.command.Mark.TheVariants as mark
use Rattle.csicodec_osc.specs.declared.command.EditorMark.TheVariants as editor_mark
use Rattle.csicodec_osc.specs.declared.command.Progress.TheVariants as progress
use Rattle.csicodec_osc.specs.declared.command.TheConstants.{COMMANDS}
use Rattle.csicodec_osc.specs.Commands.{number}

abbrev pub place_in : List Command → List ℕ → ℕ
place_in [] n = 0
place_in (k ∷ commands) n = if bytes_eq (number k) n then 0 else suc (place_in commands n)

pub lies-at : (k : Command) → slice_get COMMANDS (place_in COMMANDS (number k)) ≡ Some k
lies-at (command.Title title.Both) = refl
lies-at (command.Colors color_table.Indexed) = refl
lies-at (command.ResetColors color_table.Indexed) = refl
lies-at (command.Color dynamic.Foreground) = refl
lies-at (command.ResetColor dynamic.Foreground) = refl
lies-at (command.Folder folder.Address) = refl
lies-at (command.Prompt mark.Prompt) = refl
lies-at (command.Editor editor_mark.Prompt) = refl
lies-at (command.Progress progress.Off) = refl
lies-at _ = refl
