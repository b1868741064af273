-- Editing (ECMA-48, 8.3): lists before a final character, and what each action is written as.
use Rattle.csicodec_actions.specs.{Actions.Action, Actions.Edit, Kinds.InDisplay, Kinds.InLine, Rows.counted, Rows.chosen, Rows.Before, Rows.before}
use Rattle.csicodec_actions.specs.{Rows.read_by, Written.Written, Written.count, Written.choice, Common.ℕ, Common.List, Common.[], Common.Option}
use Rattle.csicodec_actions.specs.{Common.CsiParam}
use Rattle.std.specs.Prelude.{◌∷◌}
use Rattle.csicodec_names.specs.declared.enums.EraseInDisplay.TheVariants as display
use Rattle.csicodec_names.specs.declared.enums.EraseInLine.TheVariants as line
use Rattle.csicodec_actions.specs.declared.edit.Edit as edit_type
use Rattle.csicodec_actions.specs.declared.edit.Edit.TheVariants as edit

-- a line for each final character
abbrev pub edit_rows : List (Before Action)
edit_rows =
    before "@" (counted (λ n. Edit (edit.InsertCharacter n)))
    ∷ before "L" (counted (λ n. Edit (edit.InsertLine n)))
    ∷ before "P" (counted (λ n. Edit (edit.DeleteCharacter n)))
    ∷ before "M" (counted (λ n. Edit (edit.DeleteLine n)))
    ∷ before "X" (counted (λ n. Edit (edit.EraseCharacter n)))
    ∷ before "S" (counted (λ n. Edit (edit.ScrollUp n)))
    ∷ before "T" (counted (λ n. Edit (edit.ScrollDown n)))
    ∷ before "b" (counted (λ n. Edit (edit.Repeat n)))
    ∷ before "J" (chosen InDisplay display.EraseToEndOfDisplay (λ c. Edit (edit.EraseInDisplay c)))
    ∷ before "K" (chosen InLine line.EraseToEndOfLine (λ c. Edit (edit.EraseInLine c)))
    ∷ []

unfoldable pub as_edit : List CsiParam → ℕ → Option Action
as_edit list final = read_by edit_rows list final

-- a line for each variant
abbrev pub written_edit : edit_type.Edit → Written
written_edit (edit.InsertCharacter n) = count n "@"
written_edit (edit.InsertLine n) = count n "L"
written_edit (edit.DeleteCharacter n) = count n "P"
written_edit (edit.DeleteLine n) = count n "M"
written_edit (edit.EraseCharacter n) = count n "X"
written_edit (edit.ScrollUp n) = count n "S"
written_edit (edit.ScrollDown n) = count n "T"
written_edit (edit.Repeat n) = count n "b"
written_edit (edit.EraseInDisplay c) = choice InDisplay c "J"
written_edit (edit.EraseInLine c) = choice InLine c "K"
