use Rattle.std.proofs.Common.{◌∙◌, ap, sym}
use Rattle.csicodec_names.specs.declared.color.ColorSpec.{ColorSpec}
use Rattle.csicodec_actions.specs.declared.edit.Edit.{Edit}
use Rattle.csicodec_screen.specs.{Acts.of_edit, Private.Changes.chars_moved}
use Rattle.csicodec_screen.proofs.screen.Screen.edit.Goals as goal
use Rattle.csicodec_screen.specs.declared.cells.Change.TheVariants as change

pub returns-in-InsertCharacter : goal.returns-in-InsertCharacter
returns-in-InsertCharacter c =
    c.move_chars.ensures ∙ ap (λ (p : ColorSpec). chars_moved (change.Insert p c.in-InsertCharacter.count) c.args.self.now) c.background.ensures
    ∙ ap (λ (e : Edit). of_edit e c.args.self.now) (sym c.in-InsertCharacter.is)

pub returns-in-DeleteCharacter : goal.returns-in-DeleteCharacter
returns-in-DeleteCharacter c =
    c.move_chars-in-DeleteCharacter.ensures
    ∙ ap (λ (p : ColorSpec). chars_moved (change.Delete p c.in-DeleteCharacter.count) c.args.self.now) c.background-in-DeleteCharacter.ensures
    ∙ ap (λ (e : Edit). of_edit e c.args.self.now) (sym c.in-DeleteCharacter.is)
