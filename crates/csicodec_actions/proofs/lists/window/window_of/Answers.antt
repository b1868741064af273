use Rattle.csicodec_actions.specs.{FieldRows.given, FieldRows.gives, Table.Window.alone_rows, Table.Window.two_rows, Table.Window.which_rows}
use Rattle.csicodec_actions.specs.{Table.Window.windows}
use Rattle.csicodec_actions.proofs.Common.{◌++◌, ◌≡◌, List, Option, ℤ, sym, ap, ◌∙◌, option_or, Action, FieldRow, refl}
use Rattle.csicodec_actions.proofs.AllFieldRows.{first-append}
use Rattle.csicodec_actions.proofs.lists.window.window_of.Goals as goal

split : (fields : List (Option ℤ)) → given windows fields ≡ option_or (given alone_rows fields) (option_or (given which_rows fields) (given two_rows fields))
split fields =
    first-append (λ (r : FieldRow Action). gives r fields) alone_rows (which_rows ++ two_rows)
    ∙ ap (option_or (given alone_rows fields)) (first-append (λ (r : FieldRow Action). gives r fields) which_rows two_rows)

pub returns-in-Some : goal.returns-in-Some
returns-in-Some c = rw (split c.args.fields.now, sym c.in-Some.ensures) refl

pub returns-in-Some-which : goal.returns-in-Some-which
returns-in-Some-which c = rw (split c.args.fields.now, sym (rw c.in_default.is at c.alone.ensures), sym c.in-Some-which.ensures) refl

pub returns : goal.returns
returns c = rw (split c.args.fields.now, sym (rw c.in_default.is at c.alone.ensures), sym (rw c.in_default-which.is at c.which.ensures)) c.two.ensures
