use Rattle.std.proofs.Common.{refl, inr}
use Rattle.csicodec_structs.proofs.ShortLaid.{cursor_row, edit_row}
use Rattle.csicodec_structs.proofs.movement.one_row.Goals as goal

pub returns-in-Some : goal.returns-in-Some
returns-in-Some c = λ list one. cursor_row list c.args.control c.in-Some.cursor c.cursor_struct.result (c.in-Some.ensures list one) c.cursor_struct.ensures

pub returns-in-Some-moved_to : goal.returns-in-Some-moved_to
returns-in-Some-moved_to c = λ list one.
    cursor_row list c.args.control c.in-Some-moved_to.cursor c.cursor_struct-in-Some-moved_to.result
    (c.in-Some-moved_to.ensures list (inr (refl, one))) c.cursor_struct-in-Some-moved_to.ensures

pub returns : goal.returns
returns c = λ list one.
    edit_row list c.args.control c.in_ok-edit.edit c.edit_struct.result (c.in_ok-edit.ensures.stays list) (c.in_ok-edit.ensures.edits list one) c.edit_struct.ensures
