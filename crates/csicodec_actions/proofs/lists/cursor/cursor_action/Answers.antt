use Rattle.std.proofs.Common.{drop}
use Rattle.csicodec_actions.specs.Table.Cursor.{as_cursor, as_move, cursor_rows, moves}
use Rattle.csicodec_actions.proofs.{AllRows.read-append, Finals.no-rows, Finals.or-none, Common.arith, Common.length, Common.rules, Common.sym, Common.◌∙◌}
use Rattle.csicodec_actions.proofs.lists.cursor.cursor_action.Goals as goal

pub returns-in_default : goal.returns-in_default
unfolding as_cursor as_move
returns-in_default c =
    let others = drop (length moves) cursor_rows in
    c.moved.ensures ∙ sym (read-append moves others c.args.params.now c.args.control ∙ or-none _ _ (no-rows others c.args.params.now c.args.control (search (rules, arith))))
