use Rattle.csicodec_actions.specs.Table.Cursor.{as_move, moves}
use Rattle.csicodec_actions.proofs.{Finals.no-count, Finals.no-rows, Common.arith, Common.rules, Common.sym}
use Rattle.csicodec_actions.proofs.lists.cursor.moved.Goals as goal

pub returns-in_default : goal.returns-in_default
unfolding as_move
returns-in_default c = sym (no-rows moves c.args.params.now c.args.control (search (rules, arith)))

pub returns-in_err-place : goal.returns-in_err-place
unfolding as_move
returns-in_err-place c = rw c.from_residual.ensures (sym (no-count moves c.args.params.now c.args.control (search rules) (search rules)))
