use mir.{Syntax.w64, Val.SFits}
use Rattle.csicodec_actions.proofs.{Values.own-told, Common.◌<◌, Common.rules}
use Rattle.csicodec_names.specs.ModeNumbers.{terminal_mode_number}
use Rattle.csicodec_actions.proofs.mode.is_terminal_mode.Goals as goal

pub returns-in-Unspecified : goal.returns-in-Unspecified
returns-in-Unspecified c =
    let small : c.in-Unspecified.number < 65536 = search rules in
    let fits : SFits w64 c.from.result = search rules in
    rw c.in-Unspecified.is (own-told terminal_mode_number c.in-Unspecified.number c.from.result small c.from.ensures fits c.from_i64.result c.from_i64.ensures.each c.is_none.result c.is_none.ensures)
