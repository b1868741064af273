use mir.{Syntax.w64, Val.SFits}
use Rattle.csicodec_actions.proofs.{Values.unnamed-told, Common.rules, Common.device_attribute_number}
use Rattle.csicodec_actions.proofs.device.is_unnamed.Goals as goal

pub returns-in-Integer : goal.returns-in-Integer
returns-in-Integer c =
    let fits : SFits w64 c.in-Integer.number = search rules in
    rw c.in-Integer.is (unnamed-told device_attribute_number c.in-Integer.number fits c.from_i64.result c.from_i64.ensures.each c.is_none.result c.is_none.ensures)
