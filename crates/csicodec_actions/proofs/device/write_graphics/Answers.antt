use Rattle.std.proofs.lemmas.Grind.{common_steps}
use Rattle.csicodec_actions.proofs.{FieldsAt.graphics_text, Common.arith, Common.put_two, Common.rules}
use Rattle.csicodec_actions.proofs.device.write_graphics.Goals as goal

-- the item and the action, and then the values
pub returns : goal.returns
returns g c = λ plain ok.
    let front = c.write.ensures.writes plain (search rules) in
    let values = c.write_listed.ensures front.plain ok in
    put_two _ _ _ _ _ _ _ front values (grind (arith, common_steps, graphics_text))
