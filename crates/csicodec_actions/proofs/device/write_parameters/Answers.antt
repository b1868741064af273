use Rattle.std.proofs.lemmas.Grind.{common_steps}
use Rattle.csicodec_actions.proofs.{FieldsAt.parameters_text, Common.arith, Common.put_two, Common.rules}
use Rattle.csicodec_actions.proofs.device.write_parameters.Goals as goal

-- the sum, and then the parameters
pub returns : goal.returns
returns g c = λ plain ok.
    let front = c.write.ensures.writes plain (search rules) in
    let line = c.write_str.ensures.writes front.plain ok in
    put_two _ _ _ _ _ _ _ front line (grind (arith, common_steps, parameters_text))
