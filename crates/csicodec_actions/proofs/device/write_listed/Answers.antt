use Rattle.std.proofs.lemmas.Grind.{common_steps}
use Rattle.csicodec_actions.proofs.Common.{arith, rules, put_two}
use Rattle.csicodec_actions.proofs.device.write_listed.Goals as goal

-- what was written, and then `;` and the text of this item
pub loop-item-preserved : goal.loop-item-preserved
loop-item-preserved g c = λ plain.
    let before = c.loop-item.invariant plain in
    let item = c.write.ensures.writes before.plain (search rules) in
    put_two _ _ _ _ _ _ _ before item (grind (arith, common_steps))
