use Rattle.std.proofs.lemmas.Grind.{put_two}
use Rattle.csicodec_parser.proofs.Common.{arith, rules, common_steps}
use Rattle.csicodec_parser.proofs.actions.UnspecifiedDisplay.fmt.Goals as goal

-- what was written, and then the text of this token
pub loop-param-preserved : goal.loop-param-preserved
loop-param-preserved g c = λ plain.
    let before = c.loop-param.invariant plain in
    let token = c.write.ensures.writes before.plain (search rules) in
    put_two _ _ _ _ _ _ _ before token (grind (arith, common_steps))
