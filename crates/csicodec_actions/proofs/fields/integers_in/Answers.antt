use Rattle.std.proofs.lemmas.Grind.{common_steps}
use Rattle.csicodec_actions.specs.Lent.{integer_at}
use Rattle.csicodec_actions.proofs.{FieldsAt.flat_next, Common.arith, Common.pos, Common.Integer}
use Rattle.csicodec_actions.proofs.fields.integers_in.Goals as goal

pub loop-token-preserved : goal.loop-token-preserved
loop-token-preserved c =
    let told = flat_next integer_at c.args.tokens.now c.loop-token.token-index (Integer (pos 0)) c.loop-token.values.items (omega arith) c.loop-token.invariant in
    grind (arith, common_steps, told)
