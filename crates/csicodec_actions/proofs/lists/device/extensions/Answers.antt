use Rattle.std.proofs.lemmas.Grind.{common_steps}
use Rattle.csicodec_actions.specs.Devices.{attribute_at}
use Rattle.csicodec_actions.proofs.{FieldsAt.flat_next, Common.arith, Common.pos, Common.Integer}
use Rattle.csicodec_actions.proofs.lists.device.extensions.Goals as goal

pub loop-token-preserved : goal.loop-token-preserved
loop-token-preserved c =
    let told = flat_next attribute_at c.args.list.now c.loop-token.token-index (Integer (pos 0)) c.loop-token.attributes.items (omega arith) c.loop-token.invariant in
    grind (arith, common_steps, told)
