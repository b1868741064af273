use Rattle.csicodec_tokens.proofs.Walks.{stopped_on}
use Rattle.csicodec_tokens.proofs.body.walk_body.Goals as goal

pub returns-in-Err : goal.returns-in-Err
returns-in-Err c = stopped_on _ _ _ _ c.loop-rest.invariant c.in-Err.left.now c.in-Err.ensures.walked
