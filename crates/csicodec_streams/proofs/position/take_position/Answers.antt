use Rattle.csicodec_streams.proofs.OneReading.{own_normal}
use Rattle.csicodec_streams.proofs.position.take_position.Goals as goal

pub returns-in-Ok-clause-own : goal.returns-in-Ok-clause-own
returns-in-Ok-clause-own c = λ some. (own_normal _ (c.position_len-len.ensures.own some), c.in-Ok.ensures.ok)
