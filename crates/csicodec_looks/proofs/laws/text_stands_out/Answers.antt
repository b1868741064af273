use Rattle.csicodec_looks.proofs.Settled.{known_apart, own_apart}
use Rattle.csicodec_looks.proofs.laws.text_stands_out.Goals as goal

pub returns-clause-known : goal.returns-clause-known
returns-clause-known c = known_apart

pub returns-clause-own : goal.returns-clause-own
returns-clause-own c = own_apart
