use Rattle.csicodec_overwrite.proofs.Lost.{nothing_lost, nothing_made}
use Rattle.csicodec_overwrite.proofs.laws.nothing_lost.Goals as goal

pub returns-clause-lost : goal.returns-clause-lost
returns-clause-lost c = nothing_lost

pub returns-clause-made : goal.returns-clause-made
returns-clause-made c = nothing_made
