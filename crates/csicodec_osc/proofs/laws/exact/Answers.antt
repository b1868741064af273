use Rattle.csicodec_osc.proofs.Reading.{one}
use Rattle.csicodec_osc.proofs.laws.exact.Goals as goal

pub returns : goal.returns
returns c = λ s t h says. one s t h says
