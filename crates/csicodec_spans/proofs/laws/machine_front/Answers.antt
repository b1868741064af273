use Rattle.csicodec_spans.proofs.Told.{tells_front}
use Rattle.csicodec_spans.proofs.laws.machine_front.Goals as goal

pub returns : goal.returns
returns c = tells_front
