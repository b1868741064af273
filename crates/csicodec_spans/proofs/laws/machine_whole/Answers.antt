use Rattle.csicodec_spans.proofs.Told.{tells_whole}
use Rattle.csicodec_spans.proofs.laws.machine_whole.Goals as goal

pub returns : goal.returns
returns c = tells_whole
