use Rattle.csicodec_spans.proofs.Told.{tells_parts}
use Rattle.csicodec_spans.proofs.laws.machine_tells.Goals as goal

pub returns : goal.returns
returns c = tells_parts
