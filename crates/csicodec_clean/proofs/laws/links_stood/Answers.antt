use Rattle.csicodec_clean.proofs.Stood.{in_stream}
use Rattle.csicodec_clean.proofs.laws.links_stood.Goals as goal

pub returns-clause-stream : goal.returns-clause-stream
returns-clause-stream c = in_stream
