use Rattle.csicodec_clean.proofs.Stood.{passes_in_stream}
use Rattle.csicodec_clean.proofs.laws.links_pass.Goals as goal

pub returns-clause-stream : goal.returns-clause-stream
returns-clause-stream c = passes_in_stream
