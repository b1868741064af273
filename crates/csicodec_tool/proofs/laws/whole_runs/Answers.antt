use Rattle.csicodec_tool.proofs.Whole.{whole}
use Rattle.csicodec_tool.proofs.laws.whole_runs.Goals as goal

pub returns : goal.returns
returns c = whole
