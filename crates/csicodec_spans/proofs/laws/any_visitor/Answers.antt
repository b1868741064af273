use Rattle.csicodec_spans.proofs.Visits.{any_chunks}
use Rattle.csicodec_spans.proofs.laws.any_visitor.Goals as goal

pub returns : goal.returns
returns g c = any_chunks g.M.Visit.does
