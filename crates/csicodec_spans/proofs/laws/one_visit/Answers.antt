use Rattle.csicodec_spans.proofs.Visits.{one_text}
use Rattle.csicodec_spans.proofs.laws.one_visit.Goals as goal

pub returns : goal.returns
returns g c = one_text g.M.Visit.does
