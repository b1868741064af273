use Rattle.std.proofs.lemmas.Result.{on_ok_weaker}
use Rattle.csicodec_filter.proofs.Written.{span_visits}
use Rattle.csicodec_filter.proofs.filter.MemoryVisit.other.Goals as goal

pub returns : goal.returns
returns g c = on_ok_weaker c.append_front.result
    (λ is k events ne span. span_visits g.R.Rewrite.writes k c.args._visitor.now _ c.args.out.now c.append_front.new.out events is ne span) c.append_front.ensures.ok
