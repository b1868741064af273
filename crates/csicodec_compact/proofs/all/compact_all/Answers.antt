use Rattle.std.proofs.{Common.[], Common.refl, lemmas.Result.MatchResult-weaker, lemmas.Result.on_err_weaker}
use Rattle.csicodec_spans.specs.{Machine.collected, Told.mode_of}
use Rattle.csicodec_spans.proofs.Visits.{pushes_none}
use Rattle.csicodec_compact.proofs.{Beside.begun_compacts, Beside.compacted, Beside.since_rests, Common.on_ok_weaker, Common.Does}
use Rattle.csicodec_compact.proofs.all.compact_all.Goals as goal

pub transform_all-requires-clause-begun : goal.transform_all-requires-clause-begun
transform_all-requires-clause-begun g c = pushes_none Does c.new-driver.result c.new-driver.result [] refl refl

pub returns-clause-ok : goal.returns-clause-ok
returns-clause-ok g c = on_ok_weaker c.transform_all.result
    (λ (bytes, text, consumed, end, whole, appended). (bytes, text, consumed, compacted c.args.limit c.new-shortener.result c.requires c.new-shortener.ensures bytes text whole, appended))
    (rw c.new-driver.ensures at c.transform_all.ensures.ok)

pub returns-clause-end : goal.returns-clause-end
returns-clause-end g c = on_ok_weaker c.transform_all.result (λ (bytes, text, consumed, end, whole, appended). end) c.transform_all.ensures.ok

pub returns-clause-failed : goal.returns-clause-failed
returns-clause-failed g c = MatchResult-weaker c.transform_all.result (rw c.new-driver.ensures at c.transform_all.ensures.failed) (λ x h. h)
    (λ e h is.
    let (bytes, text, last, consumed, since, rests, appended) = h is in
    (bytes, text, collected last.state, mode_of last.state, consumed, since_rests c.args.limit c.new-shortener.result c.requires c.new-shortener.ensures last bytes text since rests, appended))

pub returns-clause-front : goal.returns-clause-front
returns-clause-front g c = on_err_weaker c.transform_all.result
    (λ (bytes, more, sent, consumed, begins, appended).
    let (unsent, compacts) = begun_compacts c.args.limit c.new-shortener.result c.requires c.new-shortener.ensures _ bytes sent begins in
    (bytes, more, sent, unsent, consumed, compacts, appended))
    (rw c.new-driver.ensures at c.transform_all.ensures.front)
