use Rattle.std.proofs.{Common.ℕ, Common.List, Common.[], Common.refl, KnownBytes.Consumes-whole, lemmas.Result.MatchResult-weaker, lemmas.Result.on_err_weaker}
use Rattle.std.proofs.{lemmas.Result.on_ok_weaker}
use Rattle.std.specs.Io.KnownBytes.{Appends}
use Rattle.csicodec_spans.specs.{declared.table.Mode.Mode, Machine.collected, Told.mode_of}
use Rattle.csicodec_spans.proofs.Visits.{pushes_none}
use Rattle.csicodec_filter.specs.{Filter.Filters, Rewrites.Rewrites}
use Rattle.csicodec_filter.proofs.Written.{filtered, passed, sent_front}
use Rattle.csicodec_filter.proofs.run.filter_all.Goals as goal

pub transform_all-requires-clause-begun : goal.transform_all-requires-clause-begun
transform_all-requires-clause-begun g c = pushes_none (Rewrites g.T.Rewrite.writes) c.new-driver.result c.new-driver.result [] refl refl

pub returns-clause-ok : goal.returns-clause-ok
returns-clause-ok g c = on_ok_weaker c.transform_all.result
    (λ (bytes, text, consumed, end, whole, appended).
    Consumes-whole _ _ bytes (λ all. (t : List ℕ) × Filters (g.T.Rewrite.writes c.args.rewrite) c.args.limit Mode.Text all t × Appends _ _ t) consumed end
    (text, filtered g.T.Rewrite.writes c.args.limit c.args.rewrite c.requires bytes text whole, appended))
    (rw c.new-driver.ensures at c.transform_all.ensures.ok)

pub returns-clause-end : goal.returns-clause-end
returns-clause-end g c = on_ok_weaker c.transform_all.result (λ (bytes, text, consumed, end, whole, appended). end) c.transform_all.ensures.ok

pub returns-clause-failed : goal.returns-clause-failed
returns-clause-failed g c = MatchResult-weaker c.transform_all.result (rw c.new-driver.ensures at c.transform_all.ensures.failed) (λ x h. h)
    (λ e h is.
    let (bytes, text, last, consumed, since, rests, appended) = h is in
    (bytes, text, collected last.state, mode_of last.state, consumed, passed g.T.Rewrite.writes c.args.limit c.args.rewrite c.requires last bytes text since, appended))

pub returns-clause-front : goal.returns-clause-front
returns-clause-front g c = on_err_weaker c.transform_all.result
    (λ (bytes, more, sent, consumed, begins, appended). sent_front g.T.Rewrite.writes c.args.limit c.args.rewrite c.requires bytes more sent _ _ _ _ consumed begins appended)
    (rw c.new-driver.ensures at c.transform_all.ensures.front)
