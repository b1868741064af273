use Rattle.std.proofs.{Common.inl, Common.inr, Common.⊎_elim, lemmas.Result.MatchResult-weaker}
use Rattle.csicodec_clean.proofs.{Common.on_err_weaker, Common.on_ok_weaker, Chunks.closed, Chunks.takes_none}
use Rattle.csicodec_clean.proofs.run.clean_run.Goals as goal

pub transform_all-requires-clause-begun : goal.transform_all-requires-clause-begun
transform_all-requires-clause-begun g c = rw c.new-cleaner.ensures (takes_none g.T.Rule.gives c.args.rule)

pub returns-clause-ok : goal.returns-clause-ok
returns-clause-ok g c = on_ok_weaker c.transform_all.result
    (λ (bytes, text, consumed, end, whole, appended). (bytes, text, consumed, end, closed g.T.Rule.gives g.T.Rule.closes c.args.rule bytes text whole, appended))
    (rw c.new-cleaner.ensures at c.transform_all.ensures.ok)

pub returns-clause-failed : goal.returns-clause-failed
returns-clause-failed g c = MatchResult-weaker c.transform_all.result (rw c.new-cleaner.ensures at c.transform_all.ensures.failed) (λ x h. h)
    (λ e h is.
    let (bytes, text, last, consumed, passed, rests, appended) = h is in
    (bytes, text, last, consumed, passed, appended))

pub returns-clause-front : goal.returns-clause-front
returns-clause-front g c = on_err_weaker c.transform_all.result
    (λ (bytes, more, sent, consumed, (unsent, begins), appended).
    (bytes, more, sent, consumed, (unsent, ⊎_elim inl (λ (all, whole). inr (all, closed g.T.Rule.gives g.T.Rule.closes c.args.rule bytes _ whole)) begins), appended))
    (rw c.new-cleaner.ensures at c.transform_all.ensures.front)
