use Rattle.csicodec_tool.proofs.{Common.on_err_weaker, Common.on_ok_weaker, Spelling.spelled_begins, Spelling.spelled_begun, Spelling.spelled_whole}
use Rattle.csicodec_tool.proofs.spelled.transform_as.Goals as goal

pub transform_all-requires-clause-stands : goal.transform_all-requires-clause-stands
transform_all-requires-clause-stands g c = rw c.new.ensures.inner c.requires.stands

pub transform_all-requires-clause-begun : goal.transform_all-requires-clause-begun
transform_all-requires-clause-begun g c = spelled_begun g.T.Transform.passes c.new.result c.args.transform c.new.ensures.none c.new.ensures.inner c.requires.begun

pub returns-then-visible-clause-ok : goal.returns-then-visible-clause-ok
returns-then-visible-clause-ok g c =
    let s = c.new in
    rw c.if-visible.true (on_ok_weaker c.transform_all.result (λ (bytes, text, consumed, end, whole, appended).
    (bytes, text, consumed, end, spelled_whole g.T.Transform.passes g.T.Transform.ends s.result c.args.transform bytes text s.ensures.none s.ensures.inner whole, appended))
    c.transform_all.ensures.ok)

pub returns-then-visible-clause-front : goal.returns-then-visible-clause-front
returns-then-visible-clause-front g c =
    let s = c.new in
    rw c.if-visible.true (on_err_weaker c.transform_all.result (λ (bytes, more, sent, consumed, begins, appended).
    (bytes, more, sent, consumed, spelled_begins g.T.Transform.passes g.T.Transform.ends s.result c.args.transform _ bytes sent s.ensures.none s.ensures.inner begins, appended))
    c.transform_all.ensures.front)

pub returns-clause-ok : goal.returns-clause-ok
returns-clause-ok g c = rw c.if-visible.false c.transform_all-2.ensures.ok

pub returns-clause-front : goal.returns-clause-front
returns-clause-front g c = rw c.if-visible.false c.transform_all-2.ensures.front
