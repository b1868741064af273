use Rattle.csicodec_tool.proofs.{Common.on_err_weaker, Common.on_ok_weaker, Anchors.numbered_begun, Anchors.numbered_sure, Anchors.numbered_whole}
use Rattle.csicodec_tool.proofs.{Written.begins_weaker, Written.spelled_weaker}
use Rattle.csicodec_tool.proofs.rewrite.write_lines.Goals as goal

pub transform_as-requires-clause-stands : goal.transform_as-requires-clause-stands
transform_as-requires-clause-stands g c = rw c.new-numberer.ensures.inner c.requires.stands

pub transform_as-requires-clause-begun : goal.transform_as-requires-clause-begun
transform_as-requires-clause-begun g c = numbered_begun g.T.Transform.passes c.new-numberer.result c.args.transform c.new-numberer.ensures.inner c.requires.begun

pub returns-then-page-clause-ok : goal.returns-then-page-clause-ok
returns-then-page-clause-ok g c =
    let n = c.new-numberer in
    let P = g.T.Transform.passes in
    let E = g.T.Transform.ends in
    rw c.if-page.true (on_ok_weaker c.transform_as.result (λ (bytes, text, consumed, end, whole, appended).
    (bytes, text, consumed, end, spelled_weaker c.args.page.visible _ _ (λ some plain. numbered_whole P E n.result c.args.transform some plain n.ensures.place n.ensures.inner) bytes text whole, appended))
    c.transform_as.ensures.ok)

pub returns-then-page-clause-front : goal.returns-then-page-clause-front
returns-then-page-clause-front g c =
    let n = c.new-numberer in
    let P = g.T.Transform.passes in
    let E = g.T.Transform.ends in
    rw c.if-page.true (on_err_weaker c.transform_as.result (λ (bytes, more, sent, consumed, begins, appended). (
      bytes,
      more,
      sent,
      consumed,
      begins_weaker c.args.page.visible _ _ _ _ (λ some plain. numbered_sure P n.result c.args.transform some plain n.ensures.place n.ensures.inner)
          (λ some plain. numbered_whole P E n.result c.args.transform some plain n.ensures.place n.ensures.inner) _ bytes sent begins,
      appended,
    ))
    c.transform_as.ensures.front)

pub returns-clause-ok : goal.returns-clause-ok
returns-clause-ok g c = rw c.if-page.false c.transform_as-2.ensures.ok

pub returns-clause-front : goal.returns-clause-front
returns-clause-front g c = rw c.if-page.false c.transform_as-2.ensures.front
