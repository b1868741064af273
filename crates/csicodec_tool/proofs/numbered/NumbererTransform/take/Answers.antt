use Rattle.csicodec_tool.proofs.{Common.◌∙◌, Common.◌++◌, Common.ap, Common.on_ok_weaker, Anchors.goes_numbered}
use Rattle.csicodec_tool.specs.Numbered.{numbered}
use Rattle.csicodec_tool.proofs.numbered.NumbererTransform.take.Goals as goal

pub returns-clause-passes : goal.returns-clause-passes
returns-clause-passes g c =
    let (plain, goes, longer) = c.in_ok-take.ensures.passes in
    let old = c.args.self.now in
    let text = longer ∙ ap (λ t. t ++ plain) c.clear.ensures.items in
    on_ok_weaker c.pass.result
    (λ (out, place). (numbered old.place plain, goes_numbered g.T.Transform.passes old c.pass.new.self c.args.bytes.now plain (rw c.pass.ensures.inner goes) (rw text at place), rw text at out))
    c.pass.ensures.passes
