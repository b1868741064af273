use Rattle.csicodec_tool.proofs.{Common.on_ok_weaker, Spelling.goes_spelled}
use Rattle.csicodec_tool.proofs.spelled.SpellerTransform.take.Goals as goal

pub returns-clause-passes : goal.returns-clause-passes
returns-clause-passes g c =
    let (plain, goes, longer) = c.in_ok-take.ensures.passes in
    on_ok_weaker c.pass.result
    (λ (more, spells, out). (more, goes_spelled g.T.Transform.passes c.args.self.now c.pass.new.self c.args.bytes.now plain more (rw c.pass.ensures.inner goes) (rw (← longer) spells), out))
    c.pass.ensures.spelled
