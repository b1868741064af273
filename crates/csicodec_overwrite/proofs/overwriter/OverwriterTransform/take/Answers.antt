use Rattle.csicodec_overwrite.proofs.{Common.on_ok_weaker, Written.goes}
use Rattle.csicodec_overwrite.proofs.overwriter.OverwriterTransform.take.Goals as goal

pub returns-clause-passes : goal.returns-clause-passes
returns-clause-passes c = on_ok_weaker c.push.result
    (λ (text, passes, out). (text, goes c.args.self.now c.push.new.self c.args.bytes.now text passes, out)) c.push.ensures.passes
