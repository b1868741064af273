use Rattle.csicodec_clean.proofs.Chunks.{takes_on}
use Rattle.csicodec_clean.proofs.run.CleanerTransform.take.Goals as goal

pub returns-clause-passes : goal.returns-clause-passes
returns-clause-passes g c =
    let (more, made, out) = c.in_ok-push.ensures.takes in
    (more, (λ first read text passed. takes_on g.T.Rule.gives first c.args.self.now c.push.new.self read c.args.bytes.now text more passed made), out)
