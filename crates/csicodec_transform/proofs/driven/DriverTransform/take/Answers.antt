use Rattle.std.proofs.lemmas.Result.{on_ok_weaker}
use Rattle.csicodec_spans.proofs.Visits.{pushes_append}
use Rattle.csicodec_transform.proofs.driven.DriverTransform.take.Goals as goal

pub returns-clause-passes : goal.returns-clause-passes
returns-clause-passes g c = on_ok_weaker c.push.result
    (λ h. (h.text, (λ first read text passed. pushes_append g.M.Visit.does first c.args.self.now c.push.new.self read c.args.bytes.now text h.text passed h.pushes), h.out))
    c.push.ensures
