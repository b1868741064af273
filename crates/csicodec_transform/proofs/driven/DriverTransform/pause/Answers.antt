use Rattle.std.proofs.{Common.[], lemmas.Result.on_ok_weaker}
use Rattle.csicodec_spans.proofs.{Driven.pushes_pause, Visits.pushes_append}
use Rattle.csicodec_transform.proofs.driven.DriverTransform.pause.Goals as goal

pub returns-clause-passes : goal.returns-clause-passes
returns-clause-passes g c = on_ok_weaker c.pause.result
    (λ h. (
      h.text,
      (λ first read text passed. pushes_append g.M.Visit.does first c.args.self.now c.pause.new.self read [] text h.text passed (pushes_pause g.M.Visit.does c.args.self.now c.pause.new.self _ _ h)),
      h.out,
    ))
    c.pause.ensures

pub returns-clause-rests : goal.returns-clause-rests
returns-clause-rests g c = on_ok_weaker c.pause.result (λ h. (c.args.self.now.visitor, h.text, h.does_so)) c.pause.ensures
