use Rattle.std.proofs.Common.{take-append-drop}
use Rattle.csicodec_spans.proofs.Driven.{pushes_then}
use Rattle.csicodec_spans.proofs.driver.Driver.push.Goals as goal

pub loop-self-preserved : goal.loop-self-preserved
loop-self-preserved g c = λ after t h.
    let both = pushes_then g.M.Visit.does _ _ _ _ _ _ _ _ c.in_ok-push_behind.ensures h in
    c.loop-self.invariant after t (rw (c.split_at.ensures.front, c.split_at.ensures.back, take-append-drop c.min.result c.loop-self.rest.now) at both)
