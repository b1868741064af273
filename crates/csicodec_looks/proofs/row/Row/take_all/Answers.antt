use Rattle.csicodec_looks.proofs.Rows.{does_on}
use Rattle.csicodec_looks.proofs.row.Row.take_all.Goals as goal

pub loop-step-preserved : goal.loop-step-preserved
loop-step-preserved c =
    let e = c.in_ok-take.ensures in
    record {
      still = does_on c.in-Some.step.now c.in-Some.behind.now (rw c.in-Some.ensures.cases.0 at c.loop-step.invariant.still) e.does e.pen;
    }
