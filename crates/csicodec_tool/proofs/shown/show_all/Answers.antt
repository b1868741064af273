use Rattle.csicodec_tool.proofs.Screened.{screen_written}
use Rattle.csicodec_tool.proofs.shown.show_all.Goals as goal

pub returns-in-Ok : goal.returns-in-Ok
returns-in-Ok g c =
    let run = c.transform_all in
    screen_written c.args.display c.in-Ok.shown (rw c.in-Ok.is at c.new.ensures.display) (rw c.in-Ok.is at c.new.ensures.begun) run.result _ _ _ _
    run.ensures.ok run.ensures.front
