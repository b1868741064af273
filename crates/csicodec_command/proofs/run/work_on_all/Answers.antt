use Rattle.csicodec_command.proofs.{Common.[], Common.arith, Common.refl, Common.sym, Common.◌∙◌, Turns.turn_failed, Turns.turn_stopped, Turns.turn_went}
use Rattle.csicodec_command.proofs.{Turns.turns_end, run.work_on_all.Goals.in-Ok, run.work_on_all.Goals.in-Err+else-ends_run}
use Rattle.csicodec_command.proofs.run.work_on_all.Goals as goal

pub loop-name-init : goal.loop-name-init
loop-name-init g c = record { failed = []; is = refl; goes = λ more stop end h. h }

pub returns-then-ends_run-clause-stopped : goal.returns-then-ends_run-clause-stopped
returns-then-ends_run-clause-stopped g c =
    turn_stopped c.loop-name.invariant _ (omega (arith, c.loop-name-test.true)) c.in-Err.ensures.turn c.in-Err.ensures.told
    (sym c.ends_run.ensures ∙ c.if-ends_run.true)

pub loop-name-preserved : goal.loop-name-preserved
loop-name-preserved g c = elim c.match-work_on.branch [
  | in-Ok w ↦ turn_went c.loop-name.invariant _ (omega (arith, c.loop-name-test.true)) w.in-Ok.ensures.turn w.first-is
  | in-Err+else-ends_run w ↦
      turn_failed c.loop-name.invariant _ (omega (arith, c.loop-name-test.true)) w.in-Err.ensures.turn w.in-Err.ensures.told
      (sym w.ends_run.ensures ∙ w.if-ends_run.false) (w.first-is ∙ w.or-first.ensures)
]

pub returns-clause-all : goal.returns-clause-all
returns-clause-all g c = turns_end c.loop-name.invariant (omega (arith, c.loop-name-test.false))
