use Rattle.csicodec_command.proofs.{Common.refl, Turns.handed_on, Turns.run_closed, Turns.run_only, Turns.run_stopped}
use Rattle.csicodec_command.proofs.run.run_named.Goals as goal

pub returns-in_err-first : goal.returns-in_err-first
returns-in_err-first g c =
    run_stopped _ _ _ _ _ c.from_residual.result _ c.in_err-first.ensures.stopped
    (handed_on c.from_residual.result _ c.from_residual.ensures.1)

pub returns-in_default : goal.returns-in_default
returns-in_default g c =
    run_closed _ _ c.args.names.now _ _ _ c.close.result c.in_ok-first.first _ c.in_ok-first.ensures.all c.in_default.is
    (λ _. refl) c.close.ensures

pub returns-then-names-eq1 : goal.returns-then-names-eq1
returns-then-names-eq1 g c =
    run_only _ _ c.args.names.now _ _ c.in_ok-first.first c.in-Some.status c.in_ok-first.ensures.all c.in-Some.is c.if-names-eq1.true

pub returns : goal.returns
returns g c =
    run_closed _ _ c.args.names.now _ _ _ c.close-2.result c.in_ok-first.first _ c.in_ok-first.ensures.all c.in-Some.is
    (λ one. absurd (c.if-names-eq1.false one)) c.close-2.ensures
