use Rattle.csicodec_overwrite.proofs.{Common.rules, Common.subst, Common.Passes, Written.front_on}
use Rattle.csicodec_transform.proofs.Sent.{none_left}
use Rattle.csicodec_overwrite.proofs.overwriter.Overwriter.push.Goals as goal

pub loop-rest-init : goal.loop-rest-init
loop-rest-init c = record { passes = rw c.self.view_is at c.in_ok-rest.ensures.passes; held = rw (← c.self.view_is) c.in_ok-rest.ensures.held }

pub loop-rest-preserved : goal.loop-rest-preserved
loop-rest-preserved c =
    let l = c.loop-rest in
    record {
      passes = front_on l.invariant.passes c.in_ok-rest-2.ensures.passes;
      held = λ few. c.in_ok-rest-2.ensures.held (l.invariant.held few);
    }

pub returns-clause-passes : goal.returns-clause-passes
returns-clause-passes c =
    let p = c.loop-rest.invariant.passes in
    (p.text, subst (λ t. Passes c.args.self.now t p.text c.loop-rest.self) (none_left c.args.bytes.now p.front c.loop-rest.rest.now p.split (search rules)) p.passes, p.out)
