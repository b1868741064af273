use Rattle.csicodec_overwrite.proofs.{Common.ap, Common.arith, Common.length, Common.length-append, Written.front_on}
use Rattle.csicodec_overwrite.proofs.overwriter.Overwriter.take_front.Goals as goal

pub returns-clause-passes : goal.returns-clause-passes
returns-clause-passes c = front_on c.in_ok-rest.ensures.passes c.in_ok-odd.ensures.passes

pub returns-clause-fewer : goal.returns-clause-fewer
returns-clause-fewer c = λ some.
    let p = c.in_ok-rest.ensures.passes in
    omega (arith, c.in_ok-odd.ensures.fewer (omega arith), ap length p.split, length-append p.front c.in_ok-rest.rest.now)
