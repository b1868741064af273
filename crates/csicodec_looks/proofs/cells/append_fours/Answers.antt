use Rattle.csicodec_looks.proofs.{Common.arith, Moved.four_come}
use Rattle.csicodec_looks.proofs.cells.append_fours.Goals as goal

pub loop-front-preserved : goal.loop-front-preserved
loop-front-preserved c =
    let l = c.loop-front in
    let e = c.in-Some.ensures.cases in
    let last = c.push_reserved.ensures in
    let third = c.push_reserved-in-Some.ensures in
    let second = c.push_reserved-in-Some-2.ensures in
    let first = c.push_reserved-in-Some-3.ensures in
    record {
      come = four_come _ _ _ _ _ _ _ _ _ _ last.items third.items second.items first.items e l.invariant.come;
      room = omega (arith, e.2, last.len, third.len, second.len, first.len, last.capacity, third.capacity, second.capacity, first.capacity, l.invariant.room);
    }
