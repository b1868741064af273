use Rattle.std.proofs.Common.{arith}
use Rattle.csicodec_spans.proofs.OneSpan.{lanes_stay, stays_on}
use Rattle.csicodec_spans.specs.declared.table.Mode.{Mode}
use Rattle.csicodec_spans.proofs.staying.staying_in_osc.Goals as goal

pub returns-then-near-lt32-clause-stay : goal.returns-then-near-lt32-clause-stay
returns-then-near-lt32-clause-stay c =
    let near = c.in_osc_32-near.result in
    lanes_stay Mode.Osc c.args.bytes.now 32 c.loop-at.at near near (omega arith)
    (omega (arith, c.if-near-lt32.true)) c.loop-at.invariant.stay c.in_osc_32-near.ensures

pub loop-at-preserved : goal.loop-at-preserved
loop-at-preserved c = record {
  within = omega (arith, c.loop-at-test.true, c.loop-at.invariant.within);
  stay = lanes_stay Mode.Osc c.args.bytes.now 32 c.loop-at.at c.in_osc_32-near.result 32
      (omega (arith, c.if-near-lt32.false)) (omega arith) c.loop-at.invariant.stay
      c.in_osc_32-near.ensures;
}

pub returns-clause-stay : goal.returns-clause-stay
returns-clause-stay c = stays_on Mode.Osc c.args.bytes.now c.loop-at.at c.staying_one_by_one.result
    c.loop-at.invariant.stay (rw c.split_at.ensures.back at c.staying_one_by_one.ensures.stay)
