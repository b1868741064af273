use Rattle.std.proofs.Common.{arith}
use Rattle.csicodec_spans.proofs.OneSpan.{lanes_stay, near_stays, stays_on}
use Rattle.csicodec_spans.specs.declared.table.Mode.{Mode}
use Rattle.csicodec_spans.proofs.near.text_len.Goals as goal

pub returns-then-near-lt16-clause-stay : goal.returns-then-near-lt16-clause-stay
returns-then-near-lt16-clause-stay c = near_stays c.args.bytes.now c.before_esc_16-near.result _ (omega arith) (omega (arith, c.if-near-lt16.true)) c.before_esc_16-near.ensures

pub returns-then-far-lt32-clause-stay : goal.returns-then-far-lt32-clause-stay
returns-then-far-lt32-clause-stay c =
    lanes_stay Mode.Text c.args.bytes.now 32 16 c.before_esc_32-far.result _ (omega arith) (omega (arith, c.if-far-lt32.true))
    (near_stays c.args.bytes.now c.before_esc_16-near.result 16 (omega (arith, c.if-near-lt16.false)) (omega arith) c.before_esc_16-near.ensures)
    (rw c.split_at.ensures.back at c.before_esc_32-far.ensures)

pub returns-clause-stay : goal.returns-clause-stay
returns-clause-stay c =
    let front = near_stays c.args.bytes.now c.before_esc_16-near.result 16 (omega (arith, c.if-near-lt16.false)) (omega arith) c.before_esc_16-near.ensures in
    let lanes = rw c.split_at.ensures.back at c.before_esc_32-far.ensures in
    stays_on Mode.Text c.args.bytes.now 48 c.staying-2.result (lanes_stay Mode.Text c.args.bytes.now 32 16 c.before_esc_32-far.result 32 (omega (arith, c.if-far-lt32.false)) (omega arith) front lanes)
    (rw c.split_at-2.ensures.back at c.staying-2.ensures.stay)
