use Rattle.std.proofs.Common.{arith}
use Rattle.csicodec_transform.proofs.Slots.{same_in_front}
use Rattle.csicodec_transform.proofs.memo.is_front.Goals as goal

pub is_front_behind-requires-clause-near : goal.is_front_behind-requires-clause-near
is_front_behind-requires-clause-near c =
    same_in_front c.args.bytes.now c.args.known.now 16 c.same_16-near.result 16 (omega (arith, c.if-near-ge16.true)) (omega arith) c.same_16-near.ensures.same

pub returns : goal.returns
returns c = λ _. (
  omega (arith, c.if-len-eq0.false),
  same_in_front c.args.bytes.now c.args.known.now 16 c.same_16-near.result c.args.len
      (omega (arith, c.if-min-len.false, c.min.ensures))
      (omega (arith, c.if-min-len.false, c.min.ensures)) c.same_16-near.ensures.same,
)
