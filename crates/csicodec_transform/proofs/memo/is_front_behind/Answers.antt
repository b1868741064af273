use Rattle.std.proofs.Common.{arith}
use Rattle.csicodec_transform.proofs.Slots.{same_behind}
use Rattle.csicodec_transform.proofs.memo.is_front_behind.Goals as goal

pub returns : goal.returns
returns c = λ _.
    same_behind c.args.bytes.now c.args.known.now 16 32 c.same_32-far.result c.args.len (omega (arith, c.requires.long)) (omega (arith, c.told-known)) (omega (arith, c.requires.more))
    (omega (arith, c.if-len-min.false, c.min.ensures)) (omega (arith, c.if-len-min.false, c.min.ensures)) c.requires.near
    (rw (c.split_at.ensures.back, c.split_at-2.ensures.back) at c.same_32-far.ensures.same)
