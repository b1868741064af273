use Rattle.std.proofs.Common.{arith}
use Rattle.csicodec_transform.proofs.Slots.{same_in_front}
use Rattle.csicodec_looks.proofs.Recalled.{same_look}
use Rattle.csicodec_looks.proofs.turns.Turn.fits.Goals as goal

pub returns-then-self-min : goal.returns-then-self-min
returns-then-self-min c = λ same. (
  omega (arith, c.if-self-front.false),
  omega (arith, c.if-self-front-2.false),
  omega (arith, c.if-front-lt-LONGEST.false, c.if-self-min.true, c.min.ensures),
  same_in_front c.args.front.bytes.now c.args.self.now.bytes 32 c.same_32-same.result c.args.self.now.len
      (omega (arith, c.if-self-min.true, c.min.ensures)) (omega (arith, c.if-self-min.true, c.min.ensures)) c.same_32-same.ensures.same,
  same_look _ _ (rw c.eq.ensures at same),
)
