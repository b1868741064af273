use Rattle.csicodec_spans.proofs.Driven.{tells_none, tells_on}
use Rattle.csicodec_spans.proofs.driver.tell_front.Goals as goal

pub returns-in_default : goal.returns-in_default
returns-in_default g c = tells_none g.M.Visit.does _ c.args.out.now

pub loop-len-init : goal.loop-len-init
loop-len-init g c = tells_none g.M.Visit.does _ c.args.out.now

pub loop-len-preserved : goal.loop-len-preserved
loop-len-preserved g c = rw c.split_at.ensures.back (tells_on g.M.Visit.does _ _ _ _ _ _ c.loop-len.invariant c.in_ok-len.ensures.tells)

pub returns-then-len-eq0 : goal.returns-then-len-eq0
returns-then-len-eq0 g c = rw c.in-Text.is (tells_on g.M.Visit.does _ _ _ _ _ _ c.loop-len.invariant (rw c.if-len-eq0.true at c.in_ok-len.ensures.tells))
