use Rattle.std.proofs.Common.{arith}
use Rattle.csicodec_streams.proofs.{Colors.palette_color, Colors.true_color, OneReading.byte_cut, OneReading.two_cut}
use Rattle.csicodec_streams.proofs.color.color_front.Goals as goal

pub returns-then-kind-eq53 : goal.returns-then-kind-eq53
returns-then-kind-eq53 c = palette_color _ _ _ _ (two_cut c.args.bytes.now 53 59 c.in-59.len_at_least (omega (arith, c.if-kind-eq53.true)) (omega arith)) c.in_ok-first.ensures

pub returns : goal.returns
returns c =
    true_color _ _ _ _ _ _ _ _ _ _ (two_cut c.args.bytes.now 50 59 c.in-59.len_at_least (omega (arith, c.if-kind-ne50.false)) (omega arith)) c.in_ok-first.ensures
    (byte_cut c.in_ok-first.rest.now 59 c.in-59-rest.len_at_least (omega arith)) c.in_ok-green.ensures (byte_cut c.in_ok-green.next.now 59 c.in-59-next.len_at_least (omega arith)) c.in_ok-blue.ensures
