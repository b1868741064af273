use Rattle.std.proofs.Common.{arith}
use Rattle.csicodec_streams.specs.Colors.{plane_byte}
use Rattle.csicodec_streams.proofs.Colors.{painted_stands, three_cut}
use Rattle.csicodec_streams.proofs.color.painted_front.Goals as goal

pub returns : goal.returns
returns c =
    let (plane, digit, is) = c.in_ok-painted.ensures in
    painted_stands plane c.in_ok-color.color _ c.args.bytes.now _ c.in_ok-color.rest.now is
    (three_cut c.args.bytes.now (plane_byte plane) 56 59 c.in-56.len_at_least digit (omega arith) (omega arith)) c.in_ok-color.ensures
