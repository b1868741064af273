use Rattle.std.proofs.Common.{false, arith}
use Rattle.csicodec_streams.proofs.{Colors.color_read, Colors.color_short, Colors.color_stands, OneReading.byte_cut, OneReading.two_cut}
use Rattle.csicodec_streams.proofs.color.read_color.Goals as goal

pub returns-clause-spelled : goal.returns-clause-spelled
returns-clause-spelled c =
    color_stands c.args.bytes.now _ _ _ c.in_ok-sgr.sgr (two_cut c.args.bytes.now 27 91 c.in-27.len_at_least (omega arith) (omega arith)) c.in_ok-sgr.ensures
    (byte_cut c.in_ok-sgr.end.now 109 c.in-109.len_at_least (omega arith))

pub returns-clause-read : goal.returns-clause-read
returns-clause-read c = let (list, reads, are) = color_read c.args.bytes.now _ _ (returns-clause-spelled c) in (list, reads, are false)

pub returns-clause-short : goal.returns-clause-short
returns-clause-short c = color_short c.args.bytes.now _ _ (returns-clause-spelled c)
