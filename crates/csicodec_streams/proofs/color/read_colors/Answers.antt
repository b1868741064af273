use Rattle.std.proofs.Common.{arith}
use Rattle.csicodec_streams.proofs.{Colors.color_read, Colors.color_stands, Colors.colors_read, OneReading.byte_cut, OneReading.two_cut}
use Rattle.csicodec_streams.proofs.color.read_colors.Goals as goal

pub returns-in-109-clause-read : goal.returns-in-109-clause-read
returns-in-109-clause-read c =
    let first = c.in_ok-first in
    color_read c.args.bytes.now _ first.first
    (color_stands c.args.bytes.now _ _ _ first.first (two_cut c.args.bytes.now 27 91 c.in-27.len_at_least (omega arith) (omega arith)) first.ensures
    (byte_cut first.end.now 109 c.in-109.len_at_least (omega arith)))

pub returns-in-109-last-clause-read : goal.returns-in-109-last-clause-read
returns-in-109-last-clause-read c =
    let first = c.in_ok-first in
    let second = c.in_ok-second-in-59 in
    colors_read c.args.bytes.now _ _ _ _ _ first.first second.second (two_cut c.args.bytes.now 27 91 c.in-27.len_at_least (omega arith) (omega arith))
    first.ensures (byte_cut first.end.now 59 c.in-59.len_at_least (omega arith)) second.ensures
    (byte_cut second.last.now 109 c.in-109-last.len_at_least (omega arith))
