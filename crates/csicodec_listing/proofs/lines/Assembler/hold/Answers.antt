use Rattle.csicodec_listing.proofs.{Common.arith, Joined.refused_long}
use Rattle.csicodec_listing.proofs.lines.Assembler.hold.Goals as goal

pub returns-then-bytes-len-clause-told : goal.returns-then-bytes-len-clause-told
returns-then-bytes-len-clause-told g c =
    let same = c.args.self.now.line.ok.0 in
    let bound = c.args.self.now.bounded in
    let len = c.len.ensures in
    let long = c.if-bytes-len.true in
    refused_long c.args.self.now.line.items c.args.bytes.now c.requires (omega (arith, same, bound, len, long))
