use Rattle.csicodec_spans.proofs.Driven.{known_tells, plain_tells, tells_none}
use Rattle.std.proofs.Common.{◌<◌, arith}
use Rattle.csicodec_spans.proofs.driver.tell_at_once.Goals as goal

pub returns-then-matches-clause-tells : goal.returns-then-matches-clause-tells
returns-then-matches-clause-tells g c =
    let own = c.in_ok-len.ensures in
    known_tells g.M.Visit.does c.args.limit c.in_ok-len.len c.args.visitor.now c.csi_at_once.new.visitor c.args.bytes.now c.args.out.now c.csi_at_once.new.out
    c.requires own.within own.short own.known own.none

pub returns-then-len-eq0-clause-tells : goal.returns-then-len-eq0-clause-tells
returns-then-len-eq0-clause-tells g c = tells_none g.M.Visit.does _ c.args.out.now

pub returns-clause-tells : goal.returns-clause-tells
returns-clause-tells g c =
    let some : 0 < c.plain_len-len.result = omega (arith, c.if-len-eq0.false) in
    plain_tells g.M.Visit.does c.args.limit c.plain_len-len.result c.args.visitor.now c.other.new.visitor c.args.bytes.now c.args.out.now c.other.new.out
    c.requires (c.plain_len-len.ensures.plain some) c.in_ok-other.ensures
