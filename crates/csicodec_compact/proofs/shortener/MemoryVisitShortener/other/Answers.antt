use Rattle.std.proofs.Common.{take}
use Rattle.csicodec_compact.proofs.{Beside.other_writes, Common.on_ok_weaker}
use Rattle.csicodec_compact.proofs.shortener.MemoryVisitShortener.other.Goals as goal

pub returns : goal.returns
returns c = on_ok_weaker c.pass.result
    (λ out k events ne span.
    other_writes k c.args.visitor.now (record c.args.visitor.now { written = c.pass.new.self }) events (take c.args.len c.args.bytes.now) c.args.out.now c.pass.new.out
    c.pass.ensures.form out ne span)
    c.pass.ensures.text
