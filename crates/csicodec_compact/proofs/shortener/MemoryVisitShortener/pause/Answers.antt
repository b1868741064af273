use Rattle.csicodec_compact.proofs.{Beside.pause_does, Common.on_ok_weaker, Common.closing}
use Rattle.csicodec_compact.proofs.shortener.MemoryVisitShortener.pause.Goals as goal

pub returns : goal.returns
returns c = on_ok_weaker c.close_into.result
    (λ out. (closing c.args.visitor.now.written.form, pause_does c.args.visitor.now (record c.args.visitor.now { written = c.close_into.new.self }) c.close_into.ensures.form, out))
    c.close_into.ensures.text
