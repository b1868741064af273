use Rattle.csicodec_tool.proofs.{Common.[], Common.append-nil, Common.on_ok_weaker, Common.sym, Screened.goes_shown}
use Rattle.csicodec_tool.proofs.shown.ShownTransform.take.Goals as goal

pub returns-clause-passes : goal.returns-clause-passes
returns-clause-passes c =
    on_ok_weaker c.send.result
    (λ fed. ([], goes_shown c.args.self.now c.send.new.self c.args.bytes.now c.send.ensures.display fed, sym (append-nil c.args._out.now.items)))
    c.send.ensures.fed
