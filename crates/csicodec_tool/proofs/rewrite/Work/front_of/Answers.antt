use Rattle.csicodec_tool.proofs.{Common.rules, Written.unbegun}
use Rattle.csicodec_tool.proofs.rewrite.Work.front_of.Goals as goal

pub returns-in-Html-default-default-false-false : goal.returns-in-Html-default-default-false-false
returns-in-Html-default-default-false-false c =
    let page = c.in-Html-default-default-false-false in
    rw (unbegun _ _ _ _ _ page.is (search rules) (search rules), ← page.heading-is, ← page.page-is) c.page_front.ensures
