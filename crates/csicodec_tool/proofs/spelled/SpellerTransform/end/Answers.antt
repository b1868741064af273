use Rattle.csicodec_tool.proofs.Common.{on_ok_weaker, ◌∙◌, ap}
use Rattle.csicodec_tool.specs.Spelled.{spelled_text}
use Rattle.csicodec_tool.proofs.spelled.SpellerTransform.end.Goals as goal

pub returns : goal.returns
returns g c =
    let (plain, ends, longer) = c.in_ok-end.ensures in
    on_ok_weaker c.append_spelled.result
    (λ out. (spelled_text c.deref.result.now, (plain, ends, ap spelled_text (c.deref.ensures.value ∙ longer)), out))
    c.append_spelled.ensures
