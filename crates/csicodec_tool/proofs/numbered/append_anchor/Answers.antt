use Rattle.csicodec_tool.proofs.Common.{◌∙◌, ◌++◌, ap}
use Rattle.csicodec_tool.proofs.numbered.append_anchor.Goals as goal

pub returns : goal.returns
returns c =
    c.in_ok-extend_from_slice.ensures.items ∙ ap (λ t. c.args.out.now.items ++ t) (c.as_bytes.ensures.value ∙ c.in_ok-text.ensures.ok)
