use Rattle.std.proofs.{Common.◌∙◌, lemmas.Result.on_ok_weaker}
use Rattle.csicodec_html.proofs.rule.SpanWriterRule.append_text.Goals as goal

pub returns : goal.returns
returns c = on_ok_weaker c.append_text.result (λ written chars shown is. written chars shown (c.split_at.ensures.front ∙ is)) c.append_text.ensures
