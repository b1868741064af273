use Rattle.std.proofs.Common.{◌∙◌, ap, sym}
use Rattle.csicodec_html.proofs.{Common.Setting, Paired.gives_none}
use Rattle.csicodec_html.proofs.rule.SpanWriterRule.reads_strings.Goals as goal

pub returns : goal.returns
returns c = λ none byte. gives_none c.args.self.now byte (sym (ap (λ (s : Setting). s.markup.links) c.self.view_is) ∙ none)
