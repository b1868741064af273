use Rattle.std.proofs.Common.{◌∙◌, [], append-nil, sym}
use Rattle.csicodec_html.proofs.Paired.{escape_none, none_is}
use Rattle.csicodec_html.proofs.rule.SpanWriterRule.escape.Goals as goal

pub invariant_of-self : goal.invariant_of-self
invariant_of-self c = rw c.stand.ensures c.self.invariant

pub returns-then-is_none : goal.returns-then-is_none
returns-then-is_none c =
    let none = none_is c.escape_effect-effect.result c.is_none.result c.is_none.ensures c.if-is_none.true in
    ([], escape_none c.args.self.now c.args.bytes.now (sym c.escape_effect-effect.ensures ∙ none), sym (append-nil c.args.out.now.items))
