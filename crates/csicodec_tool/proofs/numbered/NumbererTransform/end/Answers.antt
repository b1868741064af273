use Rattle.csicodec_tool.proofs.Common.{◌≡◌, ◌∙◌, ◌++◌, ap, refl}
use Rattle.csicodec_tool.specs.Numbered.{numbered}
use Rattle.csicodec_tool.proofs.numbered.NumbererTransform.end.Goals as goal

pub returns : goal.returns
returns g c =
    let (plain, ends, longer) = c.in_ok-end.ensures in
    let old = c.args.self.now in
    let text : c.deref.result.now ≡ plain = c.deref.ensures.value ∙ longer ∙ ap (λ t. t ++ plain) c.clear.ensures.items in
    (numbered old.place plain, (plain, ends, refl), c.in_ok-_last.ensures.text ∙ ap (λ t. c.args.out.now.items ++ numbered old.place t) text)
