use Rattle.std.proofs.Common.{◌∙◌, sym}
use Rattle.csicodec_clean.proofs.Rendered.{adds_none, hidden}
use Rattle.csicodec_clean.proofs.rendition.Rendition.take_style.Goals as goal

pub returns-then-hides : goal.returns-then-hides
returns-then-hides c =
    let p = c.args.passing in
    let hides = sym c.hides.ensures ∙ c.if-hides.true in
    adds_none c.args.self.now c.args.out.now.items _ _ (λ r. (hidden p r c.args.style.now hides).0) (λ r. (hidden p r c.args.style.now hides).1)
