use Rattle.std.proofs.Common.{◌∙◌, length, sym, ap}
use Rattle.csicodec_clean.proofs.Rendered.{fronts_long}
use Rattle.csicodec_clean.proofs.rendition.StyleTexts.text.Goals as goal

pub returns-clause-many : goal.returns-clause-many
returns-clause-many c =
    let v = c.self.inside in
    let (lens, texts) = c.self.told in
    sym (ap length c.self.view_is) ∙ fronts_long v.lens v.texts (lens ∙ sym texts) ∙ lens
