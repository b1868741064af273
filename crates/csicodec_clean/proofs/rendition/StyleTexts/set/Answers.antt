use Rattle.std.proofs.Common.{◌∙◌, List, ℕ, ap, sym, take, slice_set}
use Rattle.csicodec_clean.proofs.Rendered.{fronts_set, take_twice}
use Rattle.csicodec_clean.proofs.rendition.StyleTexts.set.Goals as goal

pub returns-in-Some : goal.returns-in-Some
returns-in-Some c =
    let v = c.self.inside in
    let front = c.in-Some.front.now in
    let at = c.args.attribute in
    let n = c.args.len in
    fronts_set v.lens v.texts at n front (c.self.told.0 ∙ sym c.self.told.1) ∙ ap (λ (x : List (List ℕ)). slice_set x at (take n front)) c.self.view_is
    ∙ ap (slice_set c.args.self.now at) (ap (take n) c.in-Some.ensures.cases.same ∙ take_twice n 32 c.args.bytes.now c.requires.len.0)
