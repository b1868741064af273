use Rattle.std.proofs.{Common.◌∙◌, Common.sym, Common.arith, lemmas.Slice.Eq.bytes_eq-Decides}
use Rattle.csicodec_clean.proofs.Rendered.{kept_by, next_same}
use Rattle.csicodec_clean.proofs.rendition.StyleTexts.is_same.Goals as goal

pub loop-at-preserved : goal.loop-at-preserved
loop-at-preserved c =
    let here = c.loop-at-test.true in
    record {
      few = omega (arith, here);
      many = λ some. (c.text.ensures.many, c.text-in-loop-at.ensures.many);
      same = next_same c.args.self.now c.args.other.now c.loop-at.at (omega (arith, c.text.ensures.many, here)) (omega (arith, c.text-in-loop-at.ensures.many, here)) c.loop-at.invariant.same
          (sym c.text.ensures.own ∙ (bytes_eq-Decides c.text.result.now c.text-in-loop-at.result.now).0 (kept_by _ (sym c.ne.ensures ∙ c.if-ne.false)) ∙ c.text-in-loop-at.ensures.own);
    }
