use Rattle.std.proofs.lemmas.Result.{IfOk-weaker}
use Rattle.csicodec_clean.proofs.Styled.{cleaned_marked, styled, styles}
use Rattle.csicodec_clean.proofs.styles.clean_with.Goals as goal

pub returns : goal.returns
returns c =
    let d = c.args.passing in
    let exact =
    IfOk-weaker c.clean_whole.result _ _ (λ out h. styles d c.letting.result c.args.bytes.now out.items c.letting.ensures h) c.clean_whole.ensures in
    record {
      exact = exact;
      safe = IfOk-weaker c.clean_whole.result _ _ (λ out h. styled d c.args.bytes.now out.items h) exact;
      marked = IfOk-weaker c.clean_whole.result _ _ (λ out h. cleaned_marked d c.args.bytes.now out.items h) exact;
    }
