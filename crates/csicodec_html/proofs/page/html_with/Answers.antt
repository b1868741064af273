use Rattle.std.proofs.lemmas.Result.{IfOk-weaker}
use Rattle.csicodec_html.proofs.{Paired.page_of, MarkupBytes.made_markup}
use Rattle.csicodec_clean.proofs.Paired.{is_page}
use Rattle.csicodec_html.proofs.page.html_with.Goals as goal

pub returns : goal.returns
returns c =
    let m = c.args.markup in
    let bytes = c.args.bytes.now in
    let exact = IfOk-weaker c.clean_whole.result _ _ (λ out h. page_of m c.new.result bytes out.items c.new.ensures h) c.clean_whole.ensures in
    record {
      exact = exact;
      safe = IfOk-weaker c.clean_whole.result _ _ (λ out h. is_page m bytes out.items h) exact;
      tags = IfOk-weaker c.clean_whole.result _ _ (λ out h. made_markup m bytes out.items h) exact;
    }
