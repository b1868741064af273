use Rattle.std.proofs.Common.{refl}
use Rattle.csicodec_html.proofs.{Common.Ends, Common.longest, Common.IsPageWith, Common.PageWith, Common.first_set, Common.closes, Common.turns, Paired.page_of}
use Rattle.csicodec_clean.proofs.{Paired.is_page, Chunks.ends, Streams.ran}
use Rattle.csicodec_clean.specs.Stream.{Closing, Takes, start_of}
use Rattle.csicodec_html.proofs.run.html_all_with.Goals as goal

pub returns : goal.returns
returns g c =
    let m = c.args.markup in
    let s = first_set m in
    ran (Takes turns) (Closing turns closes) (start_of s) (Ends turns closes longest s) (PageWith m) (IsPageWith m)
    (λ bytes page rest last takes (close, closing, shown). rw shown (page_of m s bytes _ refl (ends turns closes s bytes page close last takes closing))) (λ bytes page h. page_of m s bytes page refl h)
    (λ last. (_, (_, refl, refl))) (is_page m) c.clean_run.result _ _ _ _ (rw c.new.ensures at c.clean_run.ensures.ok) (rw c.new.ensures at c.clean_run.ensures.front)
