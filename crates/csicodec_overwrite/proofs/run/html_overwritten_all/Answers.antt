use Rattle.csicodec_overwrite.proofs.Common.{[], ◌++◌, refl, sym, subst, append-nil, on_err_weaker, on_ok_weaker, Page, Paints, begun_as}
use Rattle.csicodec_overwrite.proofs.{Same.painted_page, Written.begins, Written.passes_none, Written.transformed}
use Rattle.csicodec_clean.proofs.Paired.{is_page}
use Rattle.csicodec_overwrite.proofs.run.html_overwritten_all.Goals as goal

pub transform_all-requires-clause-begun : goal.transform_all-requires-clause-begun
transform_all-requires-clause-begun g c = rw c.writing-pages.ensures (passes_none (begun_as (Page c.args.markup)) refl)

pub returns-clause-ok : goal.returns-clause-ok
returns-clause-ok g c = on_ok_weaker c.transform_all.result
    (λ (bytes, page, consumed, end, whole, appended).
    let m = c.args.markup in
    let (painted, paints, made) = painted_page m bytes page (transformed (Page m) bytes page whole) in
    (bytes, painted, page, consumed, paints, made, is_page m painted page made, appended))
    (rw c.writing-pages.ensures at c.transform_all.ensures.ok)

pub returns-clause-front : goal.returns-clause-front
returns-clause-front g c = on_err_weaker c.transform_all.result
    (λ (bytes, more, sent, consumed, begun, appended).
    let m = c.args.markup in
    let (unsent, shown) = begins (Page m) _ bytes sent begun in
    let (painted, paints, made) = painted_page m bytes (sent ++ unsent) shown in
    (bytes, more, painted, [], sent, unsent, consumed, subst (Paints bytes) (sym (append-nil painted)) paints, made, is_page m painted (sent ++ unsent) made, appended))
    (rw c.writing-pages.ensures at c.transform_all.ensures.front)
