use Rattle.csicodec_tool.proofs.{Common.refl, Written.page_written, Written.painted_sure, Written.painted_whole, Written.tagged_sure, Written.tagged_whole}
use Rattle.csicodec_clean.specs.Page.{first_set}
use Rattle.csicodec_clean.proofs.Chunks.{takes_none}
use Rattle.csicodec_looks.specs.declared.marking.Marking.TheVariants.{Page}
use Rattle.csicodec_overwrite.specs.Stream.{begun_as}
use Rattle.csicodec_overwrite.proofs.Written.{passes_none}
use Rattle.csicodec_html.specs.Rule.{turns}
use Rattle.csicodec_tool.proofs.rewrite.write_page.Goals as goal

pub write_lines-requires-clause-begun : goal.write_lines-requires-clause-begun
write_lines-requires-clause-begun g c = rw c.writing-lines.ensures (passes_none (begun_as (Page c.args.page.markup)) refl)

pub returns-then-page : goal.returns-then-page
returns-then-page g c =
    let run = c.write_lines in
    let page = c.args.page in
    let new = c.writing-lines.ensures in
    rw c.if-page.true
    (page_written page.ids page.visible _ _ _ run.result _ _ _ _ (painted_whole page.markup) (painted_sure page.markup)
    (rw new at run.ensures.ok) (rw new at run.ensures.front))

pub write_lines-requires-2-clause-begun : goal.write_lines-requires-2-clause-begun
write_lines-requires-2-clause-begun g c = rw (c.new-cleaner.ensures, c.new.ensures) (takes_none turns (first_set c.args.page.markup))

pub returns : goal.returns
returns g c =
    let run = c.write_lines-2 in
    let page = c.args.page in
    let new = c.new-cleaner.ensures in
    rw c.if-page.false
    (page_written page.ids page.visible _ _ _ run.result _ _ _ _ (tagged_whole page.markup) (tagged_sure page.markup)
    (rw (new, c.new.ensures) at run.ensures.ok) (rw (new, c.new.ensures) at run.ensures.front))
