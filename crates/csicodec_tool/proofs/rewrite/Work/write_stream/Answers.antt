use Rattle.csicodec_tool.proofs.{Written.cleaned_written, Written.lines_written, Written.logged_written, Written.run_written, Common.◌∙◌, Common.[]}
use Rattle.csicodec_tool.proofs.{Common.longest, Common.refl}
use Rattle.std.specs.Prelude.{⊤}
use Rattle.csicodec_clean.specs.{Cleaned.Strips, Cleaned.drops, Cleaned.ends_bare, Steps.bare, Styled.StylesIn, Styled.first_kept, Styled.keeps, Styled.resets}
use Rattle.csicodec_clean.proofs.{Chunks.takes_none, Plain.strips, Styled.styles}
use Rattle.csicodec_lines.specs.Stream.{begun}
use Rattle.csicodec_lines.proofs.Taken.{passes_none as lines_begun}
use Rattle.csicodec_spans.specs.declared.table.Mode.TheVariants.{Text as Plain}
use Rattle.csicodec_compact.specs.Runs.{CompactsAll}
use Rattle.csicodec_tool.proofs.rewrite.Work.write_stream.Goals as goal

pub returns-in-Filter-true : goal.returns-in-Filter-true
returns-in-Filter-true g c =
    let a = c.in-Filter-true in
    let run = c.filter_all.ensures in
    rw (a.is, ← a.faithful-is, a.faithful-test) (run.ok, run.front)

pub returns-in-Filter : goal.returns-in-Filter
returns-in-Filter g c =
    let a = c.in-Filter in
    let run = c.filter_all-in-Filter.ensures in
    rw (a.is, ← a.faithful-is, a.faithful-test) (run.ok, run.front)

pub returns-in-Compact : goal.returns-in-Compact
returns-in-Compact g c =
    let run = c.compact_all.ensures in
    rw c.in-Compact.is
    (run_written (CompactsAll longest Plain) (CompactsAll longest Plain) c.compact_all.result _ _ _ _ run.ok run.end run.front)

pub transform_as-requires-clause-begun : goal.transform_as-requires-clause-begun
transform_as-requires-clause-begun g c = rw c.stripped.ensures (lines_begun (λ (_ : ⊤). bare) drops ends_bare tt)

pub returns-in-Strip-true-default : goal.returns-in-Strip-true-default
returns-in-Strip-true-default g c =
    let a = c.in-Strip-true-default in
    let run = c.transform_as in
    rw (a.is, ← a.lines-is, a.lines-test, ← a.visible-is)
    (lines_written drops ends_bare (Strips longest) (λ after. ([], refl)) _ (λ (_ : ⊤). bare) (begun (λ (_ : ⊤). bare) tt) refl (strips longest bare)
    run.result _ _ _ _ (rw c.stripped.ensures at run.ensures.ok) (rw c.stripped.ensures at run.ensures.front))

pub transform_as-requires-in-Strip-clause-begun : goal.transform_as-requires-in-Strip-clause-begun
transform_as-requires-in-Strip-clause-begun g c = rw c.new-in-Strip.ensures (takes_none drops _)

pub returns-in-Strip : goal.returns-in-Strip
returns-in-Strip g c =
    let a = c.in-Strip in
    let run = c.transform_as-in-Strip in
    let new = c.new-in-Strip.ensures in
    rw (a.is, ← a.lines-is, a.lines-test, ← a.visible-is)
    (cleaned_written drops ends_bare (Strips longest) (λ after. ([], refl)) _ _ (strips longest _)
    run.result _ _ _ _ (rw new at run.ensures.ok) (rw new at run.ensures.front))

pub returns-in-Overwrite : goal.returns-in-Overwrite
returns-in-Overwrite g c =
    let a = c.in-Overwrite in
    let run = c.transform_as-in-Overwrite in
    let log = c.new-line in
    rw (a.is, ← a.visible-is)
    (logged_written log.result _ a.styles _ run.result _ _ _ _ log.ensures.each (log.ensures.styles ∙ a.styles-is) run.ensures.ok run.ensures.front)

pub returns-in-Log : goal.returns-in-Log
returns-in-Log g c =
    let a = c.in-Log in
    let run = c.transform_as-in-Log in
    let log = c.new-log in
    rw (a.is, ← a.visible-is)
    (logged_written log.result _ a.styles _ run.result _ _ _ _ log.ensures.each (log.ensures.styles ∙ a.styles-is) run.ensures.ok run.ensures.front)

pub transform_as-requires-in-Clean-default-true-default-clause-begun : goal.transform_as-requires-in-Clean-default-true-default-clause-begun
transform_as-requires-in-Clean-default-true-default-clause-begun g c =
    rw c.cleaned-lines.ensures (lines_begun first_kept keeps resets _)

pub returns-in-Clean-default-true-default : goal.returns-in-Clean-default-true-default
returns-in-Clean-default-true-default g c =
    let a = c.in-Clean-default-true-default in
    let run = c.transform_as-in-Clean-default-true-default in
    let d = a.passing in
    rw (a.is, ← a.lines-is, a.lines-test, ← a.visible-is)
    (lines_written keeps resets (StylesIn d) (λ after. (_, refl)) _ first_kept (begun first_kept d) refl (λ line text. styles d _ line text refl)
    run.result _ _ _ _ (rw (c.cleaned-lines.ensures, a.passing-is) at run.ensures.ok) (rw (c.cleaned-lines.ensures, a.passing-is) at run.ensures.front))

pub transform_as-requires-in-Clean-clause-begun : goal.transform_as-requires-in-Clean-clause-begun
transform_as-requires-in-Clean-clause-begun g c = rw (c.new-cleaner.ensures, c.letting.ensures) (takes_none keeps _)

pub returns-in-Clean : goal.returns-in-Clean
returns-in-Clean g c =
    let a = c.in-Clean in
    let run = c.transform_as-in-Clean in
    let new = c.new-cleaner.ensures in
    let d = a.passing in
    rw (a.is, ← a.lines-is, a.lines-test, ← a.visible-is)
    (cleaned_written keeps resets (StylesIn d) (λ after. (_, refl)) _ (first_kept d) (λ bytes text. styles d _ bytes text refl)
    run.result _ _ _ _ (rw (new, c.letting.ensures, a.passing-is) at run.ensures.ok) (rw (new, c.letting.ensures, a.passing-is) at run.ensures.front))

pub returns-in-Html : goal.returns-in-Html
returns-in-Html g c = let a = c.in-Html in rw (a.is, ← a.page-is) c.write_page.ensures

pub returns-in-Screen : goal.returns-in-Screen
returns-in-Screen g c = let a = c.in-Screen in rw (a.is, ← a.display-is) c.show_all.ensures
