use Rattle.std.proofs.Common.{◌∙◌, sym}
use Rattle.csicodec_screen.proofs.Ends.{trimmed_here, trimmed_more}
use Rattle.csicodec_screen.specs.Views.{is_blank}
use Rattle.csicodec_screen.proofs.views.trimmed.Goals as goal

pub returns-then-not-is_blank : goal.returns-then-not-is_blank
returns-then-not-is_blank c =
    trimmed_here is_blank c.loop-last.rest.now c.in-Some.front.now c.args.cells.now c.in-Some.last.now c.in-Some.ensures.cases.0 (sym c.is_blank.ensures ∙ c.if-not-is_blank.true) c.loop-last.invariant

pub loop-last-preserved : goal.loop-last-preserved
loop-last-preserved c =
    trimmed_more is_blank c.loop-last.rest.now c.in-Some.front.now c.args.cells.now c.in-Some.last.now c.in-Some.ensures.cases.0 (sym c.is_blank.ensures ∙ c.if-not-is_blank.false) c.loop-last.invariant
