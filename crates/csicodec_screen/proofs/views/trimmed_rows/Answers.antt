use Rattle.std.proofs.Common.{◌∙◌, sym}
use Rattle.csicodec_screen.proofs.Ends.{trimmed_here, trimmed_more}
use Rattle.csicodec_screen.specs.Views.{is_bare}
use Rattle.csicodec_screen.proofs.views.trimmed_rows.Goals as goal

pub returns-then-not-branch : goal.returns-then-not-branch
returns-then-not-branch c =
    trimmed_here is_bare c.loop-last.rest.now c.in-Some.front.now c.args.rows.now c.in-Some.last.now c.in-Some.ensures.cases.0 (sym c.in_ok-is_bare.ensures ∙ c.if-not-branch.true) c.loop-last.invariant

pub loop-last-preserved : goal.loop-last-preserved
loop-last-preserved c =
    trimmed_more is_bare c.loop-last.rest.now c.in-Some.front.now c.args.rows.now c.in-Some.last.now c.in-Some.ensures.cases.0 (sym c.in_ok-is_bare.ensures ∙ c.if-not-branch.false) c.loop-last.invariant
