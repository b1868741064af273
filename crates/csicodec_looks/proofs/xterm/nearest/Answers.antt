use Rattle.std.proofs.Common.{◌+◌, ◌∙◌, ap, refl, inl, inr, arith}
use Rattle.csicodec_looks.proofs.{Common.distance, Reduced.step_on}
use Rattle.csicodec_looks.proofs.xterm.nearest.Goals as goal

pub loop-place-preserved-then-here-least : goal.loop-place-preserved-then-here-least
loop-place-preserved-then-here-least c =
    let l = c.loop-place in
    let here = c.distance-here.ensures ∙ ap (distance c.args.color) c.palette-in-loop-place.ensures in
    let same = step_on c.args.color l.best l.place c.args.last l.least c.distance-here.result
    (l.place + 1) c.loop-place-test.true l.invariant.least here (inl (c.if-here-least.true, refl)) in
    record { within = omega (arith, c.loop-place-test.true); least = here; same = same ∙ l.invariant.same }

pub loop-place-preserved : goal.loop-place-preserved
loop-place-preserved c =
    let l = c.loop-place in
    let here = c.distance-here.ensures ∙ ap (distance c.args.color) c.palette-in-loop-place.ensures in
    let same = step_on c.args.color l.best l.place c.args.last l.least c.distance-here.result l.best c.loop-place-test.true l.invariant.least here
    (inr (c.if-here-least.false, refl)) in
    record { within = omega (arith, c.loop-place-test.true); least = l.invariant.least; same = same ∙ l.invariant.same }
