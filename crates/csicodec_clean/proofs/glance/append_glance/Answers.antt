use Rattle.std.proofs.Common.{◌≤◌, length, ap, length-append, arith}
use Rattle.csicodec_clean.proofs.{Common.bare_at, Common.common_steps, Chunks.smaller, Chunks.to_none, Chunks.to_on, Chunks.to_split}
use Rattle.csicodec_clean.proofs.glance.append_glance.Goals as goal

pub loop-more-init : goal.loop-more-init
loop-more-init g c = to_none g.T.Rule.gives c.args.limit (bare_at c.args.rule.now c.args.sets.now c.args.bytes.now) c.args.out.now.items

pub loop-more-smaller : goal.loop-more-smaller
loop-more-smaller g c =
    let rest = c.loop-more.rest.now in
    let told = c.in_ok-behind.behind.now in
    let (front, split) = to_split g.T.Rule.gives c.args.limit _ _ _ _ c.in_ok-behind.ensures in
    let within : length told ≤ length rest = omega (arith, ap length split, length-append front told) in
    let less = smaller rest told c.in_ok-len.len within c.in_ok-len.ensures.within in
    grind (arith, common_steps, c.split_at.ensures.back, c.loop-more-test.true, less)

pub loop-more-preserved : goal.loop-more-preserved
loop-more-preserved g c =
    let gives = g.T.Rule.gives in
    let limit = c.args.limit in
    rw c.split_at.ensures.back (to_on gives limit _ _ _ _ _ _ c.loop-more.invariant (to_on gives limit _ _ _ _ _ _ c.in_ok-behind.ensures c.in_ok-len.ensures.goes))
