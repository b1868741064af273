use Rattle.csicodec_clean.proofs.{Common.bare_at, Chunks.over_told, Chunks.to_none, Chunks.to_on}
use Rattle.csicodec_clean.proofs.glance.append_run.Goals as goal

pub loop-more-init : goal.loop-more-init
loop-more-init g c = to_none g.T.Rule.gives c.args.limit (bare_at c.args.rule.now c.args.sets.now c.args.bytes.now) c.args.out.now.items

pub loop-more-preserved : goal.loop-more-preserved
loop-more-preserved g c =
    let gives = g.T.Rule.gives in
    let limit = c.args.limit in
    let text = over_told gives limit c.loop-more.rule c.args.sets.now _ _ _ _ c.requires c.in_ok-told.ensures in
    rw c.split_at.ensures.back (to_on gives limit _ _ _ _ _ _ c.loop-more.invariant (to_on gives limit _ _ _ _ _ _ text c.in_ok-len.ensures.goes))
