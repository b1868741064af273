use Rattle.csicodec_clean.proofs.{Common.shown, Told.behind_front, Told.further}
use Rattle.csicodec_clean.proofs.wide.behind_wide.Goals as goal

pub loop-rest-preserved : goal.loop-rest-preserved
loop-rest-preserved c =
    let rest = c.loop-rest.rest.now in
    rw c.split_at.ensures.back (record { shown = further shown c.args.bytes.now rest _ c.loop-rest.invariant.shown (behind_front shown rest _ c.front_len-len.ensures.shown) })
