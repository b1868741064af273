use Rattle.csicodec_clean.proofs.{Common.shown, Told.further, Told.plain_behind}
use Rattle.csicodec_clean.proofs.wide.behind_shown.Goals as goal

pub loop-rest-init : goal.loop-rest-init
loop-rest-init c = record { shown = rw c.behind-rest.ensures (plain_behind c.args.bytes.now) }

pub loop-rest-preserved : goal.loop-rest-preserved
loop-rest-preserved c =
    let bytes = c.args.bytes.now in
    let rest = c.loop-rest.rest.now in
    let mid = c.behind_wide-further.result.now in
    let passed = further shown bytes rest mid c.loop-rest.invariant.shown c.behind_wide-further.ensures in
    rw c.behind-rest-in-loop-rest.ensures (record { shown = further shown bytes mid _ passed (plain_behind mid) })
