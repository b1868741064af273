use Rattle.std.proofs.Common.{◌≡◌}
use Rattle.csicodec_events.proofs.Forms.{as_output}
use Rattle.csicodec_events.specs.declared.event.Event.{Event}
use Rattle.csicodec_c.proofs.input.put_event.Goals as goal

pub returns-in-Output-Csi : goal.returns-in-Output-Csi
returns-in-Output-Csi c = λ dialect e after whole rest list sent.
    let arm = c.in-Output-Csi in
    let is : arm.field-0 ≡ Event.Csi arm.field-0-0 = rw arm.is at arm.field-0-is in
    let told = rw is at (as_output dialect e whole arm.field-0 c.args.bytes.now rest list after (rw arm.is at sent)) in
    rw (arm.is, is) (c.lay_read.ensures list arm.field-0-0 told.1.seq)
