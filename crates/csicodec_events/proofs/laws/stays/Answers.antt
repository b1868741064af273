use Rattle.csicodec_events.proofs.Run.{control_more, csi_more}
use Rattle.csicodec_events.proofs.laws.stays.Goals as goal

pub returns-clause-control : goal.returns-clause-control
returns-clause-control c = control_more

pub returns-clause-csi : goal.returns-clause-csi
returns-clause-csi c = csi_more
