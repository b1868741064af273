use Rattle.std.proofs.Common.{subst}
use Rattle.csicodec_tokens.specs.Fault.{FaultOf}
use Rattle.csicodec_spans.proofs.input.Input.behind_csi.Goals as goal

pub returns-in-Err-clause-refused : goal.returns-in-Err-clause-refused
returns-in-Err-clause-refused c = subst (λ t. FaultOf t c.in-Err.error) c.near-near.ensures c.in-Err.ensures.refused
