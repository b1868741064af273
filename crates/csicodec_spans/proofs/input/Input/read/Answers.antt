use Rattle.std.proofs.Common.{subst, vec_capacity}
use Rattle.csicodec_tokens.specs.Fault.{Refuses}
use Rattle.csicodec_spans.proofs.input.Input.read.Goals as goal

pub returns-in-Err-clause-refused : goal.returns-in-Err-clause-refused
returns-in-Err-clause-refused c = subst (λ t. Refuses t (vec_capacity c.args.params.now) c.in-Err.error) c.near-near.ensures c.in-Err.ensures.refused
