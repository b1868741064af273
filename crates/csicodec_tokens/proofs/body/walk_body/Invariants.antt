use Rattle.std.proofs.Common.{length}
use Rattle.csicodec_tokens.specs.Private.Walking.{IsWalked}
use Rattle.csicodec_tokens.proofs.body.walk_body.Given as goal

abbrev pub invariant-loop-rest : goal.invariant-loop-rest
invariant-loop-rest l = IsWalked l.number l.bytes l.last l.rest

abbrev pub decreases-loop-rest : goal.decreases-loop-rest
decreases-loop-rest l = length l.rest
