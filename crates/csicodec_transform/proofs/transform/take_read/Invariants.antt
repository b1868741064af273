use Rattle.std.proofs.Common.{length}
use Rattle.csicodec_transform.specs.Transform.{AddsFront}
use Rattle.csicodec_transform.proofs.transform.take_read.Given as goal

-- the pieces in front were taken
abbrev pub invariant-loop-rest : goal.invariant-loop-rest
invariant-loop-rest g l = record {
  stands : g.T.Transform.stands l.transform;
  goes : AddsFront g.T.Transform.passes l.initial.transform l.bytes l.rest l.initial.out.items l.out.items l.transform;
}

abbrev pub decreases-loop-rest : goal.decreases-loop-rest
decreases-loop-rest g l = length l.rest
