use Rattle.csicodec_transform.proofs.Sent.{SoFar}
use Rattle.csicodec_transform.proofs.transform.transform_all.Given as goal

-- what is sure of the bytes that were read has been written
abbrev pub invariant-loop : goal.invariant-loop
invariant-loop g l = record {
  stands : g.T.Transform.stands l.now;
  passed : SoFar g.T.Transform.passes l.fn.transform l.now (g.R.Read.remaining l.initial.input) (g.R.Read.remaining l.input) (g.W.Write.contents l.initial.output)
      (g.W.Write.contents l.output);
}
