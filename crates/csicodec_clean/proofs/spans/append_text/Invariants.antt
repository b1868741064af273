use Rattle.std.proofs.Common.{◌≤◌, length}
use Rattle.csicodec_clean.specs.Private.Steps.{DrawsTo}
use Rattle.csicodec_clean.proofs.spans.append_text.Given as goal

-- some bytes were drawn
abbrev pub invariant-loop-rest : goal.invariant-loop-rest
invariant-loop-rest g l = record {
  draws : DrawsTo g.T.Rule.gives.writing l.initial.sets l.initial.held.items l.bytes l.rest l.sets l.held.items l.initial.out.items l.out.items;
  short : length l.initial.held.items ≤ 3 → length l.held.items ≤ 3;
}

abbrev pub decreases-loop-rest : goal.decreases-loop-rest
decreases-loop-rest g l = length l.rest
