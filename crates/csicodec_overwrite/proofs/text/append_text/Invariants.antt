use Rattle.csicodec_overwrite.proofs.Common.{◌≤◌, length}
use Rattle.csicodec_overwrite.specs.Private.Spans.{DrawsTo}
use Rattle.csicodec_overwrite.proofs.text.append_text.Given as goal

-- some bytes were drawn
abbrev pub invariant-loop-rest : goal.invariant-loop-rest
invariant-loop-rest l = record {
  draws : DrawsTo l.initial.sets l.initial.held.items l.bytes l.rest l.sets l.held.items l.initial.steps.items l.steps.items;
  short : length l.initial.held.items ≤ 3 → length l.held.items ≤ 3;
}

abbrev pub decreases-loop-rest : goal.decreases-loop-rest
decreases-loop-rest l = length l.rest
