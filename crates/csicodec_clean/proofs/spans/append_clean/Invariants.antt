use Rattle.std.proofs.Common.{◌≤◌, length}
use Rattle.csicodec_clean.proofs.Common.{GoesTo, state_of}
use Rattle.csicodec_clean.proofs.spans.append_clean.Given as goal

-- some parts were cut, and what is left of them appended
abbrev pub invariant-loop-rest : goal.invariant-loop-rest
invariant-loop-rest g l = record {
  goes : GoesTo g.T.Rule.gives l.limit (state_of l.initial.rule l.fn.mode l.initial.reading l.bytes l.initial.held.items)
      (state_of l.rule l.cutter.mode l.reading l.cutter.rest.now l.held.items) l.initial.out.items l.out.items;
  short : length l.initial.held.items ≤ 3 → length l.held.items ≤ 3;
}

abbrev pub decreases-loop-rest : goal.decreases-loop-rest
decreases-loop-rest g l = length l.cutter.rest.now
