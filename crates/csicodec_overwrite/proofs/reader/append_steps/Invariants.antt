use Rattle.csicodec_overwrite.proofs.Common.{◌≡◌, ◌≤◌, ℕ, List, ◌++◌, length, GoesTo}
use Rattle.csicodec_overwrite.proofs.reader.append_steps.Given as goal

-- some spans were cut, and their steps appended
abbrev pub invariant-loop-span : goal.invariant-loop-span
invariant-loop-span l = record {
  parts : (front : List ℕ) × (l.bytes ≡ front ++ l.cutter.rest.now);
  goes : GoesTo l.fn.mode l.initial.reading l.initial.held.items l.bytes l.cutter.rest.now l.cutter.mode l.reading l.held.items l.initial.steps.items l.steps.items;
  short : length l.initial.held.items ≤ 3 → length l.held.items ≤ 3;
}

abbrev pub decreases-loop-span : goal.decreases-loop-span
decreases-loop-span l = length l.cutter.rest.now
