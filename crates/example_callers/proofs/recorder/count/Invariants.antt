use Rattle.std.proofs.Common.{◌≡◌}
use Rattle.example_callers.specs.Counts.{total}
use Rattle.example_callers.proofs.recorder.count.Given as goal

-- each action up to here is counted once
abbrev pub invariant-loop-action : goal.invariant-loop-action
invariant-loop-action l = total l.counts ≡ l.action-index
