use Rattle.std.proofs.Common.{◌≡◌, ◌+◌, ◌≤◌, drop, length}
use Rattle.csicodec_screen.specs.Draws.{to_stop}
use Rattle.csicodec_screen.proofs.flags.count_to.Given as goal

abbrev pub invariant-loop-rest : goal.invariant-loop-rest
invariant-loop-rest l = record {
  is : l.count + to_stop l.rest ≡ to_stop (drop l.from l.flags);
  within : l.count + length l.rest ≤ length l.flags;
}

abbrev pub decreases-loop-rest : goal.decreases-loop-rest
decreases-loop-rest l = length l.rest
