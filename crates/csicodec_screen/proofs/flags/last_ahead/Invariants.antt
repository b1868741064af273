use Rattle.std.proofs.Common.{◌≡◌, ◌≤◌, drop, take}
use Rattle.csicodec_screen.specs.Draws.{last_stop}
use Rattle.csicodec_screen.proofs.flags.last_ahead.Given as goal

abbrev pub invariant-loop-i : goal.invariant-loop-i
invariant-loop-i l = record {
  is : last_stop l.last l.i (drop l.i (take l.to l.flags)) ≡ last_stop 0 0 (take l.to l.flags);
  within : l.last ≤ l.i;
}
