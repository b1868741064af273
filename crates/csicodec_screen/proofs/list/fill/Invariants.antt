use Rattle.std.proofs.Common.{◌≡◌, length}
use Rattle.csicodec_screen.specs.Lists.{filled, within}
use Rattle.csicodec_screen.proofs.list.fill.Given as goal

abbrev pub invariant-loop-i : goal.invariant-loop-i
invariant-loop-i g l = record {
  is : within l.i l.end (filled l.value) l.list.items ≡ within l.start l.end (filled l.value) l.fn.list.items;
  len : length l.list.items ≡ length l.fn.list.items;
}
