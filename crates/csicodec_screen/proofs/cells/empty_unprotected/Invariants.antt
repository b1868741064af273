use Rattle.std.proofs.Common.{◌≡◌, length, false}
use Rattle.csicodec_screen.specs.{Cells.unprotected, Lists.within}
use Rattle.csicodec_screen.proofs.cells.empty_unprotected.Given as goal

abbrev pub invariant-loop-i : goal.invariant-loop-i
invariant-loop-i l = record {
  is : within l.i l.end (unprotected l.background l.keeps) l.cells.items ≡ within l.start l.end (unprotected l.background false) l.fn.cells.items;
  len : length l.cells.items ≡ length l.fn.cells.items;
}
