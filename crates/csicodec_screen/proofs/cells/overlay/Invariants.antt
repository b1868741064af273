use Rattle.std.proofs.Common.{◌≡◌, ◌≤◌, drop, length}
use Rattle.csicodec_screen.specs.Lists.{overlaid, within}
use Rattle.csicodec_screen.proofs.cells.overlay.Given as goal

abbrev pub invariant-loop-cell : goal.invariant-loop-cell
invariant-loop-cell l = record {
  is : within l.at l.end (overlaid (drop l.cell-index l.new)) l.cells.items ≡ within l.start l.end (overlaid l.new) l.fn.cells.items;
  len : length l.cells.items ≡ length l.fn.cells.items;
  at : l.at ≤ l.end;
}
