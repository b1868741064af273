use Rattle.std.proofs.Common.{◌≡◌, length}
use Rattle.csicodec_screen.specs.{Lists.filled, Lists.within, Private.Changes.row_of}
use Rattle.csicodec_screen.proofs.rows.reset_rows.Given as goal

abbrev pub invariant-loop-i : goal.invariant-loop-i
invariant-loop-i l = record {
  is : within l.i l.end (filled (row_of l.like)) l.rows.items ≡ within l.start l.end (filled (row_of l.like)) l.fn.rows.items;
  len : length l.rows.items ≡ length l.fn.rows.items;
}
