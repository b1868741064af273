use Rattle.std.proofs.Common.{◌≡◌, length}
use Rattle.std.specs.Prelude.{replicate}
use Rattle.csicodec_screen.specs.Lists.{filled, within}
use Rattle.csicodec_screen.proofs.rows.reset_parts.Given as goal

abbrev pub invariant-loop-i : goal.invariant-loop-i
invariant-loop-i l = record {
  is : within l.i l.end (filled (replicate l.like.columns l.like.cell)) l.parts.items ≡ within l.start l.end (filled (replicate l.like.columns l.like.cell)) l.fn.parts.items;
  len : length l.parts.items ≡ length l.fn.parts.items;
}
