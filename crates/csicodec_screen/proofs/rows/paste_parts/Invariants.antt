use Rattle.std.proofs.Common.{◌≡◌, ◌≤◌, drop, length}
use Rattle.csicodec_screen.specs.{Lists.within, Rows.with_segments}
use Rattle.csicodec_screen.proofs.rows.paste_parts.Given as goal

abbrev pub invariant-loop-part : goal.invariant-loop-part
invariant-loop-part l = record {
  is : within l.at l.end (with_segments l.area.first l.area.last (drop l.part-index l.parts)) l.rows.items ≡ within l.start l.end (with_segments l.area.first l.area.last l.parts) l.fn.rows.items;
  len : length l.rows.items ≡ length l.fn.rows.items;
  at : l.at ≤ l.end;
}
