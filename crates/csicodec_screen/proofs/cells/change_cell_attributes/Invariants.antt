use Rattle.std.proofs.Common.{◌≡◌, length}
use Rattle.csicodec_screen.specs.{Areas.attributes_changed, Private.Changes.look_behind}
use Rattle.csicodec_screen.proofs.cells.change_cell_attributes.Given as goal

abbrev pub invariant-loop-i : goal.invariant-loop-i
invariant-loop-i l = record {
  is : attributes_changed (look_behind l.turns l.fields) l.i l.end l.cells.items ≡ attributes_changed (look_behind l.turns l.fields) l.start l.end l.fn.cells.items;
  len : length l.cells.items ≡ length l.fn.cells.items;
}
