use Rattle.std.proofs.Common.{◌≡◌, take}
use Rattle.std.specs.Prelude.{map}
use Rattle.csicodec_screen.specs.Rows.{segment}
use Rattle.csicodec_screen.proofs.rows.copy_parts.Given as goal

abbrev pub invariant-loop-row : goal.invariant-loop-row
invariant-loop-row l = l.parts.items ≡ map (segment l.first l.last) (take l.row-index l.rows)
