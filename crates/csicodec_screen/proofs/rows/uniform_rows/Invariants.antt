use Rattle.std.proofs.Common.{◌≡◌}
use Rattle.std.specs.Prelude.{replicate}
use Rattle.csicodec_screen.specs.Private.Changes.{row_of}
use Rattle.csicodec_screen.proofs.rows.uniform_rows.Given as goal

abbrev pub invariant-loop-i : goal.invariant-loop-i
invariant-loop-i l = l.rows.items ≡ replicate l._i (row_of l.like)
