-- All that was counted.
use Rattle.std.specs.Prelude.{ℕ, ◌+◌}
use Rattle.example_callers.specs.declared.recorder.Counts.{Counts}

abbrev pub total : Counts → ℕ
total counts = counts.styles + counts.moves + counts.edits + counts.others
