-- What `compact` writes, cut as a stream once more.
use Rattle.std.specs.Prelude.{ℕ, List}
use Rattle.csicodec_spans.specs.{declared.table.Mode.Mode, Parts.Part, Parts.IsWhole}
use Rattle.csicodec_filter.specs.Meaning.{StandInPlace}
use Rattle.csicodec_compact.specs.Runs.{CompactsAll}

-- the text, cut as a stream, has parts that stand in the place of those that it was made of
pub record HasAgain {limit : ℕ} {m : Mode} {bytes text : List ℕ}
    (c : CompactsAll limit m bytes text) : Type 0 where
  pub others : List Part
  pub whole : IsWhole limit m text others
  pub placed : StandInPlace c.written.0 c.parts others
