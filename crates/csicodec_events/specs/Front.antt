-- The bytes that a control sequence stands in front of, and how many looks at them were taken.
use Rattle.std.specs.Prelude.{ℕ, List}

pub record Seen : Type 0 where
  pub bytes : List ℕ
  pub looks : ℕ
