-- The longest piece at the front of a list of attributes.
use Rattle.std.specs.{Prelude.ℕ, Prelude.◌≡◌, Prelude.◌≤◌, Prelude.List, Prelude.◌∷◌, Prelude.true, Prelude.Option, Prelude.Some, Prelude.length}
use Rattle.std.specs.{Prelude.MatchOption, List.Contains}
use Rattle.csicodec_tokens.specs.{declared.param.CsiParam.CsiParam, declared.param.CsiParam.TheVariants.P}
use Rattle.csicodec_base.specs.{declared.sgr.Sgr.Sgr, Shapes.Row, Shapes.colon, Shapes.begins_with, Shapes.taken, Shapes.given, Shapes.sgr_rows}

-- the row is in the table, the list begins with its shape, and with no shape of the table that has more tokens
pub record Longest (rows : List Row) (rest : List CsiParam) (row : Row) : Type 0 where
  pub listed : Contains rows row
  pub fits : begins_with row.shape rest ≡ true
  pub no_longer : (other : Row) → Contains rows other → begins_with other.shape rest ≡ true
      → length other.shape ≤ length row.shape

-- the longest row has k tokens and gives the action; where a part of its colour is no byte it gives none,
-- and no shorter row is asked
pub record Piece (rest : List CsiParam) (k : ℕ) (action : Sgr) : Type 0 where
  pub row : Row
  pub longest : Longest sgr_rows rest row
  pub tokens : k ≡ length row.shape
  pub gives : given row.gives (taken row.shape rest) ≡ Some action

-- the answer is the piece at the front, and none only where there is no piece
abbrev pub IsFront : List CsiParam → Option (Sgr × ℕ) → Type 0
IsFront rest answer =
    MatchOption answer ((k : ℕ) (action : Sgr) → Piece rest k action → ⊥) (λ f. Piece rest f.1 f.0)

-- the list doesn't begin with `:`
abbrev pub NoColon : List CsiParam → Type 0
NoColon list = (more : List CsiParam) → list ≡ P colon ∷ more → ⊥
