-- Cells that go from one side of the cursor to the other.
use Rattle.std.specs.Prelude.{ℕ, zero, suc, ◌-◌, ◌*◌, nat_lt, Bool, false, List, [], ◌∷◌, ◌++◌, replicate, if◌then◌else◌}
use Rattle.csicodec_looks.specs.{declared.cells.Cell.Cell, declared.line.Line.Line, declared.cells.Cell.TheVariants.Behind}
use Rattle.csicodec_looks.specs.{declared.cells.Cell.TheVariants.Char, declared.cells.Glyph.Glyph, Cells.gone, Cells.shifted, Cells.takes, Line.line}
use Rattle.csicodec_looks.specs.{Line.parted}

-- how many of the nearest cells are passed over so many columns, and with marks those of no column behind them
abbrev pub passed : Bool → ℕ → List Cell → ℕ
passed marks n [] = 0
passed marks n (cell ∷ side) = if nat_lt n (if marks then takes cell else 1) then 0 else suc (passed marks (n - takes cell) side)

-- a character of some columns so many times in front of cells
abbrev pub put_many : Glyph → ℕ → ℕ → List Cell → List Cell
put_many g columns zero left = left
put_many g columns (suc n) left = replicate (columns - 1) Behind ++ (Char g ∷ put_many g columns n left)

-- and so put at the cursor
abbrev pub placed_many : Bool → Glyph → ℕ → ℕ → Line → Line
placed_many inserts g columns n l = line (put_many g columns n (parted l).left)
    (if inserts then shifted false (parted l).right else gone (n * columns) (parted l).right)
