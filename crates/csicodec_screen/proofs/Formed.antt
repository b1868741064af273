-- A screen on which nothing was written is formed.
use Rattle.std.proofs.{Common.◌≡◌, Common.ℕ, Common.zero, Common.suc, Common.◌+◌, Common.◌<◌, Common.true, Common.false, Common.length, Common.refl, Common.ap}
use Rattle.std.proofs.{Common.arith, lemmas.List.length-replicate, lemmas.Bool.false≢true}
use Rattle.std.specs.{Prelude.replicate, List.AllByRecursion}
use Rattle.csicodec_screen.specs.{Cells.are_whole, Cells.blanks, Screen.IsFormed, Screen.IsGrid, Screen.blank_grid, Screen.blank_row, Screen.eighths}
use Rattle.csicodec_screen.specs.{Screen.fresh, declared.rows.Row.Row}
use Rattle.csicodec_names.specs.declared.color.ColorSpec.TheVariants as color

blanks_whole : (n : ℕ) → are_whole false (blanks color.Default n) ≡ true
blanks_whole zero = refl
blanks_whole (suc n) = blanks_whole n

all_alike : (P : Row → Type 0) (row : Row) (n : ℕ) → P row → AllByRecursion P (replicate n row)
all_alike P row zero p = tt
all_alike P row (suc n) p = (p, all_alike P row n p)

blank_is_grid : (rows columns : ℕ) → IsGrid rows columns (blank_grid color.Default rows columns) (replicate rows false)
blank_is_grid rows columns = record {
  height = length-replicate rows (blank_row color.Default columns);
  flags = length-replicate rows false;
  width = all_alike (λ (row : Row). length row.cells ≡ columns) (blank_row color.Default columns) rows (length-replicate columns _);
  are_whole = all_alike (λ (row : Row). are_whole false row.cells ≡ true) (blank_row color.Default columns) rows (blanks_whole columns);
}

as_many : (c n : ℕ) → length (eighths c n) ≡ n
as_many c zero = refl
as_many c (suc n) = ap suc (as_many (c + 1) n)

pub fresh_formed : (rows columns room : ℕ) → 0 < rows → 0 < columns → IsFormed (fresh rows columns room)
fresh_formed rows columns room h k = record {
  grid = blank_is_grid rows columns;
  other = blank_is_grid rows columns;
  saved = record { row = h; column = k };
  other_saved = record { row = h; column = k };
  row = h;
  column = omega arith;
  pending = λ e. absurd (false≢true e);
  rows = (omega arith, omega (arith, h));
  columns = (omega arith, omega (arith, k));
  origin = λ e. absurd (false≢true e);
  stops = as_many 0 columns;
}
