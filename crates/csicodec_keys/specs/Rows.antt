-- Tables of keys, by any table: a row is found by its key, or by its number and its final character.
use Rattle.std.specs.Prelude.{ℕ, ◌==◌, ◌&&◌, List, Option, find}
use Rattle.csicodec_keys.specs.{declared.code.KeyCode.KeyCode, declared.tables.Row.Row, SameKeys.same_code}

-- the first row of a key with what is held down
unfoldable pub row_of : List Row → KeyCode → ℕ → Option Row
row_of rows k held = find (λ (r : Row). same_code r.code k && (r.held == held)) rows

-- the first row of a number and a final character
unfoldable pub row_at : List Row → ℕ → ℕ → Option Row
row_at rows number control = find (λ (r : Row). (r.number == number) && (r.control == control)) rows
