-- The version of the library, 1.27.0.
use Rattle.std.specs.Prelude.{ℕ, ◌+◌, ◌*◌}

abbrev pub version : ℕ
version = 10000 * 1 + (100 * 27 + 0)
