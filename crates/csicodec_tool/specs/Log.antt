-- What `--log` writes: each line of a log by itself, as it stands when it ends.
use Rattle.std.specs.{Prelude.ℕ, Prelude.◌≡◌, Prelude.◌==◌, Prelude.not, Prelude.true, Prelude.List, Prelude.◌++◌, Prelude.Option, Prelude.None, Prelude.Some}
use Rattle.std.specs.{List.AllByRecursion, List.list_all}
use Rattle.csicodec_clean.specs.{Styled.StylesIn, declared.styles.Passing.Passing}
use Rattle.csicodec_lines.specs.{Lines.AreOf, Stream.ended}
use Rattle.csicodec_overwrite.specs.Reading.{Overwrites, Paints}

-- it has no newline
abbrev pub IsLine : List ℕ → Type 0
IsLine line = list_all (λ b. not (b == 10)) line ≡ true

-- Lines, a newline behind each, and what stands behind the last of them. The text has one for each, made of it alone, and behind them what
-- is made of the rest.
pub record LogOf (Each Last : List ℕ → List ℕ → Type 0) (bytes text : List ℕ) : Type 0 where
  pub lines : List (List ℕ)
  pub rest : List ℕ
  pub are_lines : AllByRecursion IsLine lines
  pub is_line : IsLine rest
  pub split : bytes ≡ ended lines ++ rest
  pub texts : List (List ℕ)
  pub own : List ℕ
  pub each : AreOf Each lines texts
  pub behind : Last rest own
  pub all : text ≡ ended texts ++ own

-- what a line becomes, and a stream as one: what stands in each line when it ends, as plain text, or with those of its styles that pass
abbrev pub IsLogged : Option Passing → List ℕ → List ℕ → Type 0
IsLogged None line text = Overwrites line text
IsLogged (Some passing) line text = (painted : List ℕ) × Paints line painted × StylesIn passing painted text

-- a log becomes this text
abbrev pub Logs : Option Passing → List ℕ → List ℕ → Type 0
Logs styles bytes text = LogOf (IsLogged styles) (IsLogged styles) bytes text

-- the same, where with styles it is of a front of what stands there
abbrev pub IsLoggedFront : Option Passing → List ℕ → List ℕ → Type 0
IsLoggedFront None line text = Overwrites line text
IsLoggedFront (Some passing) line text = (painted : List ℕ) × (unpainted : List ℕ) × Paints line (painted ++ unpainted)
    × StylesIn passing painted text

-- the lines that are over become this text, and the one that isn't as far as it was told
abbrev pub LogsSome : Option Passing → List ℕ → List ℕ → Type 0
LogsSome styles bytes text = LogOf (IsLogged styles) (IsLoggedFront styles) bytes text
