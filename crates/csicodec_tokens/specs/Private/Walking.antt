-- What the steps of a walk over a body say of each other; no public contract cites this file.
use Rattle.std.specs.{Prelude.ℕ, Prelude.◌≡◌, Prelude.◌==◌, Prelude.Bool, Prelude.◌&&◌, Prelude.if◌then◌else◌, Prelude.nat_le, Prelude.nat_lt, Prelude.List}
use Rattle.std.specs.{Prelude.◌++◌, Int.w64, Int.trailing_zeros}
use Rattle.csicodec_tokens.specs.Body.{Adds}

-- the place of the lowest bit that is set, and 16 where none is
abbrev pub first_set : ℕ → ℕ
first_set mask = if mask == 0 then 16 else trailing_zeros w64 mask

-- an intermediate or parameter byte
abbrev pub body_byte : ℕ → Bool
body_byte b = nat_le 32 b && nat_lt b 64

-- some of the bytes are more of the body, and the rest is behind them
pub record IsWalked (first : ℕ) (bytes : List ℕ) (last : ℕ) (rest : List ℕ) : Type 0 where
  pub done : List ℕ
  pub parts : bytes ≡ done ++ rest
  pub adds : Adds first done last
