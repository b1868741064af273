-- The parts of a parameter list: the byte at its front that makes it private, what stands between, and its intermediate byte (ECMA-48, 5.4).
use Rattle.std.specs.Prelude.{ℕ, nat_lt, not, ◌&&◌, Bool, List, [], ◌∷◌, if◌then◌else◌}
use Rattle.csicodec_tokens.specs.{declared.param.CsiParam.CsiParam, declared.param.CsiParam.TheVariants.Integer, declared.param.CsiParam.TheVariants.P}

-- one of `<` `=` `>` `?`
abbrev pub is_marker : ℕ → Bool
is_marker b = not (nat_lt b 60) && nat_lt b 64

-- from a space to `/`
abbrev pub is_intermediate : ℕ → Bool
is_intermediate b = not (nat_lt b 32) && nat_lt b 48

-- the marker, 0 where there is none, and what stands behind it
abbrev pub without_marker : List CsiParam → ℕ × List CsiParam
without_marker [] = (0, [])
without_marker (Integer z ∷ ts) = (0, Integer z ∷ ts)
without_marker (P b ∷ ts) = if is_marker b then (b, ts) else (0, P b ∷ ts)

-- a token more ahead
abbrev pub with_front : CsiParam → ℕ × List CsiParam → ℕ × List CsiParam
with_front t cut = (cut.0, t ∷ cut.1)

-- the intermediate byte, 0 where there is none, and what stands ahead of it
abbrev pub without_intermediate : List CsiParam → ℕ × List CsiParam
without_intermediate [] = (0, [])
without_intermediate (Integer z ∷ []) = (0, Integer z ∷ [])
without_intermediate (P b ∷ []) = if is_intermediate b then (b, []) else (0, P b ∷ [])
without_intermediate (t ∷ u ∷ ts) = with_front t (without_intermediate (u ∷ ts))

pub record Parts : Type 0 where
  pub marker : ℕ
  pub body : List CsiParam
  pub intermediate : ℕ

abbrev pub parts_of : List CsiParam → Parts
parts_of list =
    record {
      marker = (without_marker list).0;
      body = (without_intermediate (without_marker list).1).1;
      intermediate = (without_intermediate (without_marker list).1).0;
    }
