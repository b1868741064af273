-- Numbers that count from 1.
use Rattle.std.specs.Prelude.{ℕ, zero, suc, ◌^◌, if◌then◌else◌, Option, Some, None, nat_lt, pos, negsuc}
use Rattle.csicodec_tokens.specs.{declared.param.CsiParam.CsiParam, declared.param.CsiParam.TheVariants.Integer, declared.param.CsiParam.TheVariants.P}

-- the largest number of 32 bits
abbrev pub most : ℕ
most = 4294967295

-- a number by itself, and the default in place of 0
abbrev pub or_default : ℕ → ℕ → ℕ
or_default default zero = default
or_default default (suc n) = suc n

-- what a token counts as: a number from 0 to the largest by itself, 0 as the default, and nothing else
abbrev pub number_or : ℕ → CsiParam → Option ℕ
number_or default (Integer (pos n)) =
    if nat_lt n (2 ^ 32) then Some (or_default default n) else None
number_or default (Integer (negsuc n)) = None
number_or default (P b) = None
