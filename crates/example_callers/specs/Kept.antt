-- What is written in the place of a control sequence: itself, where its final is `m`, and else nothing.
use Rattle.std.specs.Prelude.{ℕ, List, [], ◌≡◌, if◌then◌else◌, ◌==◌}
use Rattle.csicodec_tokens.specs.{declared.param.CsiParam.CsiParam, Sequence.Seq}

abbrev pub StyleOrNothing : List ℕ → List ℕ → Type 0
StyleOrNothing bytes text = (params : List CsiParam) × (final : ℕ) × Seq bytes params final × (text ≡ if final == 109 then bytes else [])
