-- What private steps say of the text of a device. Nothing public rests on this file.
use Rattle.csicodec_actions.specs.Common.{ℕ, List, flat_map, token_text, CsiParam}
use Rattle.std.specs.Prelude.{◌∷◌}

-- the tokens of these, a `;` before each
abbrev pub listed_text : {A : Type 0} → (A → CsiParam) → List A → List ℕ
listed_text token items = flat_map (λ a. 59 ∷ token_text (token a)) items
