-- The fields that stand in a list, whatever bytes stand between them.
use Rattle.csicodec_actions.specs.Common.{ℤ, List, [], Option, None, Some, CsiParam, Integer, P}
use Rattle.std.specs.Prelude.{◌∷◌}

abbrev pub fields_there : List CsiParam → List (Option ℤ)
fields_there [] = []
fields_there (P b ∷ list) = None ∷ fields_there list
fields_there (Integer z ∷ []) = Some z ∷ []
fields_there (Integer z ∷ P b ∷ list) = Some z ∷ fields_there list
fields_there (Integer z ∷ Integer y ∷ list) = Some z ∷ fields_there (Integer y ∷ list)
