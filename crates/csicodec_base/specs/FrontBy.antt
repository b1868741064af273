-- The piece at a front as a computation. What it means is in `Pieces`; only private steps, proofs and the law that ties
-- the two together speak of it.
use Rattle.std.specs.Prelude.{ℕ, ◌+◌, ◌==◌, List, [], ◌∷◌, if◌then◌else◌, Option, Some, None, option_and_then, length}
use Rattle.csicodec_tokens.specs.{declared.param.CsiParam.CsiParam, declared.param.CsiParam.TheVariants.Integer, declared.param.CsiParam.TheVariants.P}
use Rattle.csicodec_base.specs.{declared.sgr.Sgr.Sgr, Shapes.Slot, Shapes.Row, Shapes.begins_with, Shapes.taken, Shapes.given, Shapes.color_of_tokens}
use Rattle.csicodec_base.specs.{Shapes.colon, Shapes.sgr_rows}
use Rattle.csicodec_names.specs.declared.color.ColorSpec.{ColorSpec}

-- what the first row that fits gives, and its number of tokens, with those that stand before
abbrev pub front_by : ℕ → List Row → List CsiParam → Option (Sgr × ℕ)
front_by before [] rest = None
front_by before (row ∷ rows) rest =
    if begins_with row.shape rest
    then option_and_then (λ s.
    Some (s, length row.shape + before)) (given row.gives (taken row.shape rest))
    else front_by before rows rest

-- the piece at the front, by going through the table
unfoldable pub piece : List CsiParam → Option (Sgr × ℕ)
piece rest = front_by 0 sgr_rows rest

-- the colour by the first shape that fits
abbrev pub color_by : ℕ → List (List Slot) → List CsiParam → Option (ColorSpec × ℕ)
color_by before [] rest = None
color_by before (shape ∷ shapes) rest =
    if begins_with shape rest
    then option_and_then (λ c. Some (c, length shape + before)) (color_of_tokens (taken shape rest))
    else color_by before shapes rest

-- the tokens of the shape, where it fits
abbrev pub captured : List Slot → List CsiParam → Option (List CsiParam)
captured shape rest = if begins_with shape rest then Some (taken shape rest) else None

-- what stands behind a colour space, or behind the colon of one that is left out, and how many tokens are ahead of it
abbrev pub behind_space : List CsiParam → Option (List CsiParam × ℕ)
behind_space (P b ∷ rest) = if b == colon then Some (rest, 1) else None
behind_space (Integer z ∷ P b ∷ rest) = if b == colon then Some (rest, 2) else None
behind_space _ = None

-- the colour behind a space, where the shape fits there, and else at the front
abbrev pub spaced_by : ℕ → List Slot → List CsiParam → Option (List CsiParam × ℕ) → Option (ColorSpec × ℕ)
spaced_by before shape parts None = color_by before (shape ∷ []) parts
spaced_by before shape parts (Some f) =
    if begins_with shape f.0
    then option_and_then (λ c. Some (c, length shape + before + f.1)) (color_of_tokens (taken shape f.0))
    else color_by before (shape ∷ []) parts
