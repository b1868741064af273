-- What a table of sequences that came before holds.
use Rattle.std.specs.Prelude.{ℕ, ◌≡◌, false, List, [], ◌∷◌}
use Rattle.csicodec_tokens.specs.{declared.param.CsiParam.CsiParam, Sequence.Seq}
use Rattle.csicodec_actions.specs.{Table.text, declared.cursor.Cursor.Cursor}
use Rattle.csicodec_parser.specs.Segments.{Actions}
use Rattle.csicodec_streams.specs.Decoding.{NormalisesTo}
use Rattle.csicodec_actions.specs.Actions as action

-- the bytes are one control sequence
abbrev pub IsOne : List ℕ → Type 0
IsOne bytes = (list : List CsiParam) × (final : ℕ) × Seq bytes list final

-- a sequence and its normal form
abbrev pub IsNormal : List ℕ → List ℕ → Type 0
IsNormal bytes text = NormalisesTo bytes text × IsOne bytes

-- the bytes are one control sequence that moves the cursor, as the codec writes it
abbrev pub IsPosition : List ℕ → Type 0
IsPosition bytes = (list : List CsiParam) × (final : ℕ) × (moved : Cursor) × Seq bytes list final
    × Actions list false final (action.Cursor moved ∷ []) × (bytes ≡ text (action.Cursor moved))
