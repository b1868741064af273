-- What the private steps of a decoding say to each other: how far it has come, and why it goes no further.
use Rattle.std.specs.Prelude.{ℕ, pos, ◌≡◌, ◌==◌, ◌<◌, ◌∷◌, ◌++◌, Bool, true, false, if◌then◌else◌, List, [], length, Option, None, Some}
use Rattle.std.specs.Fmt.{decimal}
use Rattle.csicodec_tokens.specs.{declared.reader.ReadError.ReadError, declared.param.CsiParam.CsiParam, declared.param.CsiParam.TheVariants.Integer}
use Rattle.csicodec_tokens.specs.{declared.param.CsiParam.TheVariants.P, Fault.Refuses}
use Rattle.csicodec_names.specs.{declared.color.ColorSpec.ColorSpec, declared.color.ColorSpec.TheVariants.Default}
use Rattle.csicodec_names.specs.{declared.color.ColorSpec.TheVariants.PaletteIndex, declared.color.ColorSpec.TheVariants.TrueColor}
use Rattle.csicodec_base.specs.{Shapes.Plane, Shapes.painted, declared.sgr.Sgr.Sgr as Attribute}
use Rattle.csicodec_actions.specs.{Actions.Action, Actions.Sgr, Kinds.IsOneBased}
use Rattle.csicodec_streams.specs.{Colors.IsOpaque, Colors.color_list, Colors.plane_byte, Decoding.Decodes}

-- the sequences at the front of the bytes have these actions, and behind them comes the rest
abbrev pub DecodesFront : List ℕ → Bool → List ℕ → List Action → Type 0
DecodesFront bytes flag rest actions = (front : List ℕ) × (bytes ≡ front ++ rest)
    × Decodes front flag actions

-- nothing is behind them, or what begins with no sequence, or with one for which there was no memory
abbrev pub StopsAt : List ℕ → Option ReadError → Type 0
StopsAt rest None = rest ≡ []
StopsAt rest (Some error) = (0 < length rest) × ((room : ℕ) × Refuses rest room error)

-- an error stays, whatever follows the bytes that have it; only those that end too early can go on
abbrev pub stays : ReadError → Bool
stays (ReadError.Truncated place) = false
stays _ = true

-- the text of a number from 1 to 4294967295
abbrev pub IsNumber : List ℕ → Type 0
IsNumber text = (n : ℕ) × IsOneBased n × (text ≡ decimal n)

-- ---- colours

-- the text of a part of a colour stands in front, and the rest behind it
abbrev pub IsPart : List ℕ → ℕ → List ℕ → Type 0
IsPart bytes n rest = (bytes ≡ decimal n ++ rest) × (n < 256)

-- the tokens of the list of a colour
abbrev pub color_tokens : ColorSpec → List CsiParam
color_tokens Default = []
color_tokens (PaletteIndex i) = Integer (pos 5) ∷ P 59 ∷ Integer (pos i) ∷ []
color_tokens (TrueColor c) = Integer (pos 2) ∷ P 59 ∷ Integer (pos c.0) ∷ P 59 ∷ Integer
    (pos c.1) ∷ P 59 ∷ Integer (pos c.2) ∷ []

-- the list of a colour stands in front, and the rest behind it
abbrev pub IsColor : List ℕ → ColorSpec → List ℕ → Type 0
IsColor bytes color rest = IsOpaque color × (bytes ≡ color_list color ++ rest)

-- the list of a plane's colour stands in front, which this attribute gives, and the rest behind it
abbrev pub IsPainted : List ℕ → Attribute → List ℕ → Type 0
IsPainted bytes sgr rest = (plane : Plane) × (color : ColorSpec) × IsOpaque color
    × (sgr ≡ painted plane color)
    × (bytes ≡ plane_byte plane ∷ 56 ∷ 59 ∷ (color_list color ++ rest))

-- the actions of one attribute, or of two
abbrev pub styles : Attribute → Option Attribute → List Action
styles first None = Sgr first ∷ []
styles first (Some second) = Sgr first ∷ Sgr second ∷ []

-- a byte of the list of a colour, with `:` in place of `;`
abbrev pub with_colon : ℕ → ℕ
with_colon b = if b == 59 then 58 else b
