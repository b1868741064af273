-- The sequences that give a colour with semicolons, as `ESC[38;2;1;2;3m` and `ESC[48;5;100m`: no number has a 0 in front.
use Rattle.std.specs.{Prelude.ℕ, Prelude.◌≡◌, Prelude.◌<◌, Prelude.◌∷◌, Prelude.◌++◌, Prelude.List, Prelude.[], Fmt.decimal}
use Rattle.csicodec_names.specs.{declared.color.ColorSpec.ColorSpec, declared.color.ColorSpec.TheVariants.Default}
use Rattle.csicodec_names.specs.{declared.color.ColorSpec.TheVariants.PaletteIndex, declared.color.ColorSpec.TheVariants.TrueColor}
use Rattle.csicodec_base.specs.{Shapes.Plane, Shapes.Front, Shapes.Back, Shapes.Line, Shapes.painted, declared.sgr.Sgr.Sgr}

-- the first digit of the code of a plane's colours, which is 38, 48 or 58
abbrev pub plane_byte : Plane → ℕ
plane_byte Front = 51
plane_byte Back = 52
plane_byte Line = 53

-- what stands behind that code and a `;`: `2;` and three parts, or `5;` and one
abbrev pub color_list : ColorSpec → List ℕ
color_list Default = []
color_list (PaletteIndex i) = 53 ∷ 59 ∷ decimal i
color_list (TrueColor c) = 50 ∷ 59 ∷ (decimal c.0 ++ 59 ∷ (decimal c.1 ++ 59 ∷ decimal c.2))

-- the colour has such a list, with parts below 256
abbrev pub IsOpaque : ColorSpec → Type 0
IsOpaque Default = ⊥
IsOpaque (PaletteIndex i) = i < 256
IsOpaque (TrueColor c) = (c.0 < 256) × (c.1 < 256) × (c.2 < 256) × (c.3 ≡ 255)

-- the sequence that gives a plane this colour stands in front, and the rest behind it
abbrev pub IsColored : List ℕ → Sgr → List ℕ → Type 0
IsColored bytes sgr rest = (plane : Plane) × (color : ColorSpec) × IsOpaque color
    × (sgr ≡ painted plane color)
    × (bytes ≡ 27 ∷ 91 ∷ plane_byte plane ∷ 56 ∷ 59 ∷ (color_list color ++ 109 ∷ rest))
