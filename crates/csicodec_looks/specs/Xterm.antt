-- Colours of fewer kinds: xterm's palette as data, and the place of it that is nearest to a colour.
use Rattle.std.specs.Prelude.{ℕ, zero, suc, ◌<◌, ◌≤◌, ◌+◌, ◌-◌, ◌*◌, ◌/◌, ◌%◌, ◌==◌, nat_lt, List, [], ◌∷◌, get_or, if◌then◌else◌}
use Rattle.csicodec_names.specs.{declared.color.ColorSpec.ColorSpec, declared.color.ColorSpec.TheVariants.Default}
use Rattle.csicodec_names.specs.{declared.color.ColorSpec.TheVariants.PaletteIndex, declared.color.ColorSpec.TheVariants.TrueColor}
use Rattle.csicodec_names.specs.{declared.color.SrgbaTuple.SrgbaTuple}
use Rattle.csicodec_base.specs.declared.sgr.Sgr.{Sgr}
use Rattle.csicodec_looks.specs.declared.xterm.Depth.{Depth}

abbrev pub rgb : ℕ → ℕ → ℕ → SrgbaTuple
rgb red green blue = record { 0 = red; 1 = green; 2 = blue; 3 = 255 }

-- the first 16 places, as xterm has them where nobody chose others (XTerm-col.ad)
abbrev pub first_places : List SrgbaTuple
first_places =
    rgb 0 0 0 ∷ rgb 205 0 0 ∷ rgb 0 205 0 ∷ rgb 205 205 0 ∷ rgb 0 0 238 ∷ rgb 205 0 205 ∷ rgb 0 205 205 ∷ rgb 229 229 229
    ∷ rgb 127 127 127 ∷ rgb 255 0 0 ∷ rgb 0 255 0 ∷ rgb 255 255 0 ∷ rgb 92 92 255 ∷ rgb 255 0 255 ∷ rgb 0 255 255 ∷ rgb 255 255 255 ∷ []

-- the six steps of the cube: 0, 95, 135, 175, 215, 255
abbrev pub step : ℕ → ℕ
step n = if n == 0 then 0 else 55 + 40 * n

-- places 16 to 231, a cube of 216 colours (256colres.pl)
abbrev pub cube : ℕ → SrgbaTuple
cube n = rgb (step (n / 36)) (step (n / 6 % 6)) (step (n % 6))

-- places 232 to 255, 24 greys: 8, 18, .. 238
abbrev pub grey : ℕ → SrgbaTuple
grey n = rgb (8 + 10 * n) (8 + 10 * n) (8 + 10 * n)

-- the colour of a place
unfoldable pub palette : ℕ → SrgbaTuple
palette i = if nat_lt i 16 then get_or first_places i (rgb 0 0 0)
    else if nat_lt i 232 then cube (i - 16) else grey (i - 232)

abbrev pub apart : ℕ → ℕ → ℕ
apart a b = (a - b) + (b - a)

abbrev pub square : ℕ → ℕ
square n = n * n

-- how far two colours are from each other: the squares of the differences of red, of green and of blue, added up
unfoldable pub distance : SrgbaTuple → SrgbaTuple → ℕ
distance c d = square (apart c.0 d.0) + square (apart c.1 d.1) + square (apart c.2 d.2)

-- of two places the nearer one, and the first where they are as near
abbrev pub nearer : SrgbaTuple → ℕ → ℕ → ℕ
nearer c i j = if nat_lt (distance c (palette j)) (distance c (palette i)) then j else i

-- the nearest of a place and of so many places from another on
unfoldable pub nearest_among : SrgbaTuple → ℕ → ℕ → ℕ → ℕ
nearest_among c i j zero = i
nearest_among c i j (suc count) = nearest_among c (nearer c i j) (suc j) count

-- the nearest of the places from 16 on, whose colours are the same on every terminal
abbrev pub nearest_of_256 : SrgbaTuple → ℕ
nearest_of_256 c = nearest_among c 16 17 239

-- the nearest of the first 16
abbrev pub nearest_of_16 : SrgbaTuple → ℕ
nearest_of_16 c = nearest_among c 0 1 15

-- of the places from the first on up to the end, without it, the place is the nearest to the colour, and the first that is as near
pub record IsNearest (c : SrgbaTuple) (first end place : ℕ) : Type 0 where
  pub from : first ≤ place
  pub below : place < end
  pub nearest : (n : ℕ) → first ≤ n → n < end → distance c (palette place) ≤ distance c (palette n)
  pub earlier : (n : ℕ) → first ≤ n → n < place
      → distance c (palette place) < distance c (palette n)

-- a colour by its parts becomes a place of the palette, and where 16 are left, a place from 16 on becomes one of them
abbrev pub reduced_color : Depth → ColorSpec → ColorSpec
reduced_color Depth.Full c = c
reduced_color Depth.Palette Default = Default
reduced_color Depth.Palette (PaletteIndex i) = PaletteIndex i
reduced_color Depth.Palette (TrueColor c) = PaletteIndex (nearest_of_256 c)
reduced_color Depth.Ansi Default = Default
reduced_color Depth.Ansi (PaletteIndex i) =
    PaletteIndex (if nat_lt i 16 then i else nearest_of_16 (palette i))
reduced_color Depth.Ansi (TrueColor c) = PaletteIndex (nearest_of_16 c)

abbrev pub reduced : Depth → Sgr → Sgr
reduced d (Sgr.Foreground c) = Sgr.Foreground (reduced_color d c)
reduced d (Sgr.Background c) = Sgr.Background (reduced_color d c)
reduced d (Sgr.UnderlineColor c) = Sgr.UnderlineColor (reduced_color d c)
reduced d s = s
