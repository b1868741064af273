-- How far text stands out from its ground, and a colour for text that doesn't.
use Rattle.std.specs.Prelude.{ℕ, ◌+◌, ◌*◌, nat_lt, Bool, ◌&&◌, if◌then◌else◌, Option, Some, None}
use Rattle.csicodec_names.specs.{declared.color.ColorSpec.ColorSpec, declared.color.SrgbaTuple.SrgbaTuple}
use Rattle.csicodec_looks.specs.Xterm.{palette, rgb}

-- ---- the contrast of two colours (WCAG 2.2, 1.4.3), by their relative luminance

-- the light of a part of a colour: of 255 it is 1000 * 255 ^ 3. This curve of degree three lies beside sRGB's (IEC 61966-2-1)
abbrev pub light : ℕ → ℕ
light n = n * (n * (305 * n + 173910) + 845325)

-- of white it is 165,813,750,000,000
unfoldable pub luminance : SrgbaTuple → ℕ
luminance c = 2126 * light c.0 + 7152 * light c.1 + 722 * light c.2

-- a twentieth of white's, which is added to both where they are compared
abbrev pub lighter : ℕ → ℕ
lighter n = n + 8290687500000

-- less than 1.55 to 1. By sRGB's own curve those are less than 1.58 to 1, and all others are at least 1.5 to 1
unfoldable pub are_near : ℕ → ℕ → Bool
are_near n m = nat_lt (20 * lighter n) (31 * lighter m) && nat_lt (20 * lighter m) (31 * lighter n)

abbrev pub is_near : SrgbaTuple → SrgbaTuple → Bool
is_near c d = are_near (luminance c) (luminance d)

-- ---- text

abbrev pub white : SrgbaTuple
white = rgb 255 255 255

abbrev pub black : SrgbaTuple
black = rgb 0 0 0

-- the lightest ground that a browser has for a dark page
abbrev pub dark : SrgbaTuple
dark = rgb 30 30 30

-- a colour that is the same on a light and on a dark page
abbrev pub known : ColorSpec → Option SrgbaTuple
known ColorSpec.Default = None
known (ColorSpec.PaletteIndex i) = if nat_lt i 16 then None else Some (palette i)
known (ColorSpec.TrueColor c) = Some c

-- the one of black and white that can be read on a ground: white where its luminance is below 0.18 of white's
abbrev pub black_or_white : SrgbaTuple → SrgbaTuple
black_or_white below = if nat_lt (luminance below) 29846475000000 then white else black

-- text on a ground that is known: black or white where it is near to that, or has no colour of its own
abbrev pub on_ground : SrgbaTuple → ColorSpec → Option SrgbaTuple → ColorSpec
on_ground below text None = ColorSpec.TrueColor (black_or_white below)
on_ground below text (Some c) =
    if is_near c below then ColorSpec.TrueColor (black_or_white below) else text

abbrev pub is_there : ℕ → ℕ → ℕ
is_there least n = if nat_lt n least then 0 else 1

-- the one of the places 0 to 7 that has the parts that are so great in a colour
abbrev pub place_like : ℕ → SrgbaTuple → ℕ
place_like least c = is_there least c.0 + 2 * is_there least c.1 + 4 * is_there least c.2

-- text on the page's own ground: the pair of a bright colour where it is near to white, and of another one where it is near to black
abbrev pub on_page : ColorSpec → Option SrgbaTuple → ColorSpec
on_page text None = text
on_page text (Some c) =
    if is_near c white then ColorSpec.PaletteIndex (8 + place_like 192 c)
    else if is_near c dark then ColorSpec.PaletteIndex (place_like 64 c) else text

abbrev pub legible_on : Option SrgbaTuple → ColorSpec → ColorSpec
legible_on None text = on_page text (known text)
legible_on (Some below) text = on_ground below text (known text)

-- text as it can be read on a ground
abbrev pub legible : ColorSpec → ColorSpec → ColorSpec
legible below text = legible_on (known below) text
