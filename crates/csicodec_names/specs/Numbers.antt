-- Written by tools/table from table/sgr.toml: change that, and run python3 tools/table.
-- The codes of attributes (SGR; ECMA-48, 8.3.117): the number of each.
use Rattle.std.specs.Prelude.{ℕ, List, [], ◌∷◌}
use Rattle.csicodec_names.specs.declared.codes.SgrCode.{SgrCode}
use Rattle.csicodec_names.specs.declared.codes.SgrCode.TheVariants as code

-- the number of each code, a line for each variant
abbrev pub number_of : SgrCode → ℕ
number_of code.Reset = 0
number_of code.IntensityBold = 1
number_of code.IntensityDim = 2
number_of code.ItalicOn = 3
number_of code.UnderlineOn = 4
number_of code.BlinkOn = 5
number_of code.RapidBlinkOn = 6
number_of code.InverseOn = 7
number_of code.InvisibleOn = 8
number_of code.StrikeThroughOn = 9
number_of code.DefaultFont = 10
number_of code.AltFont1 = 11
number_of code.AltFont2 = 12
number_of code.AltFont3 = 13
number_of code.AltFont4 = 14
number_of code.AltFont5 = 15
number_of code.AltFont6 = 16
number_of code.AltFont7 = 17
number_of code.AltFont8 = 18
number_of code.AltFont9 = 19
number_of code.UnderlineDouble = 21
number_of code.NormalIntensity = 22
number_of code.ItalicOff = 23
number_of code.UnderlineOff = 24
number_of code.BlinkOff = 25
number_of code.InverseOff = 27
number_of code.InvisibleOff = 28
number_of code.StrikeThroughOff = 29
number_of code.ForegroundBlack = 30
number_of code.ForegroundRed = 31
number_of code.ForegroundGreen = 32
number_of code.ForegroundYellow = 33
number_of code.ForegroundBlue = 34
number_of code.ForegroundMagenta = 35
number_of code.ForegroundCyan = 36
number_of code.ForegroundWhite = 37
number_of code.ForegroundColor = 38
number_of code.ForegroundDefault = 39
number_of code.BackgroundBlack = 40
number_of code.BackgroundRed = 41
number_of code.BackgroundGreen = 42
number_of code.BackgroundYellow = 43
number_of code.BackgroundBlue = 44
number_of code.BackgroundMagenta = 45
number_of code.BackgroundCyan = 46
number_of code.BackgroundWhite = 47
number_of code.BackgroundColor = 48
number_of code.BackgroundDefault = 49
number_of code.OverlineOn = 53
number_of code.OverlineOff = 55
number_of code.UnderlineColor = 58
number_of code.ResetUnderlineColor = 59
number_of code.VerticalAlignSuperScript = 73
number_of code.VerticalAlignSubScript = 74
number_of code.VerticalAlignBaseLine = 75
number_of code.ForegroundBrightBlack = 90
number_of code.ForegroundBrightRed = 91
number_of code.ForegroundBrightGreen = 92
number_of code.ForegroundBrightYellow = 93
number_of code.ForegroundBrightBlue = 94
number_of code.ForegroundBrightMagenta = 95
number_of code.ForegroundBrightCyan = 96
number_of code.ForegroundBrightWhite = 97
number_of code.BackgroundBrightBlack = 100
number_of code.BackgroundBrightRed = 101
number_of code.BackgroundBrightGreen = 102
number_of code.BackgroundBrightYellow = 103
number_of code.BackgroundBrightBlue = 104
number_of code.BackgroundBrightMagenta = 105
number_of code.BackgroundBrightCyan = 106
number_of code.BackgroundBrightWhite = 107

-- all codes: the list must be complete
abbrev pub all_codes : List SgrCode
all_codes =
    code.Reset ∷ code.IntensityBold ∷ code.IntensityDim ∷ code.ItalicOn ∷ code.UnderlineOn
    ∷ code.BlinkOn ∷ code.RapidBlinkOn ∷ code.InverseOn ∷ code.InvisibleOn ∷ code.StrikeThroughOn
    ∷ code.DefaultFont ∷ code.AltFont1 ∷ code.AltFont2 ∷ code.AltFont3 ∷ code.AltFont4 ∷ code.AltFont5
    ∷ code.AltFont6 ∷ code.AltFont7 ∷ code.AltFont8 ∷ code.AltFont9 ∷ code.UnderlineDouble
    ∷ code.NormalIntensity ∷ code.ItalicOff ∷ code.UnderlineOff ∷ code.BlinkOff ∷ code.InverseOff
    ∷ code.InvisibleOff ∷ code.StrikeThroughOff ∷ code.ForegroundBlack ∷ code.ForegroundRed
    ∷ code.ForegroundGreen ∷ code.ForegroundYellow ∷ code.ForegroundBlue ∷ code.ForegroundMagenta
    ∷ code.ForegroundCyan ∷ code.ForegroundWhite ∷ code.ForegroundColor ∷ code.ForegroundDefault
    ∷ code.BackgroundBlack ∷ code.BackgroundRed ∷ code.BackgroundGreen ∷ code.BackgroundYellow
    ∷ code.BackgroundBlue ∷ code.BackgroundMagenta ∷ code.BackgroundCyan ∷ code.BackgroundWhite
    ∷ code.BackgroundColor ∷ code.BackgroundDefault ∷ code.OverlineOn ∷ code.OverlineOff
    ∷ code.UnderlineColor ∷ code.ResetUnderlineColor ∷ code.VerticalAlignSuperScript
    ∷ code.VerticalAlignSubScript ∷ code.VerticalAlignBaseLine ∷ code.ForegroundBrightBlack
    ∷ code.ForegroundBrightRed ∷ code.ForegroundBrightGreen ∷ code.ForegroundBrightYellow
    ∷ code.ForegroundBrightBlue ∷ code.ForegroundBrightMagenta ∷ code.ForegroundBrightCyan
    ∷ code.ForegroundBrightWhite ∷ code.BackgroundBrightBlack ∷ code.BackgroundBrightRed
    ∷ code.BackgroundBrightGreen ∷ code.BackgroundBrightYellow ∷ code.BackgroundBrightBlue
    ∷ code.BackgroundBrightMagenta ∷ code.BackgroundBrightCyan ∷ code.BackgroundBrightWhite ∷ []
