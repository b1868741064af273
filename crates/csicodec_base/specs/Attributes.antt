-- Written by tools/table from table/sgr.toml: change that, and run python3 tools/table.
-- The attributes that codes set (SGR; ECMA-48, 8.3.117).
use Rattle.std.specs.Prelude.{ℕ, ◌-◌, nat_lt, if◌then◌else◌, Option, Some, None, true, false}
use Rattle.csicodec_names.specs.Numbers.{number_of}
use Rattle.csicodec_names.specs.declared.codes.SgrCode.{SgrCode}
use Rattle.csicodec_names.specs.declared.codes.SgrCode.TheVariants as code
use Rattle.csicodec_base.specs.declared.sgr.Sgr.{Sgr}
use Rattle.csicodec_base.specs.declared.sgr.Sgr.TheVariants as sgr
use Rattle.csicodec_names.specs.declared.color.Intensity.TheVariants as intensity
use Rattle.csicodec_names.specs.declared.color.Underline.TheVariants as underline
use Rattle.csicodec_names.specs.declared.color.Blink.TheVariants as blink
use Rattle.csicodec_names.specs.declared.color.VerticalAlign.TheVariants as align
use Rattle.csicodec_base.specs.declared.sgr.Font.TheVariants as font
use Rattle.csicodec_names.specs.declared.color.ColorSpec.TheVariants as color

-- the attribute of a number that counts what it sets: 11 to 19 a font; 30 to 37 a colour of the character and 40 to 47 one of the ground, of the
-- first 8 of the palette; and 90 to 97 and 100 to 107 one of the 8 bright ones behind them
abbrev pub counted : ℕ → Sgr
counted n =
    if nat_lt n 20 then sgr.Font (font.Alternate (n - 10))
    else if nat_lt n 38 then sgr.Foreground (color.PaletteIndex (n - 30))
    else if nat_lt n 48 then sgr.Background (color.PaletteIndex (n - 40))
    else if nat_lt n 98 then sgr.Foreground (color.PaletteIndex (n - 82))
    else sgr.Background (color.PaletteIndex (n - 92))

-- the attribute that each code sets alone, by its number where that counts; none for 4, 38, 48 and 58, which can have further tokens or need them
abbrev pub action_of : SgrCode → Option Sgr
action_of code.Reset = Some sgr.Reset
action_of code.IntensityBold = Some (sgr.Intensity intensity.Bold)
action_of code.IntensityDim = Some (sgr.Intensity intensity.Half)
action_of code.ItalicOn = Some (sgr.Italic true)
action_of code.UnderlineOn = None
action_of code.BlinkOn = Some (sgr.Blink blink.Slow)
action_of code.RapidBlinkOn = Some (sgr.Blink blink.Rapid)
action_of code.InverseOn = Some (sgr.Inverse true)
action_of code.InvisibleOn = Some (sgr.Invisible true)
action_of code.StrikeThroughOn = Some (sgr.StrikeThrough true)
action_of code.DefaultFont = Some (sgr.Font font.Default)
action_of code.UnderlineDouble = Some (sgr.Underline underline.Double)
action_of code.NormalIntensity = Some (sgr.Intensity intensity.Normal)
action_of code.ItalicOff = Some (sgr.Italic false)
action_of code.UnderlineOff = Some (sgr.Underline underline.None)
action_of code.BlinkOff = Some (sgr.Blink blink.None)
action_of code.InverseOff = Some (sgr.Inverse false)
action_of code.InvisibleOff = Some (sgr.Invisible false)
action_of code.StrikeThroughOff = Some (sgr.StrikeThrough false)
action_of code.ForegroundColor = None
action_of code.ForegroundDefault = Some (sgr.Foreground color.Default)
action_of code.BackgroundColor = None
action_of code.BackgroundDefault = Some (sgr.Background color.Default)
action_of code.OverlineOn = Some (sgr.Overline true)
action_of code.OverlineOff = Some (sgr.Overline false)
action_of code.UnderlineColor = None
action_of code.ResetUnderlineColor = Some (sgr.UnderlineColor color.Default)
action_of code.VerticalAlignSuperScript = Some (sgr.VerticalAlign align.SuperScript)
action_of code.VerticalAlignSubScript = Some (sgr.VerticalAlign align.SubScript)
action_of code.VerticalAlignBaseLine = Some (sgr.VerticalAlign align.BaseLine)
action_of code = Some (counted (number_of code))
