-- The texts that set attributes (SGR): what stands behind `ESC [`, the final byte `m` with it.
use Rattle.std.specs.{Prelude.ℕ, Prelude.◌+◌, Prelude.◌==◌, Prelude.List, Prelude.[], Prelude.◌++◌, Prelude.if◌then◌else◌, Prelude.nat_lt, Prelude.nat_le}
use Rattle.std.specs.{Prelude.◌&&◌, Prelude.codes, Fmt.decimal}
use Rattle.csicodec_base.specs.declared.sgr.Sgr.{Sgr}
use Rattle.csicodec_names.specs.{declared.color.Intensity.TheVariants.Normal, declared.color.Intensity.TheVariants.Bold}
use Rattle.csicodec_names.specs.{declared.color.Intensity.TheVariants.Half, declared.color.SrgbaTuple.SrgbaTuple}
use Rattle.csicodec_base.specs.declared.sgr.Sgr.TheVariants as sgr
use Rattle.csicodec_names.specs.declared.color.Underline.TheVariants as underline
use Rattle.csicodec_names.specs.declared.color.Blink.TheVariants as blink
use Rattle.csicodec_names.specs.declared.color.VerticalAlign.TheVariants as align
use Rattle.csicodec_base.specs.declared.sgr.Font.TheVariants as font
use Rattle.csicodec_names.specs.declared.color.ColorSpec.TheVariants as color

-- a place in the palette, for the plane whose code of black is `first`: the first 8 and the 8 bright
-- ones behind them have codes of their own (`31m`, `91m`), any other is named by its number (`38:5:16m`)
abbrev pub palette_text : ℕ → ℕ → List ℕ
palette_text first i =
    if nat_lt i 8
    then decimal (i + first) ++ codes "m"
    else if nat_lt i 16
    then decimal (i + first + 52) ++ codes "m"
    else (decimal (first + 8) ++ (codes ":5:" ++ (decimal i ++ codes "m")))

-- red, green and blue behind an empty colour space (`38:2::1:2:3m`), and the alpha unless it is 255 (`38:6::1:2:3:4m`)
abbrev pub true_color_text : ℕ → SrgbaTuple → List ℕ
true_color_text code c =
    if c.3 == 255
    then decimal code ++ (codes ":2::" ++ (decimal c.0 ++ (codes ":" ++ (decimal c.1 ++ (codes ":" ++ (decimal c.2 ++ codes "m"))))))
    else (decimal code ++ (codes ":6::" ++ (decimal c.0 ++ (codes ":" ++ (decimal c.1 ++ (codes ":" ++ (decimal c.2 ++ (codes ":" ++ (decimal c.3 ++ codes "m")))))))))

-- the alternative fonts are 1 to 9, `11m` to `19m`; another has no text at all
abbrev pub font_text : ℕ → List ℕ
font_text n = if nat_le 1 n && nat_le n 9 then decimal (n + 10) ++ codes "m" else []

-- the text of each attribute, a line for each variant
abbrev pub sgr_text : Sgr → List ℕ
sgr_text sgr.Reset = codes "0m"
sgr_text (sgr.Intensity Normal) = codes "22m"
sgr_text (sgr.Intensity Bold) = codes "1m"
sgr_text (sgr.Intensity Half) = codes "2m"
sgr_text (sgr.Underline underline.None) = codes "24m"
sgr_text (sgr.Underline underline.Single) = codes "4m"
sgr_text (sgr.Underline underline.Double) = codes "21m"
sgr_text (sgr.Underline underline.Curly) = codes "4:3m"
sgr_text (sgr.Underline underline.Dotted) = codes "4:4m"
sgr_text (sgr.Underline underline.Dashed) = codes "4:5m"
sgr_text (sgr.UnderlineColor color.Default) = codes "59m"
sgr_text (sgr.UnderlineColor (color.PaletteIndex i)) = codes "58:5:" ++ (decimal i ++ codes "m")
sgr_text (sgr.UnderlineColor (color.TrueColor c)) = true_color_text 58 c
sgr_text (sgr.Blink blink.None) = codes "25m"
sgr_text (sgr.Blink blink.Slow) = codes "5m"
sgr_text (sgr.Blink blink.Rapid) = codes "6m"
sgr_text (sgr.Italic on) = if on then codes "3m" else codes "23m"
sgr_text (sgr.Inverse on) = if on then codes "7m" else codes "27m"
sgr_text (sgr.Invisible on) = if on then codes "8m" else codes "28m"
sgr_text (sgr.StrikeThrough on) = if on then codes "9m" else codes "29m"
sgr_text (sgr.Font font.Default) = codes "10m"
sgr_text (sgr.Font (font.Alternate n)) = font_text n
sgr_text (sgr.Foreground color.Default) = codes "39m"
sgr_text (sgr.Foreground (color.PaletteIndex i)) = palette_text 30 i
sgr_text (sgr.Foreground (color.TrueColor c)) = true_color_text 38 c
sgr_text (sgr.Background color.Default) = codes "49m"
sgr_text (sgr.Background (color.PaletteIndex i)) = palette_text 40 i
sgr_text (sgr.Background (color.TrueColor c)) = true_color_text 48 c
sgr_text (sgr.Overline on) = if on then codes "53m" else codes "55m"
sgr_text (sgr.VerticalAlign align.BaseLine) = codes "75m"
sgr_text (sgr.VerticalAlign align.SuperScript) = codes "73m"
sgr_text (sgr.VerticalAlign align.SubScript) = codes "74m"
