-- The first 16 places of a terminal's palette, by name.
use Rattle.std.specs.Prelude.{ℕ}
use Rattle.csicodec_names.specs.declared.color.AnsiColor.{AnsiColor}

-- the place of each name, a line for each variant: 0 to 7, then the bright ones
abbrev pub place_of : AnsiColor → ℕ
place_of AnsiColor.Black = 0
place_of AnsiColor.Maroon = 1
place_of AnsiColor.Green = 2
place_of AnsiColor.Olive = 3
place_of AnsiColor.Navy = 4
place_of AnsiColor.Purple = 5
place_of AnsiColor.Teal = 6
place_of AnsiColor.Silver = 7
place_of AnsiColor.Grey = 8
place_of AnsiColor.Red = 9
place_of AnsiColor.Lime = 10
place_of AnsiColor.Yellow = 11
place_of AnsiColor.Blue = 12
place_of AnsiColor.Fuchsia = 13
place_of AnsiColor.Aqua = 14
place_of AnsiColor.White = 15
