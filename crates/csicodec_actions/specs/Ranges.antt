-- The numbers that the types let stand.
use Rattle.csicodec_names.specs.{declared.color.ColorSpec.ColorSpec, declared.color.ColorSpec.TheVariants.Default}
use Rattle.csicodec_names.specs.{declared.color.ColorSpec.TheVariants.PaletteIndex, declared.color.ColorSpec.TheVariants.TrueColor}
use Rattle.csicodec_actions.specs.Actions.{Action, Sgr}
use Rattle.std.specs.Prelude.{◌<◌}
use Rattle.csicodec_base.specs.declared.sgr.Sgr as sgr_type
use Rattle.csicodec_base.specs.declared.sgr.Sgr.TheVariants as sgr
use Rattle.csicodec_base.specs.declared.sgr.Font.TheVariants as font

-- each number of a colour is a byte
abbrev pub ColorInRange : ColorSpec → Type 0
ColorInRange Default = Unit {0}
ColorInRange (PaletteIndex i) = i < 256
ColorInRange (TrueColor c) = (c.0 < 256) × (c.1 < 256) × (c.2 < 256) × (c.3 < 256)

-- the numbers of each attribute; no other has any
abbrev pub SgrInRange : sgr_type.Sgr → Type 0
SgrInRange (sgr.UnderlineColor c) = ColorInRange c
SgrInRange (sgr.Font (font.Alternate n)) = n < 256
SgrInRange (sgr.Foreground c) = ColorInRange c
SgrInRange (sgr.Background c) = ColorInRange c
SgrInRange s = Unit {0}

-- the numbers of attributes; what else is canonical is in range
abbrev pub InRange : Action → Type 0
InRange (Sgr s) = SgrInRange s
InRange a = Unit {0}
