-- The numbers of a terminal's extensions, in its primary device attributes (DA1).
use Rattle.std.specs.Prelude.{ℕ, List, [], ◌∷◌}
use Rattle.csicodec_names.specs.declared.device.DeviceAttributeCodes.{DeviceAttributeCodes}
use Rattle.csicodec_names.specs.declared.device.DeviceAttributeCodes.TheVariants as code

abbrev pub device_attribute_number : DeviceAttributeCodes → ℕ
device_attribute_number code.Columns132 = 1
device_attribute_number code.Printer = 2
device_attribute_number code.RegisGraphics = 3
device_attribute_number code.SixelGraphics = 4
device_attribute_number code.SelectiveErase = 6
device_attribute_number code.UserDefinedKeys = 8
device_attribute_number code.NationalReplacementCharsets = 9
device_attribute_number code.TechnicalCharacters = 15
device_attribute_number code.UserWindows = 18
device_attribute_number code.HorizontalScrolling = 21
device_attribute_number code.AnsiColor = 22
device_attribute_number code.AnsiTextLocator = 29

-- all extensions: the list must be complete, a line for each variant
abbrev pub device_attribute_codes : List DeviceAttributeCodes
device_attribute_codes =
    code.Columns132 ∷ code.Printer ∷ code.RegisGraphics ∷ code.SixelGraphics ∷ code.SelectiveErase
    ∷ code.UserDefinedKeys ∷ code.NationalReplacementCharsets ∷ code.TechnicalCharacters
    ∷ code.UserWindows ∷ code.HorizontalScrolling ∷ code.AnsiColor ∷ code.AnsiTextLocator ∷ []
