-- What a device says or is asked, without where it lies in memory; and the extensions that a terminal names, as tokens.
use Rattle.csicodec_names.specs.DeviceNumbers.{device_attribute_codes}
use Rattle.csicodec_actions.specs.Common.{ℤ, List, [], length, Option, None, Some, pos, flat_map, device_attribute_number, with_number, DeviceAttributeCodes, CsiParam, Integer, P, DeviceAttribute, XtSmGraphicsItem}
use Rattle.csicodec_actions.specs.{declared.xtsmgraphics.XtSmGraphics.XtSmGraphics as GraphicsType}
use Rattle.csicodec_actions.specs.{declared.device.DeviceAttributes.DeviceAttributes as AttributesType, declared.device.Device.Device as DeviceType}
use Rattle.csicodec_actions.specs.{declared.device.DeviceAttribute.TheVariants.Code, declared.device.DeviceAttribute.TheVariants.Unspecified}
use Rattle.std.specs.Prelude.{◌<◌, ◌==◌, ◌∷◌, if◌then◌else◌}

-- ---- one constructor for each variant, with lists in place of vectors

pub data Attributes : Type 0 where
  Vt100WithAdvancedVideoOption : Attributes
  Vt101WithNoOptions : Attributes
  Vt102 : Attributes
  Vt220 : List DeviceAttribute → Attributes
  Vt320 : List DeviceAttribute → Attributes
  Vt420 : List DeviceAttribute → Attributes

pub data Device : Type 0 where
  DeviceAttributes : Attributes → Device
  SoftReset : Device
  RequestPrimaryDeviceAttributes : Device
  RequestSecondaryDeviceAttributes : Device
  RequestTertiaryDeviceAttributes : Device
  RequestTerminalNameAndVersion : Device
  RequestTerminalParameters : ℤ → Device
  StatusReport : Device
  XtSmGraphics : (item : XtSmGraphicsItem) (action_or_status : ℤ) (value : List ℤ) → Device

abbrev pub attributes_of : AttributesType → Attributes
attributes_of AttributesType.Vt100WithAdvancedVideoOption = Vt100WithAdvancedVideoOption
attributes_of AttributesType.Vt101WithNoOptions = Vt101WithNoOptions
attributes_of AttributesType.Vt102 = Vt102
attributes_of (AttributesType.Vt220 flags) = Vt220 flags.attributes.items
attributes_of (AttributesType.Vt320 flags) = Vt320 flags.attributes.items
attributes_of (AttributesType.Vt420 flags) = Vt420 flags.attributes.items

abbrev pub graphics_of : GraphicsType → Device
graphics_of g = XtSmGraphics g.item g.action_or_status g.value.items

abbrev pub device_of : DeviceType → Device
device_of (DeviceType.DeviceAttributes a) = DeviceAttributes (attributes_of a)
device_of DeviceType.SoftReset = SoftReset
device_of DeviceType.RequestPrimaryDeviceAttributes = RequestPrimaryDeviceAttributes
device_of DeviceType.RequestSecondaryDeviceAttributes = RequestSecondaryDeviceAttributes
device_of DeviceType.RequestTertiaryDeviceAttributes = RequestTertiaryDeviceAttributes
device_of DeviceType.RequestTerminalNameAndVersion = RequestTerminalNameAndVersion
device_of (DeviceType.RequestTerminalParameters n) = RequestTerminalParameters n
device_of DeviceType.StatusReport = StatusReport
device_of (DeviceType.XtSmGraphics g) = graphics_of g

-- ---- memory

-- an answer with extensions
abbrev pub HasExtensions : Attributes → Type 0
HasExtensions (Vt220 attributes) = 0 < length attributes
HasExtensions (Vt320 attributes) = 0 < length attributes
HasExtensions (Vt420 attributes) = 0 < length attributes
HasExtensions a = ⊥

-- extensions, and the values of graphics, are all that takes memory
abbrev pub HoldsMemory : Device → Type 0
HoldsMemory (DeviceAttributes a) = HasExtensions a
HoldsMemory (XtSmGraphics item action_or_status value) = 0 < length value
HoldsMemory d = ⊥

-- ---- extensions as tokens

-- the code, if there is one, and else the token
abbrev pub code_or_token : CsiParam → Option DeviceAttributeCodes → DeviceAttribute
code_or_token t None = Unspecified t
code_or_token t (Some c) = Code c

-- the number of a code is the code, and any other token is itself
abbrev pub attribute_of : CsiParam → DeviceAttribute
attribute_of (Integer z) =
    code_or_token (Integer z) (with_number device_attribute_number device_attribute_codes z)
attribute_of (P b) = Unspecified (P b)

-- none for `;`
abbrev pub attribute_at : CsiParam → List DeviceAttribute
attribute_at (Integer z) = attribute_of (Integer z) ∷ []
attribute_at (P b) = if b == 59 then [] else attribute_of (P b) ∷ []

-- one for each token but `;`
abbrev pub listed_attributes : List CsiParam → List DeviceAttribute
listed_attributes list = flat_map attribute_at list

abbrev pub attribute_token : DeviceAttribute → CsiParam
attribute_token (Code c) = Integer (pos (device_attribute_number c))
attribute_token (Unspecified t) = t
