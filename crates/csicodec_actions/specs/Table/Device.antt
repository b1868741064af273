-- What a terminal is, asked and answered (DA1 to DA3 and DECSTR of DEC's terminals, DECREQTPARM of the VT100, DSR of ECMA-48, XTVERSION of xterm): lists
-- before a final character, and what each action is written as; graphics are in a table of their own.
use Rattle.std.specs.Prelude.{◌+ℤ◌, ◌∷◌, ◌++◌}
use Rattle.csicodec_actions.specs.{Actions.Action, Actions.Device, Rows.Row, Rows.row, Rows.open_row, Rows.Number, Rows.mark, Rows.Before, Rows.before}
use Rattle.csicodec_actions.specs.{Rows.read_by, Table.XtSmGraphics.written_graphics, Written.Item, Written.Attribute, Written.Written, Written.any_number}
use Rattle.csicodec_actions.specs.{Written.listed, Written.fixed, Written.write, Written.put, Common.ℕ, Common.ℤ, Common.List, Common.[], Common.Option}
use Rattle.csicodec_actions.specs.{Common.pos, Common.CsiParam, Common.DeviceAttribute}
use Rattle.csicodec_actions.specs.Devices as devices

-- nothing or 0, also behind `>` and `=`
abbrev pub requests : List (Row Action)
requests =
    row [] (Device devices.RequestPrimaryDeviceAttributes)
    ∷ row (Number 0 ∷ []) (Device devices.RequestPrimaryDeviceAttributes)
    ∷ row (mark ">" ∷ []) (Device devices.RequestSecondaryDeviceAttributes)
    ∷ row (mark ">" ∷ Number 0 ∷ []) (Device devices.RequestSecondaryDeviceAttributes)
    ∷ row (mark "=" ∷ []) (Device devices.RequestTertiaryDeviceAttributes)
    ∷ row (mark "=" ∷ Number 0 ∷ []) (Device devices.RequestTertiaryDeviceAttributes)
    ∷ []

abbrev pub answer : devices.Attributes → Action
answer a = Device (devices.DeviceAttributes a)

-- behind `?` a terminal
abbrev pub terminals : List (Row Action)
terminals =
    row (mark "?" ∷ Number 1 ∷ mark ";" ∷ Number 2 ∷ []) (answer devices.Vt100WithAdvancedVideoOption)
    ∷ row (mark "?" ∷ Number 1 ∷ mark ";" ∷ Number 0 ∷ []) (answer devices.Vt101WithNoOptions)
    ∷ row (mark "?" ∷ Number 6 ∷ []) (answer devices.Vt102)
    ∷ []

-- behind `?` the service class of a terminal, and then its extensions
abbrev pub classes : List (Row Action)
classes =
    open_row (mark "?" ∷ Number 62 ∷ []) (λ rest.
    answer (devices.Vt220 (devices.listed_attributes rest)))
    ∷ open_row (mark "?" ∷ Number 63 ∷ []) (λ rest.
    answer (devices.Vt320 (devices.listed_attributes rest)))
    ∷ open_row (mark "?" ∷ Number 64 ∷ []) (λ rest.
    answer (devices.Vt420 (devices.listed_attributes rest)))
    ∷ []

-- nothing is 0
abbrev pub parameters : List (Row Action)
parameters =
    row [] (Device (devices.RequestTerminalParameters (pos 0)))
    ∷ row (Number 0 ∷ []) (Device (devices.RequestTerminalParameters (pos 0)))
    ∷ row (Number 1 ∷ []) (Device (devices.RequestTerminalParameters (pos 1)))
    ∷ []

-- a line for each final character
abbrev pub device_rows : List (Before Action)
device_rows =
    before "c" (requests ++ (terminals ++ classes))
    ∷ before "p" (row (mark "!" ∷ []) (Device devices.SoftReset) ∷ [])
    ∷ before "n" (row (Number 5 ∷ []) (Device devices.StatusReport) ∷ [])
    ∷ before "q" (row (mark ">" ∷ []) (Device devices.RequestTerminalNameAndVersion) ∷ row (mark ">" ∷ Number 0 ∷ []) (Device devices.RequestTerminalNameAndVersion) ∷ [])
    ∷ before "x" parameters
    ∷ []

unfoldable pub as_device : List CsiParam → ℕ → Option Action
as_device list final = read_by device_rows list final

-- the number of the service class, and then each extension
abbrev pub written_class : ℕ → List DeviceAttribute → Written
written_class class attributes = write (put "?" ∷ fixed class ∷ listed Attribute attributes) "c"

-- a line for each variant
abbrev pub written_attributes : devices.Attributes → Written
written_attributes devices.Vt100WithAdvancedVideoOption =
    write (put "?" ∷ fixed 1 ∷ put ";" ∷ fixed 2 ∷ []) "c"
written_attributes devices.Vt101WithNoOptions =
    write (put "?" ∷ fixed 1 ∷ put ";" ∷ fixed 0 ∷ []) "c"
written_attributes devices.Vt102 = write (put "?" ∷ fixed 6 ∷ []) "c"
written_attributes (devices.Vt220 attributes) = written_class 62 attributes
written_attributes (devices.Vt320 attributes) = written_class 63 attributes
written_attributes (devices.Vt420 attributes) = written_class 64 attributes

-- the parameters of a serial line: no parity, 8 bits, 128 both ways (38400 baud in xterm), 1 for a clock multiplier of 16, no switches
abbrev pub line : List Item
line = listed fixed (1 ∷ 1 ∷ 128 ∷ 128 ∷ 1 ∷ 0 ∷ [])

-- a request is written as the report: its number and 2, and then the parameters
abbrev pub written_parameters : ℤ → Written
written_parameters z = write (any_number (z +ℤ pos 2) ∷ line) "x"

-- a line for each variant
abbrev pub written_device : devices.Device → Written
written_device (devices.DeviceAttributes a) = written_attributes a
written_device devices.SoftReset = write (put "!" ∷ []) "p"
written_device devices.RequestPrimaryDeviceAttributes = write [] "c"
written_device devices.RequestSecondaryDeviceAttributes = write (put ">" ∷ []) "c"
written_device devices.RequestTertiaryDeviceAttributes = write (put "=" ∷ []) "c"
written_device devices.RequestTerminalNameAndVersion = write (put ">" ∷ []) "q"
written_device (devices.RequestTerminalParameters n) = written_parameters n
written_device devices.StatusReport = write (fixed 5 ∷ []) "n"
written_device (devices.XtSmGraphics item action_or_status value) =
    written_graphics item action_or_status value
