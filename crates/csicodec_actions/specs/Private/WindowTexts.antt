-- What private steps say of the numbers in the text of a window. Nothing public rests on this file.
use Rattle.csicodec_actions.specs.{declared.window.Numbers.Numbers, declared.window.Numbers.TheVariants.Alone, declared.window.Numbers.TheVariants.Which}
use Rattle.csicodec_actions.specs.{declared.window.Numbers.TheVariants.Two, declared.window.Numbers.TheVariants.Area, Table.Window.alone, Table.Window.which}
use Rattle.csicodec_actions.specs.{Table.Window.two, Table.Window.written_window, Written.Written, declared.window.Window.Window}

abbrev pub written_numbers : Numbers → Written
written_numbers (Alone code) = alone code
written_numbers (Which code number) = which code number
written_numbers (Two code a b) = two code a b
written_numbers (Area request page top left bottom right) =
    written_window (Window.ChecksumRectangularArea request page top left bottom right)
