-- Operations on the window (XTWINOPS of xterm and dtterm) and the checksum of an area (DECRQCRA of DEC's VT420): lists before `t` and `y`, read
-- by their fields, and what each action is written as.
use Rattle.csicodec_actions.specs.FieldRows.{FieldRow, field_row, This, Empty, End, Maybe, There, Must, Or, Over, over, no_byte, byte, read_fields}
use Rattle.csicodec_actions.specs.{Actions.Action, Actions.Window, Kinds.Any, Kinds.Count, Written.Item, Written.Written, Written.The, Written.fixed}
use Rattle.csicodec_actions.specs.{Written.write, Written.put, Common.ℕ, Common.ℤ, Common.List, Common.[], Common.Option, Common.Some, Common.None, Common.pos}
use Rattle.csicodec_actions.specs.{Common.CsiParam}
use Rattle.std.specs.Prelude.{◌∷◌, ◌++◌}
use Rattle.csicodec_actions.specs.declared.window.Window as window_type
use Rattle.csicodec_actions.specs.declared.window.Window.TheVariants as window

-- `code`
abbrev pub alone_rows : List (FieldRow Action)
alone_rows =
    field_row (This 1 ∷ []) (Window window.DeIconify)
    ∷ field_row (This 2 ∷ []) (Window window.Iconify)
    ∷ field_row (This 5 ∷ []) (Window window.RaiseWindow)
    ∷ field_row (This 7 ∷ []) (Window window.RefreshWindow)
    ∷ field_row (This 11 ∷ []) (Window window.ReportWindowState)
    ∷ field_row (This 15 ∷ []) (Window window.ReportScreenSizePixels)
    ∷ field_row (This 16 ∷ []) (Window window.ReportCellSizePixels)
    ∷ field_row (This 18 ∷ []) (Window window.ReportTextAreaSizeCells)
    ∷ field_row (This 19 ∷ []) (Window window.ReportScreenSizeCells)
    ∷ field_row (This 20 ∷ []) (Window window.ReportIconLabel)
    ∷ field_row (This 21 ∷ []) (Window window.ReportWindowTitle)
    ∷ []

-- `code ; which`
abbrev pub which_rows : List (FieldRow Action)
which_rows =
    field_row (This 9 ∷ This 0 ∷ []) (Window window.RestoreMaximizedWindow)
    ∷ field_row (This 9 ∷ This 1 ∷ []) (Window window.MaximizeWindow)
    ∷ field_row (This 9 ∷ This 2 ∷ []) (Window window.MaximizeWindowVertically)
    ∷ field_row (This 9 ∷ This 3 ∷ []) (Window window.MaximizeWindowHorizontally)
    ∷ field_row (This 10 ∷ This 0 ∷ []) (Window window.UndoFullScreenMode)
    ∷ field_row (This 10 ∷ This 1 ∷ []) (Window window.ChangeToFullScreenMode)
    ∷ field_row (This 10 ∷ This 2 ∷ []) (Window window.ToggleFullScreen)
    ∷ field_row (This 13 ∷ Empty ∷ []) (Window window.ReportWindowPosition)
    ∷ field_row (This 13 ∷ This 2 ∷ []) (Window window.ReportTextAreaPosition)
    ∷ field_row (This 14 ∷ Empty ∷ []) (Window window.ReportTextAreaSizePixels)
    ∷ field_row (This 14 ∷ This 2 ∷ []) (Window window.ReportWindowSizePixels)
    ∷ field_row (This 22 ∷ This 0 ∷ []) (Window window.PushIconAndWindowTitle)
    ∷ field_row (This 22 ∷ This 1 ∷ []) (Window window.PushIconTitle)
    ∷ field_row (This 22 ∷ This 2 ∷ []) (Window window.PushWindowTitle)
    ∷ field_row (This 23 ∷ This 0 ∷ []) (Window window.PopIconAndWindowTitle)
    ∷ field_row (This 23 ∷ This 1 ∷ []) (Window window.PopIconTitle)
    ∷ field_row (This 23 ∷ This 2 ∷ []) (Window window.PopWindowTitle)
    ∷ []

-- `code ; x ; y` and `code ; height ; width`; 6 alone is an operation, and with any field behind it an answer
abbrev pub two_rows : List (FieldRow Action)
two_rows =
    field_row (This 3 ∷ Or Any (pos 0) ∷ Or Any (pos 0) ∷ []) (λ x y.
    Window (window.MoveWindow x y))
    ∷ field_row (This 4 ∷ Maybe ∷ Maybe ∷ []) (λ height width.
    Window (window.ResizeWindowPixels width height))
    ∷ field_row (This 6 ∷ End ∷ []) (Window window.LowerWindow)
    ∷ field_row (This 6 ∷ There ∷ Maybe ∷ []) (λ height width.
    Window (window.ReportCellSizePixelsResponse width height))
    ∷ field_row (This 8 ∷ Maybe ∷ Maybe ∷ []) (λ height width.
    Window (window.ResizeWindowCells width height))
    ∷ []

abbrev pub windows : List (FieldRow Action)
windows = alone_rows ++ (which_rows ++ two_rows)

-- `request ; page ; top ; left ; bottom ; right`, of which the last four may be missing
abbrev pub areas : List (FieldRow Action)
areas =
    field_row (Must Any ∷ Must Any ∷ Or Count 1 ∷ Or Count 1 ∷ Or Count 1 ∷ Or Count 1 ∷ [])
    (λ request page top left bottom right.
    Window (window.ChecksumRectangularArea request page top left bottom right))
    ∷ []

abbrev pub window_fields : List (Over Action)
window_fields =
    over no_byte no_byte "t" windows
    ∷ over no_byte (byte "*") "y" areas
    ∷ []

unfoldable pub as_window : List CsiParam → ℕ → Option Action
as_window list final = read_fields window_fields list final

-- ---- what is written

-- an absent number leaves nothing
abbrev pub maybe : Option ℤ → List Item
maybe None = []
maybe (Some z) = The Any z ∷ []

abbrev pub alone : ℕ → Written
alone code = write (fixed code ∷ []) "t"

abbrev pub which : ℕ → ℕ → Written
which code number = write (fixed code ∷ put ";" ∷ fixed number ∷ []) "t"

abbrev pub two : ℕ → Option ℤ → Option ℤ → Written
two code a b = write (fixed code ∷ put ";" ∷ maybe a ++ put ";" ∷ maybe b) "t"

-- a line for each variant
abbrev pub written_window : window_type.Window → Written
written_window window.DeIconify = alone 1
written_window window.Iconify = alone 2
written_window (window.MoveWindow x y) = two 3 (Some x) (Some y)
written_window (window.ResizeWindowPixels width height) = two 4 height width
written_window window.RaiseWindow = alone 5
written_window window.LowerWindow = alone 6
written_window (window.ReportCellSizePixelsResponse width height) = two 6 height width
written_window window.RefreshWindow = alone 7
written_window (window.ResizeWindowCells width height) = two 8 height width
written_window window.RestoreMaximizedWindow = which 9 0
written_window window.MaximizeWindow = which 9 1
written_window window.MaximizeWindowVertically = which 9 2
written_window window.MaximizeWindowHorizontally = which 9 3
written_window window.UndoFullScreenMode = which 10 0
written_window window.ChangeToFullScreenMode = which 10 1
written_window window.ToggleFullScreen = which 10 2
written_window window.ReportWindowState = alone 11
written_window window.ReportWindowPosition = alone 13
written_window window.ReportTextAreaPosition = which 13 2
written_window window.ReportTextAreaSizePixels = alone 14
written_window window.ReportWindowSizePixels = which 14 2
written_window window.ReportScreenSizePixels = alone 15
written_window window.ReportCellSizePixels = alone 16
written_window window.ReportTextAreaSizeCells = alone 18
written_window window.ReportScreenSizeCells = alone 19
written_window window.ReportIconLabel = alone 20
written_window window.ReportWindowTitle = alone 21
written_window window.PushIconAndWindowTitle = which 22 0
written_window window.PushIconTitle = which 22 1
written_window window.PushWindowTitle = which 22 2
written_window window.PopIconAndWindowTitle = which 23 0
written_window window.PopIconTitle = which 23 1
written_window window.PopWindowTitle = which 23 2
written_window (window.ChecksumRectangularArea request page top left bottom right) =
    write (The Any request ∷ put ";" ∷ The Any page ∷ put ";" ∷ The Count top ∷ put ";" ∷ The Count left ∷ put ";" ∷ The Count bottom ∷ put ";" ∷ The Count right ∷ put "*" ∷ []) "y"
