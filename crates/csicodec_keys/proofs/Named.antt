-- Written by tools/table from table/keys.toml: change that, and run python3 tools/table.
-- All keys with a name alone, in the order of their tags.
use Rattle.std.proofs.Common.{List, [], ◌∷◌}
use Rattle.csicodec_keys.specs.declared.code.KeyCode.{KeyCode}
use Rattle.csicodec_keys.specs.declared.code.KeyCode.TheVariants as code

unfoldable pub named : List KeyCode
named =
    code.Enter ∷ code.Escape ∷ code.Tab ∷ code.Backspace ∷ code.Insert ∷ code.Delete ∷ code.Left ∷ code.Right ∷ code.Up ∷ code.Down ∷ code.PageUp
    ∷ code.PageDown ∷ code.Home ∷ code.End ∷ code.CapsLock ∷ code.ScrollLock ∷ code.NumLock ∷ code.PrintScreen ∷ code.Pause ∷ code.Menu
    ∷ code.Keypad0 ∷ code.Keypad1 ∷ code.Keypad2 ∷ code.Keypad3 ∷ code.Keypad4 ∷ code.Keypad5 ∷ code.Keypad6 ∷ code.Keypad7 ∷ code.Keypad8
    ∷ code.Keypad9 ∷ code.KeypadDecimal ∷ code.KeypadDivide ∷ code.KeypadMultiply ∷ code.KeypadSubtract ∷ code.KeypadAdd ∷ code.KeypadEnter
    ∷ code.KeypadEqual ∷ code.KeypadSeparator ∷ code.KeypadLeft ∷ code.KeypadRight ∷ code.KeypadUp ∷ code.KeypadDown ∷ code.KeypadPageUp
    ∷ code.KeypadPageDown ∷ code.KeypadHome ∷ code.KeypadEnd ∷ code.KeypadInsert ∷ code.KeypadDelete ∷ code.KeypadBegin ∷ code.MediaPlay
    ∷ code.MediaPause ∷ code.MediaPlayPause ∷ code.MediaReverse ∷ code.MediaStop ∷ code.MediaFastForward ∷ code.MediaRewind ∷ code.MediaNext
    ∷ code.MediaPrevious ∷ code.MediaRecord ∷ code.LowerVolume ∷ code.RaiseVolume ∷ code.MuteVolume ∷ code.LeftShift ∷ code.LeftCtrl
    ∷ code.LeftAlt ∷ code.LeftSuper ∷ code.LeftHyper ∷ code.LeftMeta ∷ code.RightShift ∷ code.RightCtrl ∷ code.RightAlt ∷ code.RightSuper
    ∷ code.RightHyper ∷ code.RightMeta ∷ code.IsoLevel3Shift ∷ code.IsoLevel5Shift ∷ code.KeypadTab ∷ code.KeypadSpace ∷ code.Text ∷ []
