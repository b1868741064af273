-- Modes: which one a number stands for, what is done to it, and how that is written.
use Rattle.csicodec_actions.specs.Common.{ℕ, List, [], dec_mode_number, terminal_mode_number, DecPrivateMode, TerminalMode, XtermKeyModifierResource}
use Rattle.csicodec_actions.specs.{declared.mode.Change.Change, declared.mode.Mode.Mode, declared.mode.Switch.Switch}
use Rattle.std.specs.Prelude.{◌∷◌}
use Rattle.csicodec_actions.specs.declared.mode.Change.TheVariants as change
use Rattle.csicodec_actions.specs.declared.mode.DecPrivateMode.TheVariants as dec
use Rattle.csicodec_actions.specs.declared.mode.Mode.TheVariants as mode
use Rattle.csicodec_actions.specs.declared.mode.Switch.TheVariants as switch
use Rattle.csicodec_actions.specs.declared.mode.TerminalMode.TheVariants as terminal
use Rattle.csicodec_actions.specs.declared.mode.XtermKeyModifierResource.TheVariants as resource

-- ---- numbers

-- the number that a mode is written as
abbrev pub dec_number : DecPrivateMode → ℕ
dec_number (dec.Code code) = dec_mode_number code
dec_number (dec.Unspecified own) = own

abbrev pub terminal_number : TerminalMode → ℕ
terminal_number (terminal.Code code) = terminal_mode_number code
terminal_number (terminal.Unspecified own) = own

-- the resources of modified keys (xterm, XTMODKEYS)
abbrev pub resource_number : XtermKeyModifierResource → ℕ
resource_number resource.Keyboard = 0
resource_number resource.CursorKeys = 1
resource_number resource.FunctionKeys = 2
resource_number resource.OtherKeys = 4

-- all resources: the list must be complete, a line for each variant
abbrev pub resources : List XtermKeyModifierResource
resources =
    resource.Keyboard ∷ resource.CursorKeys ∷ resource.FunctionKeys ∷ resource.OtherKeys ∷ []

-- ---- what is done

abbrev pub changed : Change → DecPrivateMode → Mode
changed change.Set m = mode.SetDecPrivateMode m
changed change.Reset m = mode.ResetDecPrivateMode m
changed change.Save m = mode.SaveDecPrivateMode m
changed change.Restore m = mode.RestoreDecPrivateMode m

abbrev pub switched : Switch → TerminalMode → Mode
switched switch.Set m = mode.SetMode m
switched switch.Reset m = mode.ResetMode m
