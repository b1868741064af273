-- What a step does to how characters look, and to how they look where that was saved, an action and an escape sequence do to text of which nothing is overwritten.
use Rattle.csicodec_overwrite.proofs.Common.{None, ◌≡◌, ℕ, Bool, true, false, List, [], ◌∷◌, refl, arith, cond_both, pen_behind_all, most}
use Rattle.std.proofs.lemmas.Bool.Decides.{nat_tests}
use Rattle.csicodec_actions.specs.{Actions.Action, declared.cursor.Cursor.Cursor, declared.edit.Edit.Edit, declared.mode.DecPrivateMode.DecPrivateMode}
use Rattle.csicodec_actions.specs.{declared.mode.Mode.Mode, Devices.Device, declared.mode.TerminalMode.TerminalMode}
use Rattle.csicodec_names.specs.{declared.modes.DecPrivateModeCode.DecPrivateModeCode, declared.enums.EraseInDisplay.EraseInDisplay}
use Rattle.csicodec_names.specs.{declared.enums.EraseInLine.EraseInLine, declared.modes.TerminalModeCode.TerminalModeCode}
use Rattle.csicodec_clean.specs.Saving.{behind_effect, effect_of, escape_effect}
use Rattle.csicodec_looks.specs.{declared.line.Line.Line, declared.pen.Pen.Pen, declared.step.Step.Step}
use Rattle.csicodec_overwrite.specs.{Steps.may_move, Steps.of_action, Steps.of_escape, Turned.looks_in}
use Rattle.csicodec_actions.specs.Devices as device
use Rattle.csicodec_actions.specs.Actions as action

abbrev Alike : Pen → Line → Action → Type 0
Alike pen l a = looks_in (pen_behind_all most pen (of_action a) l) ≡ behind_effect (looks_in pen) (effect_of a)

of_cursor_alike : (pen : Pen) (l : Line) (c : Cursor) → Alike pen l (action.Cursor c)
of_cursor_alike pen l Cursor.SaveCursor = refl
of_cursor_alike pen l _ = refl

of_edit_alike : (pen : Pen) (l : Line) (e : Edit) → Alike pen l (action.Edit e)
of_edit_alike pen l (Edit.EraseInLine EraseInLine.EraseToEndOfLine) = refl
of_edit_alike pen l (Edit.EraseInLine EraseInLine.EraseToStartOfLine) = refl
of_edit_alike pen l (Edit.EraseInLine EraseInLine.EraseLine) = refl
of_edit_alike pen l (Edit.EraseInDisplay EraseInDisplay.EraseToEndOfDisplay) = refl
of_edit_alike pen l (Edit.EraseInDisplay EraseInDisplay.EraseToStartOfDisplay) = refl
of_edit_alike pen l (Edit.EraseInDisplay EraseInDisplay.EraseDisplay) = refl
of_edit_alike pen l (Edit.EraseInDisplay EraseInDisplay.EraseScrollback) = refl
of_edit_alike pen l _ = refl

set_alike : (pen : Pen) (l : Line) (c : DecPrivateModeCode) → Alike pen l (action.Mode (Mode.SetDecPrivateMode (DecPrivateMode.Code c)))
set_alike pen l DecPrivateModeCode.SaveCursor = refl
set_alike pen l _ = refl

reset_alike : (pen : Pen) (l : Line) (c : DecPrivateModeCode) → Alike pen l (action.Mode (Mode.ResetDecPrivateMode (DecPrivateMode.Code c)))
reset_alike pen l DecPrivateModeCode.SaveCursor = refl
reset_alike pen l _ = refl

restored_alike : (pen : Pen) (l : Line) (c : DecPrivateModeCode) → Alike pen l (action.Mode (Mode.RestoreDecPrivateMode (DecPrivateMode.Code c)))
restored_alike pen l DecPrivateModeCode.SaveCursor = refl
restored_alike pen l _ = refl

terminal_alike : (pen : Pen) (l : Line) (c : TerminalModeCode) → Alike pen l (action.Mode (Mode.SetMode (TerminalMode.Code c))) × Alike pen l (action.Mode (Mode.ResetMode (TerminalMode.Code c)))
terminal_alike pen l TerminalModeCode.Insert = (refl, refl)
terminal_alike pen l _ = (refl, refl)

of_mode_alike : (pen : Pen) (l : Line) (m : Mode) → Alike pen l (action.Mode m)
of_mode_alike pen l (Mode.SetDecPrivateMode (DecPrivateMode.Code c)) = set_alike pen l c
of_mode_alike pen l (Mode.SetDecPrivateMode (DecPrivateMode.Unspecified n)) = refl
of_mode_alike pen l (Mode.ResetDecPrivateMode (DecPrivateMode.Code c)) = reset_alike pen l c
of_mode_alike pen l (Mode.ResetDecPrivateMode (DecPrivateMode.Unspecified n)) = refl
of_mode_alike pen l (Mode.RestoreDecPrivateMode (DecPrivateMode.Code c)) = restored_alike pen l c
of_mode_alike pen l (Mode.RestoreDecPrivateMode (DecPrivateMode.Unspecified n)) = refl
of_mode_alike pen l (Mode.SetMode (TerminalMode.Code c)) = (terminal_alike pen l c).0
of_mode_alike pen l (Mode.SetMode (TerminalMode.Unspecified n)) = refl
of_mode_alike pen l (Mode.ResetMode (TerminalMode.Code c)) = (terminal_alike pen l c).1
of_mode_alike pen l (Mode.ResetMode (TerminalMode.Unspecified n)) = refl
of_mode_alike pen l _ = refl

of_device_alike : (pen : Pen) (l : Line) (d : Device) → Alike pen l (action.Device d)
of_device_alike pen l device.SoftReset = refl
of_device_alike pen l _ = refl

pub of_action_alike : (pen : Pen) (l : Line) (a : Action) → Alike pen l a
of_action_alike pen l (action.Cursor c) = of_cursor_alike pen l c
of_action_alike pen l (action.Edit e) = of_edit_alike pen l e
of_action_alike pen l (action.Mode m) = of_mode_alike pen l m
of_action_alike pen l (action.Device d) = of_device_alike pen l d
of_action_alike pen l (action.Unspecified params flag final) =
    cond_both (may_move params final) (Step.Leave None ∷ []) [] (λ (steps : List Step). looks_in (pen_behind_all most pen steps l) ≡ looks_in pen) (λ _. refl) (λ _. refl)
of_action_alike pen l _ = refl

pub of_escape_alike : (pen : Pen) (l : Line) (bytes : List ℕ)
    → looks_in (pen_behind_all most pen (of_escape bytes) l) ≡ behind_effect (looks_in pen) (escape_effect bytes)
of_escape_alike pen l bytes = grind (arith, nat_tests)
