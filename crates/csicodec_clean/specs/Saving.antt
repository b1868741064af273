-- How text looks, and how it looked where that was saved, behind what stands between its runs. DECSC saves it with the cursor (DEC VT510,
-- DECSC: "character attributes"), and DECRC brings it back. SCOSC and SCORC do the same, and so do the modes 1048 and 1049 where they are set
-- and reset (xterm, ctlseqs). RIS (ECMA-48, 8.3.105) and DECSTR (DEC VT510, DECSTR: "SGR: normal rendition") set all back.
use Rattle.std.specs.Prelude.{ℕ, ◌==◌, ◌||◌, Bool, true, false, if◌then◌else◌, List, [], ◌∷◌, length, slice_index, Option, Some, None}
use Rattle.csicodec_names.specs.declared.modes.DecPrivateModeCode.{DecPrivateModeCode}
use Rattle.csicodec_actions.specs.{declared.cursor.Cursor.Cursor, declared.mode.DecPrivateMode.DecPrivateMode, declared.mode.Mode.Mode, Actions.Action}
use Rattle.csicodec_looks.specs.{declared.look.Look.Look, Look.behind, Look.plain}
use Rattle.csicodec_clean.specs.{declared.saving.Effect.Effect, declared.saving.Looks.Looks}
use Rattle.csicodec_actions.specs.Devices as device
use Rattle.csicodec_actions.specs.Actions as action

abbrev pub looks : Look → Look → Looks
looks look saved = record { look = look; saved = saved }

-- with nothing set or saved; what was never saved is plain
abbrev pub plain_looks : Looks
plain_looks = looks plain plain

-- a private mode that saves how text looks
abbrev pub is_saving : DecPrivateModeCode → Bool
is_saving DecPrivateModeCode.SaveCursor = true
is_saving DecPrivateModeCode.ClearAndEnableAlternateScreen = true
is_saving c = false

abbrev pub if_saving : Effect → DecPrivateMode → Option Effect
if_saving e (DecPrivateMode.Code c) = if is_saving c then Some e else None
if_saving e (DecPrivateMode.Unspecified n) = None

-- what an action does to how text looks, where it does something
abbrev pub effect_of : Action → Option Effect
effect_of (action.Sgr s) = Some (Effect.Sets s)
effect_of (action.Cursor Cursor.SaveCursor) = Some Effect.Saves
effect_of (action.Cursor Cursor.RestoreCursor) = Some Effect.Restores
effect_of (action.Mode (Mode.SetDecPrivateMode m)) = if_saving Effect.Saves m
effect_of (action.Mode (Mode.ResetDecPrivateMode m)) = if_saving Effect.Restores m
effect_of (action.Device device.SoftReset) = Some Effect.Clears
effect_of a = None

-- and an escape sequence: `ESC 7`, `ESC 8` and `ESC c`
abbrev pub by_final : ℕ → Option Effect
by_final c = if c == 55 then Some Effect.Saves else if c == 56 then Some Effect.Restores else if c == 99 then Some Effect.Clears else None

abbrev pub escape_effect : List ℕ → Option Effect
escape_effect bytes = if length bytes == 2 then by_final (slice_index bytes 1) else None

-- behind it
abbrev pub behind_effect : Looks → Option Effect → Looks
behind_effect l None = l
behind_effect l (Some (Effect.Sets s)) = looks (behind l.look s) l.saved
behind_effect l (Some Effect.Clears) = plain_looks
behind_effect l (Some Effect.Saves) = looks l.look l.look
behind_effect l (Some Effect.Restores) = looks l.saved l.saved

-- behind the actions of a sequence
abbrev pub behind_all : Looks → List Action → Looks
behind_all l [] = l
behind_all l (a ∷ actions) = behind_all (behind_effect l (effect_of a)) actions

-- whether it is an attribute that comes, or what sets all back
abbrev pub sets : Option Effect → Bool
sets (Some (Effect.Sets s)) = true
sets (Some Effect.Clears) = true
sets e = false

abbrev pub sets_any : List Action → Bool
sets_any [] = false
sets_any (a ∷ actions) = sets (effect_of a) || sets_any actions

-- whether nothing is saved or brought back by it, nor is what was saved forgotten
abbrev pub is_lasting : Option Effect → Bool
is_lasting None = true
is_lasting (Some (Effect.Sets s)) = true
is_lasting e = false

abbrev pub are_lasting : List Action → Bool
are_lasting [] = true
are_lasting (a ∷ actions) = if is_lasting (effect_of a) then are_lasting actions else false
