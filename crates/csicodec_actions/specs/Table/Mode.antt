-- Modes that are asked for (DECRQM), and modified keys (xterm, XTMODKEYS): lists before a final character, and what each action is written as.
-- Modes that are set, reset, saved and restored are cut into pieces.
use Rattle.csicodec_actions.specs.{Actions.Action, Actions.Mode, Kinds.Any, Kinds.Dec, Kinds.Terminal, Kinds.Resource, Rows.Row, Rows.row, Rows.One, Rows.mark}
use Rattle.csicodec_actions.specs.{Rows.Before, Rows.before, Rows.read_by, Written.Written, Written.The, Written.write, Written.put, Common.ℕ, Common.List}
use Rattle.csicodec_actions.specs.{Common.[], Common.Option, Common.Some, Common.None, Common.CsiParam}
use Rattle.std.specs.Prelude.{◌∷◌}
use Rattle.csicodec_actions.specs.declared.mode.Mode as mode_type
use Rattle.csicodec_actions.specs.declared.mode.Mode.TheVariants as mode

-- `n $` asks for a mode, and `? n $` for a private one
abbrev pub queries : List (Row Action)
queries =
    row (One Terminal ∷ mark "$" ∷ []) (λ m. Mode (mode.QueryMode m))
    ∷ row (mark "?" ∷ One Dec ∷ mark "$" ∷ []) (λ m. Mode (mode.QueryDecPrivateMode m))
    ∷ []

-- `> a`, `> a ;` and `> a ; b`
abbrev pub key_modes : List (Row Action)
key_modes =
    row (mark ">" ∷ One Resource ∷ []) (λ keys. Mode (mode.XtermKeyMode keys None))
    ∷ row (mark ">" ∷ One Resource ∷ mark ";" ∷ []) (λ keys. Mode (mode.XtermKeyMode keys None))
    ∷ row (mark ">" ∷ One Resource ∷ mark ";" ∷ One Any ∷ []) (λ keys value.
    Mode (mode.XtermKeyMode keys (Some value)))
    ∷ []

-- a line for each final character
abbrev pub mode_rows : List (Before Action)
mode_rows =
    before "p" queries
    ∷ before "m" key_modes
    ∷ []

unfoldable pub as_mode : List CsiParam → ℕ → Option Action
as_mode list final = read_by mode_rows list final

-- a line for each variant
abbrev pub written_mode : mode_type.Mode → Written
written_mode (mode.SetDecPrivateMode m) = write (put "?" ∷ The Dec m ∷ []) "h"
written_mode (mode.ResetDecPrivateMode m) = write (put "?" ∷ The Dec m ∷ []) "l"
written_mode (mode.SaveDecPrivateMode m) = write (put "?" ∷ The Dec m ∷ []) "s"
written_mode (mode.RestoreDecPrivateMode m) = write (put "?" ∷ The Dec m ∷ []) "r"
written_mode (mode.QueryDecPrivateMode m) = write (put "?" ∷ The Dec m ∷ put "$" ∷ []) "p"
written_mode (mode.SetMode m) = write (The Terminal m ∷ []) "h"
written_mode (mode.ResetMode m) = write (The Terminal m ∷ []) "l"
written_mode (mode.QueryMode m) = write (The Terminal m ∷ put "$" ∷ []) "p"
written_mode (mode.XtermKeyMode keys None) = write (put ">" ∷ The Resource keys ∷ put ";" ∷ []) "m"
written_mode (mode.XtermKeyMode keys (Some z)) =
    write (put ">" ∷ The Resource keys ∷ put ";" ∷ The Any z ∷ []) "m"
