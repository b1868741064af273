-- The keyboard (kitty, "Comprehensive keyboard handling in terminals"): lists before `u`, and what each action is written as.
use Rattle.csicodec_actions.specs.{Actions.Action, Actions.Keyboard, Kinds.Flags, Kinds.Way, Kinds.Pops, Rows.Row, Rows.row, Rows.One, Rows.mark, Rows.Before}
use Rattle.csicodec_actions.specs.{Rows.before, Rows.read_by, Written.Written, Written.The, Written.write, Written.put, Common.ℕ, Common.List, Common.[]}
use Rattle.csicodec_actions.specs.{Common.Option, Common.CsiParam, Common.KittyKeyboardFlags}
use Rattle.std.specs.Prelude.{◌∷◌}
use Rattle.csicodec_actions.specs.declared.keyboard.Keyboard as keyboard_type
use Rattle.csicodec_actions.specs.declared.keyboard.Keyboard.TheVariants as keyboard
use Rattle.csicodec_actions.specs.declared.keyboard.KittyKeyboardMode.TheVariants as way

abbrev pub no_flags : KittyKeyboardFlags
no_flags = record { bits = 0 }

-- `= f`, `= f ; m`; `>`, `> f`, `> f ; m`; `?`, `? f`; `< n`, `<`
abbrev pub keyboards : List (Row Action)
keyboards =
    row (mark "=" ∷ One Flags ∷ []) (λ f. Keyboard (keyboard.SetKittyState f way.AssignAll))
    ∷ row (mark "=" ∷ One Flags ∷ mark ";" ∷ One Way ∷ []) (λ f m.
    Keyboard (keyboard.SetKittyState f m))
    ∷ row (mark ">" ∷ []) (Keyboard (keyboard.PushKittyState no_flags way.AssignAll))
    ∷ row (mark ">" ∷ One Flags ∷ []) (λ f. Keyboard (keyboard.PushKittyState f way.AssignAll))
    ∷ row (mark ">" ∷ One Flags ∷ mark ";" ∷ One Way ∷ []) (λ f m.
    Keyboard (keyboard.PushKittyState f m))
    ∷ row (mark "?" ∷ []) (Keyboard keyboard.QueryKittySupport)
    ∷ row (mark "?" ∷ One Flags ∷ []) (λ f. Keyboard (keyboard.ReportKittyState f))
    ∷ row (mark "<" ∷ One Pops ∷ []) (λ n. Keyboard (keyboard.PopKittyState n))
    ∷ row (mark "<" ∷ []) (Keyboard (keyboard.PopKittyState 1))
    ∷ []

-- a line for each final character
abbrev pub keyboard_rows : List (Before Action)
keyboard_rows =
    before "u" keyboards
    ∷ []

unfoldable pub as_keyboard : List CsiParam → ℕ → Option Action
as_keyboard list final = read_by keyboard_rows list final

-- a line for each variant
abbrev pub written_keyboard : keyboard_type.Keyboard → Written
written_keyboard (keyboard.SetKittyState f m) =
    write (put "=" ∷ The Flags f ∷ put ";" ∷ The Way m ∷ []) "u"
written_keyboard (keyboard.PushKittyState f m) =
    write (put ">" ∷ The Flags f ∷ put ";" ∷ The Way m ∷ []) "u"
written_keyboard (keyboard.PopKittyState n) = write (put "<" ∷ The Pops n ∷ []) "u"
written_keyboard keyboard.QueryKittySupport = write (put "?" ∷ []) "u"
written_keyboard (keyboard.ReportKittyState f) = write (put "?" ∷ The Flags f ∷ []) "u"
