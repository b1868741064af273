-- How a content is read: the first command whose number begins it, and whose form what stands behind the number has.
use Rattle.std.specs.Prelude.{ℕ, ◌==◌, List, [], ◌∷◌, Option, None, Some, option_map, option_and_then, if◌then◌else◌}
use Rattle.std.specs.Option.{option_or}
use Rattle.csicodec_osc.specs.{declared.command.Command.Command, Commands.form, Commands.number, Forms.Form, Forms.OneText, Forms.Message, Forms.Several}
use Rattle.csicodec_osc.specs.{Forms.TwoTexts, Forms.TextAsked, Osc.Ask, Osc.Body, Osc.Both, Osc.Known, Osc.Said, Osc.Tail, Osc.asked, Osc.is_message}

-- what stands behind a number, where the content begins with it
abbrev pub behind : List ℕ → List ℕ → Option (Option (List ℕ))
behind [] [] = Some None
behind [] (b ∷ bytes) = if b == 59 then Some (Some bytes) else None
behind (n ∷ number) [] = None
behind (n ∷ number) (b ∷ bytes) = if b == n then behind number bytes else None

-- what stands ahead of the first such byte, and behind it
abbrev pub halves : ℕ → List ℕ → Option (List ℕ × List ℕ)
halves at [] = None
halves at (b ∷ bytes) = if b == at then Some ([], bytes)
    else option_map (λ cut. (b ∷ cut.0, cut.1)) (halves at bytes)

-- what stands behind a number, read by a form
abbrev pub read_body : Form → Option (List ℕ) → Option Body
read_body OneText None = None
read_body OneText (Some text) = Some (Tail (Some text))
read_body Message None = None
read_body Message (Some text) = if is_message text then Some (Tail (Some text)) else None
read_body Several o = Some (Tail o)
read_body TwoTexts None = None
read_body TwoTexts (Some text) = option_map (λ cut. Both cut.0 cut.1) (halves 59 text)
read_body TextAsked None = None
read_body TextAsked (Some text) = option_map (λ cut. Ask cut.0 (asked cut.1)) (halves 59 text)

-- what the command reads of a content
abbrev pub read_by : Command → List ℕ → Option Body
read_by k content = option_and_then (read_body (form k)) (behind (number k) content)

-- what the first of these commands reads that reads it
abbrev pub first_read : List Command → List ℕ → Option Said
first_read [] content = None
first_read (k ∷ commands) content = option_or (option_map (Known k) (read_by k content)) (first_read commands content)
