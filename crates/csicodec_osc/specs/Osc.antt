-- What the content of an OSC says, the bytes between `ESC ]` and what ends it; and how it is written.
use Rattle.std.specs.Prelude.{ℕ, ◌≡◌, ◌-◌, ◌+◌, ◌*◌, ◌==◌, ◌&&◌, Bool, true, false, not, nat_le, List, [], ◌∷◌, ◌++◌, Option, None, Some, option_map, if◌then◌else◌}
use Rattle.std.specs.Str.{bytes_eq}
use Rattle.csicodec_osc.specs.{declared.asked.Asked.Asked, declared.command.Command.Command, declared.fields.OscFields.OscFields as FieldsType}
use Rattle.csicodec_osc.specs.{declared.osc.Osc.Osc, Commands.form, Commands.number, Forms.Form, Forms.OneText, Forms.Message, Forms.Several, Forms.TwoTexts}
use Rattle.csicodec_osc.specs.{Forms.TextAsked}

-- ---- what stands behind a number

-- a text behind a `;`, or nothing; two texts; a text and a question (none) or a value
pub data Body : Type 0 where
  Tail : Option (List ℕ) → Body
  Both : List ℕ → List ℕ → Body
  Ask : List ℕ → Option (List ℕ) → Body

-- `;` and a text, where there is one
abbrev pub tail_text : Option (List ℕ) → List ℕ
tail_text None = []
tail_text (Some text) = 59 ∷ text

-- a question, or a value
abbrev pub asked_text : Option (List ℕ) → List ℕ
asked_text None = 63 ∷ []
asked_text (Some value) = value

-- what stands behind the first `;`
abbrev pub tail_of : Body → Option (List ℕ)
tail_of (Tail o) = o
tail_of (Both a b) = Some (a ++ 59 ∷ b)
tail_of (Ask a o) = Some (a ++ 59 ∷ asked_text o)

-- ---- which form it has

-- no `;` is among the bytes
abbrev pub is_field : List ℕ → Bool
is_field [] = true
is_field (b ∷ bytes) = not (b == 59) && is_field bytes

-- the bytes begin with a `;`, or there are none
abbrev pub begins_tail : List ℕ → Bool
begins_tail [] = true
begins_tail (b ∷ bytes) = b == 59

-- the first field is one byte, this one
abbrev pub first_is : ℕ → List ℕ → Bool
first_is n [] = false
first_is n (b ∷ bytes) = b == n && begins_tail bytes

-- no command of ConEmu's that isn't a notification: 4 is progress, 9 the folder
abbrev pub is_message : List ℕ → Bool
is_message text = not (first_is 52 text) && not (first_is 57 text)

abbrev pub is_question : List ℕ → Bool
is_question text = bytes_eq text (63 ∷ [])

-- a question, which is none, or a value
abbrev pub asked : List ℕ → Option (List ℕ)
asked text = if is_question text then None else Some text

-- a value that isn't a question
abbrev pub is_asked : Option (List ℕ) → Bool
is_asked None = true
is_asked (Some value) = not (is_question value)

-- what stands behind a number has the form
abbrev pub fits : Form → Body → Bool
fits OneText (Tail (Some text)) = true
fits Message (Tail (Some text)) = is_message text
fits Several (Tail o) = true
fits TwoTexts (Both a b) = is_field a
fits TextAsked (Ask a o) = is_field a && is_asked o
fits _ _ = false

-- ---- what a content says

-- a command with what stands behind it, or bytes that no command reads
pub data Said : Type 0 where
  Known : Command → Body → Said
  Unknown : List ℕ → Said

-- how it is written
abbrev pub written : Said → List ℕ
written (Known k body) = number k ++ tail_text (tail_of body)
written (Unknown bytes) = bytes

-- What is read back as it is: of a command a body of its form; of others bytes that are no such command.
abbrev pub IsWritable : Said → Type 0
IsWritable (Known k body) = fits (form k) body ≡ true
IsWritable (Unknown bytes) =
    (k : Command) (body : Body) → fits (form k) body ≡ true → number k ++ tail_text (tail_of body) ≡ bytes → ⊥

-- the content says this
pub record Says (content : List ℕ) (s : Said) : Type 0 where
  pub written_as : written s ≡ content
  pub writable : IsWritable s

-- ---- values

abbrev pub list_text : FieldsType → Option (List ℕ)
list_text fields = option_map (λ text. text.now) fields.text

-- a value, and none where it is asked for
abbrev pub value_of : Asked → Option (List ℕ)
value_of Asked.Query = None
value_of (Asked.Value text) = Some text.now

abbrev pub said : Osc → Said
said (Osc.Title t text) = Known (Command.Title t) (Tail (Some text.now))
said (Osc.Colors p list) = Known (Command.Colors p) (Tail (list_text list))
said (Osc.Color d list) = Known (Command.Color d) (Tail (list_text list))
said (Osc.ResetColors p list) = Known (Command.ResetColors p) (Tail (list_text list))
said (Osc.ResetColor d list) = Known (Command.ResetColor d) (Tail (list_text list))
said (Osc.Link params address) = Known Command.Link (Both params.now address.now)
said (Osc.Clipboard selection content) = Known Command.Clipboard (Ask selection.now (value_of content))
said (Osc.Folder f text) = Known (Command.Folder f) (Tail (Some text.now))
said (Osc.Prompt m list) = Known (Command.Prompt m) (Tail (list_text list))
said (Osc.Editor m list) = Known (Command.Editor m) (Tail (list_text list))
said (Osc.Progress p list) = Known (Command.Progress p) (Tail (list_text list))
said (Osc.Pointer text) = Known Command.Pointer (Tail (Some text.now))
said (Osc.KittyNotice metadata payload) = Known Command.KittyNotice (Both metadata.now payload.now)
said (Osc.TitledNotice title text) = Known Command.TitledNotice (Both title.now text.now)
said (Osc.Notice text) = Known Command.Notice (Tail (Some text.now))
said (Osc.Unknown bytes) = Unknown bytes.now

-- ---- fields

abbrev pub is_digit : ℕ → Bool
is_digit b = nat_le 48 b && nat_le b 57

-- A number from 0 to 100 without leading zeros
abbrev pub percent_of : List ℕ → Option ℕ
percent_of (a ∷ []) = if is_digit a then Some (a - 48) else None
percent_of (a ∷ b ∷ []) = if nat_le 49 a && (nat_le a 57 && is_digit b) then Some (10 * (a - 48) + (b - 48)) else None
percent_of (a ∷ b ∷ c ∷ []) = if a == 49 && (b == 48 && c == 48) then Some 100 else None
percent_of _ = None

-- The field in front, and what is left behind it: none where none is left.
abbrev pub IsNext : Option (List ℕ) → Option (List ℕ) → Option (List ℕ) → Type 0
IsNext list None after = (list ≡ None) × (after ≡ None)
IsNext list (Some field) after = (list ≡ Some (field ++ tail_text after)) × (is_field field ≡ true)
