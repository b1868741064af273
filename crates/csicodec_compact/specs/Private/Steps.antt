-- What the private steps say to each other.
use Rattle.std.specs.Prelude.{ℕ, ◌≡◌, ◌≤◌, ◌==◌, ◌+◌, ◌*◌, ◌-◌, ◌&&◌, Bool, true, List, [], ◌∷◌, ◌++◌, false, not, Option, Some, None, if◌then◌else◌, length, drop, map, slice_get, take}
use Rattle.csicodec_tokens.specs.{declared.param.CsiParam.CsiParam, Sequence.Seq, Sequence.Spellable, Sequence.Spells}
use Rattle.csicodec_actions.specs.{Actions.Action, Actions.Sgr, Table.texts}
use Rattle.csicodec_parser.specs.{declared.actions.CSI.CSI, Segments.Actions}
use Rattle.csicodec_spans.specs.{Parts.Part, Visits.Call, Visits.DoesOf, Visits.Pause, Visits.Tell, Visits.parts_of}
use Rattle.csicodec_streams.specs.{Known.IsOne, Compose.EndsInSemicolon, Compose.IsStyleList}
use Rattle.csicodec_compact.specs.{declared.form.TextEnding.TextEnding, declared.shortener.Shortener.Shortener, Compacts.Compacts, Runs.IsStaying}
use Rattle.csicodec_compact.specs.{Runs.NoneStays, Runs.Shortens, Runs.IsShortened}
use Rattle.csicodec_base.specs.declared.sgr.Sgr as sgr_type
use Rattle.csicodec_base.specs.declared.sgr.Sgr.TheVariants as sgr

-- the bytes are one control sequence, and this is its normal form
abbrev pub IsOneNormalised : List ℕ → List ℕ → Type 0
IsOneNormalised bytes text = (list : List CsiParam) × (final : ℕ) × (actions : List Action)
    × Seq bytes list final × Actions list false final actions × (text ≡ texts actions)

-- ---- tests of tokens, actions and bytes

-- the action is no attribute
abbrev pub is_other : CSI → Bool
is_other (CSI.Sgr s) = false
is_other (CSI.Cursor c) = true
is_other (CSI.Edit e) = true
is_other (CSI.Mode m) = true
is_other (CSI.Device d) = true
is_other (CSI.Mouse m) = true
is_other (CSI.Window w) = true
is_other (CSI.Keyboard k) = true
is_other (CSI.SelectCharacterPath path effect) = true
is_other (CSI.Unspecified u) = true

abbrev pub is_semicolon : Option ℕ → Bool
is_semicolon None = false
is_semicolon (Some b) = b == 59

-- the bytes stand in front of some
pub record Begins (bytes wide : List ℕ) : Type 0 where
  pub more : List ℕ
  pub whole : wide ≡ bytes ++ more

-- ---- forms

abbrev pub form_of : ℕ → TextEnding
form_of mark = if mark == 1 then TextEnding.Last else if mark == 2 then TextEnding.Open
    else if mark == 3 then TextEnding.Blank else if mark == 4 then TextEnding.Bare else TextEnding.Whole

abbrev pub is_joined : TextEnding → Bool
is_joined TextEnding.Whole = false
is_joined _ = true

abbrev pub is_bare : TextEnding → Bool
is_bare TextEnding.Bare = true
is_bare _ = false

abbrev pub is_open : TextEnding → Bool
is_open TextEnding.Open = true
is_open _ = false

-- what closes a text of the form
abbrev pub closing : TextEnding → List ℕ
closing TextEnding.Open = 109 ∷ []
closing TextEnding.Blank = 48 ∷ 109 ∷ []
closing TextEnding.Bare = 109 ∷ []
closing _ = []

-- a text of this form may be joined to what is held
abbrev pub may_join : TextEnding → TextEnding → List ℕ → Bool
may_join TextEnding.Whole form text = false
may_join TextEnding.Last form text = false
may_join TextEnding.Open form text = is_joined form
may_join _ form text = is_joined form && not (is_semicolon (slice_get text 1))

-- what is appended for it then
abbrev pub joint : TextEnding → TextEnding → List ℕ → List ℕ
joint held form text = if is_bare form then (if is_open held then text else 59 ∷ 48 ∷ []) else text

-- and how it ends
abbrev pub behind : TextEnding → TextEnding → TextEnding
behind held form = if is_bare form then (if is_open held then TextEnding.Blank else TextEnding.Open) else form

-- what is appended for a text that stands by itself
abbrev pub opened : TextEnding → List ℕ → List ℕ
opened form text = if is_joined form then 27 ∷ 91 ∷ drop 1 text else text

-- the list of a text
abbrev pub list_of : TextEnding → List ℕ → List ℕ
list_of form text = take (length (drop 2 text) - length (closing form)) (drop 2 text)

-- ---- lists of attributes

-- the bytes are a list of numbers and `;`, and these are its actions before `m`
pub record IsList (bytes : List ℕ) (list : List CsiParam) (actions : List Action) : Type 0 where
  pub spellable : Spellable list
  pub spelled : Spells bytes list
  pub plain : IsStyleList list
  pub means : Actions list false 109 actions

-- such a list of known attributes that ends in a number
pub record IsOpenList (bytes : List ℕ) (styles : List sgr_type.Sgr) : Type 0 where
  pub list : List CsiParam
  pub is : IsList bytes list (map Sgr styles)
  pub unclosed : ¬ EndsInSemicolon list

-- what stands behind `ESC [` in a text of this form, and its actions
abbrev pub IsTail : TextEnding → List ℕ → List Action → Type 0
IsTail TextEnding.Whole bytes actions = ⊥
IsTail TextEnding.Last bytes actions = (front : List ℕ) × (list : List CsiParam)
    × (bytes ≡ front ++ 109 ∷ []) × IsList front list actions
IsTail TextEnding.Open bytes actions = (styles : List sgr_type.Sgr) × (actions ≡ map Sgr styles)
    × IsOpenList bytes styles
IsTail TextEnding.Blank bytes actions =
    (styles : List sgr_type.Sgr) × (front : List ℕ) × (bytes ≡ front ++ 59 ∷ [])
    × (actions ≡ map Sgr (styles ++ sgr.Reset ∷ [])) × IsOpenList front styles
IsTail TextEnding.Bare bytes actions = (bytes ≡ []) × (actions ≡ map Sgr (sgr.Reset ∷ []))

-- a text that is such a list behind `ESC [`, and is closed
pub record IsListed (form : TextEnding) (text : List ℕ) : Type 0 where
  pub bytes : List ℕ
  pub actions : List Action
  pub whole : text ≡ 27 ∷ 91 ∷ (bytes ++ closing form)
  pub tail : IsTail form bytes actions

-- the text is of the form
abbrev pub IsOwn : TextEnding → List ℕ → Type 0
IsOwn TextEnding.Whole text = Unit {0}
IsOwn form text = IsListed form text

-- ---- notes

-- the list of a sequence that doesn't stay, behind a `;`
pub record IsNotedList (form : TextEnding) (bytes text : List ℕ) : Type 0 where
  pub list : List ℕ
  pub actions : List Action
  pub whole : text ≡ 59 ∷ list
  pub tail : IsTail form list actions
  pub compacts : Compacts bytes (27 ∷ 91 ∷ (list ++ closing form))
  pub free : ¬ IsStaying bytes

abbrev pub IsNoted : TextEnding → List ℕ → List ℕ → Type 0
IsNoted TextEnding.Whole bytes text = Compacts bytes text
IsNoted form bytes text = IsNotedList form bytes text

-- a list that may be joined has a number, and its text is short
abbrev pub HasFew : TextEnding → ℕ → List ℕ → Type 0
HasFew form count text = is_joined form ≡ true → (1 ≤ count) × (length text ≤ 255)

-- what is noted of a sequence: a number for the form of its text, how many numbers that has, and the text
abbrev pub IsNote : List ℕ → List ℕ → Type 0
IsNote bytes note = (mark : ℕ) × (count : ℕ) × (text : List ℕ) × (note ≡ mark ∷ count ∷ text)
    × IsOne bytes × IsNoted (form_of mark) bytes text × HasFew (form_of mark) count text

-- ---- what is held

-- a list to which so many numbers may be joined, of at most 255 bytes each, is short
abbrev pub LeavesRoom : ℕ → List ℕ → Type 0
LeavesRoom room list = length list + 255 * room ≤ 4080

-- a list that goes on, for some sequences side by side
pub record GoesOnFrom (form : TextEnding) (room : ℕ) (run : List Part) (text : List ℕ) : Type 0 where
  pub list : List ℕ
  pub actions : List Action
  pub whole : text ≡ 27 ∷ 91 ∷ list
  pub tail : IsTail form list actions
  pub shorter : Shortens run (27 ∷ 91 ∷ (list ++ closing form))
  pub free : NoneStays run
  pub few : LeavesRoom room list

-- how what is held ends
abbrev pub IsEnd : TextEnding → ℕ → List Part → List ℕ → Type 0
IsEnd TextEnding.Whole room run text = (run ≡ []) × (text ≡ [])
IsEnd TextEnding.Last room run text = (run ≡ []) × (text ≡ [])
IsEnd form room run text = GoesOnFrom form room run text

-- What is held of some parts: the text of those in front, and of the others a list that goes on, to which so many numbers may be joined.
pub record IsHeld (run : List Part) (held : List ℕ) (form : TextEnding) (room : ℕ) : Type 0 where
  pub front : List Part
  pub left : List Part
  pub text : List ℕ
  pub tail : List ℕ
  pub parts : run ≡ front ++ left
  pub whole : held ≡ text ++ tail
  pub written : IsShortened front text
  pub end : IsEnd form room left tail

-- What is written for more parts goes on with what was: whatever was written before them, and for which parts, so far this text is held.
abbrev pub Extends : TextEnding → ℕ → List Part → List ℕ → TextEnding → ℕ → Type 0
Extends form room parts text after left = (run : List Part) (before : List ℕ)
    → IsHeld run before form room → IsHeld (run ++ parts) (before ++ text) after left

-- and this was appended
abbrev pub GoesOnBy : TextEnding → ℕ → List Part → List ℕ → List ℕ → TextEnding → ℕ → Type 0
GoesOnBy form room parts old new after left = (text : List ℕ) × (new ≡ old ++ text)
    × Extends form room parts text after left

-- behind a pause nothing goes on
abbrev pub RestsAt : Call → Shortener → Type 0
RestsAt (Tell e) v = Unit {0}
RestsAt Pause v = v.written.form ≡ TextEnding.Whole

-- what a shortener writes for a call goes on with what was
abbrev pub Does : DoesOf Shortener
Does v call text w = Extends v.written.form v.written.room (parts_of (call ∷ [])) text w.written.form w.written.room
    × RestsAt call w
