-- The list of a key before its final character (kitty, Comprehensive keyboard handling), of which xterm's is the beginning:
--
--   number : shifted : base ; modifiers : event ; text : text ..
--
-- The number is 1 where it is left out, the modifiers are 1 and more than the sum of their bits, the event is 1 for a press, 2 for a
-- repeat and 3 for a release, and the text is its characters. The numbers behind the first one are passed over.
use Rattle.std.specs.Prelude.{ℕ, ℤ, pos, negsuc, ◌+◌, ◌-◌, ◌==◌, ◌&&◌, nat_lt, Bool, true, false, List, [], ◌∷◌, ◌++◌, length, Option, Some, None, if◌then◌else◌, option_and_then}
use Rattle.std.specs.Option.{option_map}
use Rattle.csicodec_tokens.specs.{declared.param.CsiParam.CsiParam, declared.param.CsiParam.TheVariants.Integer, declared.param.CsiParam.TheVariants.P}
use Rattle.csicodec_keys.specs.{declared.fields.KeyReport.KeyReport, declared.key.KeyEvent.KeyEvent, Keys.is_press}
use lib.Utf8.{scalar}

-- what a list says
pub record Says : Type 0 where
  pub number : ℕ
  pub held : ℕ
  pub event : KeyEvent
  pub text : List ℕ

abbrev pub says_of : KeyReport → Says
says_of f = record { number = f.number; held = f.held; event = f.event; text = f.text.items }

-- ---- numbers

-- the number of a key, of 32 bits
abbrev pub number_of : ℤ → Option ℕ
number_of (pos n) = if nat_lt n 4294967296 then Some n else None
number_of (negsuc n) = None

-- the bits of the modifiers
abbrev pub held_of : ℤ → Option ℕ
held_of (pos n) = if nat_lt 0 n && nat_lt n 257 then Some (n - 1) else None
held_of (negsuc n) = None

abbrev pub event_of : ℤ → Option KeyEvent
event_of (pos n) =
    if n == 1 then Some KeyEvent.Press else
    if n == 2 then Some KeyEvent.Repeat else
    if n == 3 then Some KeyEvent.Release else
    None
event_of (negsuc n) = None

abbrev pub char_of : ℤ → Option ℕ
char_of (pos n) = if scalar n then Some n else None
char_of (negsuc n) = None

-- ---- reading

-- what begins with the `;` behind a number and those behind its colons
abbrev pub from_separator : List CsiParam → Option (List CsiParam)
from_separator [] = Some []
from_separator (Integer z ∷ ts) = from_separator ts
from_separator (P b ∷ ts) =
    if b == 59 then Some (P b ∷ ts) else
    if b == 58 then from_separator ts else
    None

-- the number, and what is behind it and its alternatives
abbrev pub number_front : List CsiParam → Option (ℕ × List CsiParam)
number_front [] = Some (1, [])
number_front (P b ∷ ts) = None
number_front (Integer z ∷ ts) =
    option_and_then (λ n. option_map (λ rest. (n, rest)) (from_separator ts)) (number_of z)

-- behind the colon behind the modifiers
abbrev pub event_field : ℕ → List CsiParam → Option (ℕ × KeyEvent × List CsiParam)
event_field held (Integer z ∷ ts) = option_map (λ e. (held, e, ts)) (event_of z)
event_field held _ = None

-- behind the modifiers
abbrev pub behind_held : ℕ → List CsiParam → Option (ℕ × KeyEvent × List CsiParam)
behind_held held [] = Some (held, KeyEvent.Press, [])
behind_held held (Integer z ∷ ts) = None
behind_held held (P b ∷ ts) =
    if b == 58 then event_field held ts else Some (held, KeyEvent.Press, P b ∷ ts)

-- behind the first `;`
abbrev pub held_field : List CsiParam → Option (ℕ × KeyEvent × List CsiParam)
held_field (Integer z ∷ ts) = option_and_then (λ held. behind_held held ts) (held_of z)
held_field ts = Some (0, KeyEvent.Press, ts)

-- the modifiers, the event, and what is behind them
abbrev pub held_front : List CsiParam → Option (ℕ × KeyEvent × List CsiParam)
held_front [] = Some (0, KeyEvent.Press, [])
held_front (Integer z ∷ ts) = None
held_front (P b ∷ ts) = if b == 59 then held_field ts else None

-- a text and one more character, of which there are 32 at most
unfoldable pub with_char : List ℕ → ℤ → Option (List ℕ)
with_char text z =
    if length text == 32 then None else option_map (λ c. text ++ c ∷ []) (char_of z)

-- the characters of a text, behind these
abbrev pub characters : List ℕ → List CsiParam → Option (List ℕ)
characters text [] = Some text
characters text (Integer z ∷ ts) = option_and_then (λ more. characters more ts) (with_char text z)
characters text (P b ∷ ts) = if b == 58 then characters text ts else None

-- the text, and nothing behind it
abbrev pub text_front : List CsiParam → Option (List ℕ)
text_front [] = Some []
text_front (Integer z ∷ ts) = None
text_front (P b ∷ ts) = if b == 59 then characters [] ts else None

abbrev pub read_list : List CsiParam → Option Says
read_list list =
    option_and_then
    (λ n. option_and_then
    (λ h. option_map (λ text. record { number = n.0; held = h.0; event = h.1; text = text })
    (text_front h.2)) (held_front n.1)) (number_front list)

-- ---- writing

abbrev pub is_empty : List ℕ → Bool
is_empty [] = true
is_empty (c ∷ cs) = false

-- nothing is said but the key
abbrev pub is_plain : ℕ → KeyEvent → List ℕ → Bool
is_plain held e text = (held == 0) && (is_press e && is_empty text)

-- 1 is left out where it stands alone
abbrev pub number_list : ℕ → Bool → List CsiParam
number_list n plain = if (n == 1) && plain then [] else Integer (pos n) ∷ []

-- a press without modifiers is left out, but for its `;` ahead of a text
abbrev pub held_list : ℕ → KeyEvent → Bool → List CsiParam
held_list held KeyEvent.Press bare =
    if held == 0 then (if bare then [] else P 59 ∷ []) else P 59 ∷ Integer (pos (held + 1)) ∷ []
held_list held KeyEvent.Repeat bare = P 59 ∷ Integer (pos (held + 1)) ∷ P 58 ∷ Integer (pos 2) ∷ []
held_list held KeyEvent.Release bare = P 59 ∷ Integer (pos (held + 1)) ∷ P 58 ∷ Integer (pos 3) ∷ []

-- characters behind such a separator, and each further one behind a colon
abbrev pub text_list : ℕ → List ℕ → List CsiParam
text_list separator [] = []
text_list separator (c ∷ cs) = P separator ∷ Integer (pos c) ∷ text_list 58 cs

abbrev pub written_list : ℕ → ℕ → KeyEvent → List ℕ → List CsiParam
written_list n held e text =
    number_list n (is_plain held e text) ++ (held_list held e (is_empty text) ++ text_list 59 text)
