-- Of the forms of input: how far they go, that later bytes change nothing, and the bytes joined.
use Rattle.std.proofs.Common.{◌≡◌, ℕ, ◌+◌, ◌-◌, ◌==◌, ◌<◌, ◌≤◌, ◌&&◌, ◌||◌, Bool, true, false, nat_le, if◌then◌else◌, inl, inr, List, [], ◌∷◌, ◌++◌, length, length-append, take, Option, None, Some, refl, sym, ap, subst, ◌∙◌, append_assoc, append-nil, lt-ltb, arith, ltb-true, take-append-drop, flat_map, nat_lt}
use Rattle.std.proofs.{lemmas.Bool.and_parts, lemmas.Bool.cases_Bool, lemmas.List.take-append-le, lemmas.Grind.flat_map-append, lemmas.Bool.Decides.nat_tests}
use Rattle.std.specs.List.{concat}
use Rattle.csicodec_tokens.specs.declared.param.CsiParam.{CsiParam}
use Rattle.csicodec_spans.specs.declared.table.Mode.{Mode}
use Rattle.csicodec_events.specs.Input.{AreSent, InputChunks, IsSent, IsSentBy, IsSure, ahead, alt_char, alt_csi, alt_of, alt_one, alt_ss3, alt_two, bytes_of, characters, csi, doubled, escape, goes_on, in_input, is_digit, is_key, is_modifier, is_opener, is_printable, is_wide, linux, listed, listed_key, listed_modifier, modified, rxvt, ss3, string, two_digits}
use Rattle.csicodec_events.specs.{declared.event.Event.Event, declared.event.Events.Events, declared.input.Dialect.Dialect, declared.input.Form.Form}
use Rattle.csicodec_events.specs.{declared.input.InputEvent.InputEvent, declared.input.Sent.Sent, Characters.is_from, Events.IsTold}
use Rattle.bstr.specs.Utf8.{decoded, lead_len}
use Rattle.csicodec_events.proofs.Run.{joined_on, parts_of}

-- ---- two answers for bytes, and for the same and more: the form is none of output and has bytes, and it stays

-- output has no such event
abbrev is_own : InputEvent → Bool
is_own (InputEvent.Output told) = false
is_own _ = true

abbrev fits : Form → Bool
fits (Form.Whole i n) = is_own i && nat_lt 0 n
fits _ = true

abbrev Stays : Form → Form → Type 0
Stays (Form.Whole i n) g = g ≡ Form.Whole i n
Stays Form.AsOutput g = g ≡ Form.AsOutput
Stays Form.Unsure g = Unit {0}

record Good (f g : Form) : Type 0 where
  fit : fits f ≡ true
  stays : Stays f g

whole : {i : InputEvent} {n : ℕ} → fits (Form.Whole i n) ≡ true → Good (Form.Whole i n) (Form.Whole i n)
whole h = record { fit = h; stays = refl }

output : Good Form.AsOutput Form.AsOutput
output = record { fit = refl; stays = refl }

unsure : {g : Form} → Good Form.Unsure g
unsure = record { fit = refl; stays = tt }

either : {x y x' y' : Form} (t : Bool) → Good x x' → Good y y'
    → Good (if t then x else y) (if t then x' else y')
either true h g = h
either false h g = g

-- ---- each form

characters_good : (d : Dialect) (left : ℕ) (begun : Bool) (n : ℕ) (bytes more : List ℕ) → 0 < n
    → Good (characters d left begun n bytes) (characters d left begun n (bytes ++ more))
characters_good d left begun n [] [] some = either (left == 0) (whole (lt-ltb 0 n some)) unsure
characters_good d left begun n [] (b ∷ more) some = either (left == 0) (whole (lt-ltb 0 n some)) unsure
characters_good d left begun n (a ∷ bytes) more some =
    let next = characters_good d (left - 1) false (n + 1) bytes more (omega arith) in
    either (left == 0) (whole (lt-ltb 0 n some))
    (either begun (either (is_from 128 191 a) next output)
    (either (is_wide d a)
    (either (is_from 194 223 a) (characters_good d left true (n + 1) bytes more (omega arith)) output) next))

modified_good : (m : ℕ) (bytes more : List ℕ) → Good (modified m bytes) (modified m (bytes ++ more))
modified_good m [] more = unsure
modified_good m (b ∷ bytes) more = either (is_key b) (whole refl) (whole refl)

listed_key_good : (m : ℕ) (bytes more : List ℕ) → Good (listed_key m bytes) (listed_key m (bytes ++ more))
listed_key_good m [] more = unsure
listed_key_good m (b ∷ bytes) more = either (is_key b) (whole refl) (whole refl)

listed_modifier_good : (bytes more : List ℕ) → Good (listed_modifier bytes) (listed_modifier (bytes ++ more))
listed_modifier_good [] more = unsure
listed_modifier_good (m ∷ bytes) more = either (is_modifier m) (listed_key_good m bytes more) (whole refl)

listed_good : (bytes more : List ℕ) → Good (listed bytes) (listed (bytes ++ more))
listed_good [] more = unsure
listed_good (b ∷ bytes) more = either (b == 59) (listed_modifier_good bytes more) (whole refl)

ss3_good : (bytes more : List ℕ) → Good (ss3 bytes) (ss3 (bytes ++ more))
ss3_good [] more = unsure
ss3_good (b ∷ bytes) more =
    either (is_modifier b) (modified_good b bytes more)
    (either (b == 49) (listed_good bytes more)
    (either (is_printable b) (whole refl) (whole refl)))

alt_two_good : (a b : ℕ) (bytes more : List ℕ) → Good (alt_two a b bytes) (alt_two a b (bytes ++ more))
alt_two_good a b [] more = unsure
alt_two_good a b (c ∷ bytes) more = either (c == 126) (whole refl) (whole refl)

alt_one_good : (a : ℕ) (bytes more : List ℕ) → Good (alt_one a bytes) (alt_one a (bytes ++ more))
alt_one_good a [] more = unsure
alt_one_good a (b ∷ bytes) more = either (b == 126) (whole refl) (either (is_digit b) (alt_two_good a b bytes more) (whole refl))

alt_ss3_good : (bytes more : List ℕ) → Good (alt_ss3 bytes) (alt_ss3 (bytes ++ more))
alt_ss3_good [] more = unsure
alt_ss3_good (b ∷ bytes) more = either (is_key b) (whole refl) (whole refl)

alt_csi_good : (bytes more : List ℕ) → Good (alt_csi bytes) (alt_csi (bytes ++ more))
alt_csi_good [] more = unsure
alt_csi_good (b ∷ bytes) more = either (is_key b) (whole refl) (either (is_digit b) (alt_one_good b bytes more) (whole refl))

doubled_good : (bytes more : List ℕ) → Good (doubled bytes) (doubled (bytes ++ more))
doubled_good [] more = unsure
doubled_good (b ∷ bytes) more = either (b == 79) (alt_ss3_good bytes more) (either (b == 91) (alt_csi_good bytes more) (whole refl))

alt_good : (n : ℕ) (o : Option ℕ) → Good (alt_of n o) (alt_of n o)
alt_good n None = whole refl
alt_good n (Some c) = whole (lt-ltb 0 (1 + n) (omega arith))

alt_char_good : (n : ℕ) (bytes more : List ℕ) → Good (alt_char n bytes) (alt_char n (bytes ++ more))
alt_char_good n bytes more = elim (cases_Bool (nat_lt (length bytes) n)) [
  | inl few ↦ rw few unsure
  | inr all ↦
      let within : n ≤ length bytes = grind (arith, nat_tests) in
      let longer : nat_lt (length (bytes ++ more)) n ≡ false = grind (arith, nat_tests, length-append bytes more) in
      rw (all, longer, take-append-le n bytes more within) (alt_good n (decoded (take n bytes)).char)
]

linux_good : (bytes more : List ℕ) → Good (linux bytes) (linux (bytes ++ more))
linux_good [] more = unsure
linux_good (b ∷ bytes) more = either (is_printable b) (whole refl) output

two_digits_good : (a b : ℕ) (bytes more : List ℕ)
    → Good (two_digits a b bytes) (two_digits a b (bytes ++ more))
two_digits_good a b [] [] = either (is_digit b) unsure output
two_digits_good a b [] (c ∷ more) = elim (cases_Bool (is_digit b)) [ inl is ↦ rw is unsure | inr other ↦ rw other output ]
two_digits_good a b (c ∷ bytes) more = either (is_digit b && c == 36) (whole refl) output

rxvt_good : (a : ℕ) (bytes more : List ℕ) → Good (rxvt a bytes) (rxvt a (bytes ++ more))
rxvt_good a [] more = unsure
rxvt_good a (b ∷ bytes) more = either (b == 36) (whole refl) (two_digits_good a b bytes more)

csi_good : (d : Dialect) (bytes more : List ℕ) → Good (csi d bytes) (csi d (bytes ++ more))
csi_good d [] more = unsure
csi_good d (b ∷ bytes) more =
    either (b == 91) (linux_good bytes more)
    (either (b == 77) (characters_good d 3 false 3 bytes more (omega arith))
    (either (b == 73) (whole refl)
    (either (is_digit b) (rxvt_good b bytes more) output)))

string_good : (bytes more : List ℕ) → Good (string bytes) (string (bytes ++ more))
string_good [] more = unsure
string_good (b ∷ bytes) more = output

escape_good : (d : Dialect) (m : Mode) (bytes more : List ℕ)
    → Good (escape d m bytes) (escape d m (bytes ++ more))
escape_good d m [] more = unsure
escape_good d m (b ∷ bytes) more =
    either (goes_on m b) output
    (either (b == 79) (ss3_good bytes more)
    (either (b == 91) (csi_good d bytes more)
    (either (is_opener b) (string_good bytes more)
    (either (b == 27) (doubled_good bytes more) (alt_char_good (lead_len b) (b ∷ bytes) more)))))

input_good : (d : Dialect) (m : Mode) (bytes more : List ℕ)
    → Good (in_input d m bytes) (in_input d m (bytes ++ more))
input_good d m [] more = unsure
input_good d m (b ∷ bytes) more = either (b == 27) (escape_good d m bytes more) output

-- ---- what stands in front

ahead_good : (d : Dialect) (m : Mode) (looked : ℕ) (bytes more : List ℕ)
    → Good (ahead d m looked bytes) (ahead d m looked (bytes ++ more))
ahead_good Dialect.Output m looked bytes more = output
ahead_good d m looked bytes more = either (looked == 0) (input_good d m bytes more) output

pub ahead_stays : (d : Dialect) (m : Mode) (looked : ℕ) (bytes more : List ℕ)
    → IsSure (ahead d m looked bytes) → ahead d m looked (bytes ++ more) ≡ ahead d m looked bytes
ahead_stays d m looked bytes more sure = same (ahead d m looked bytes) sure (ahead_good d m looked bytes more).stays
  where
    same : {g : Form} (f : Form) → IsSure f → Stays f g → g ≡ f
    same Form.Unsure sure stays = absurd sure
    same _ sure stays = stays

-- a form stands in front of some bytes, of which none were looked at
pub record IsFront (looked : ℕ) (bytes : List ℕ) (n : ℕ) : Type 0 where
  pub fresh : looked ≡ 0
  pub some : 0 < n
  pub within : 0 < length bytes

pub front : (d : Dialect) (m : Mode) (looked : ℕ) (bytes : List ℕ) (i : InputEvent) (n : ℕ)
    → ahead d m looked bytes ≡ Form.Whole i n → IsFront looked bytes n
front Dialect.Output m looked bytes i n is = absurd cc
front d m looked [] i n is = absurd (grind (arith, nat_tests))
front d m looked (b ∷ bytes) i n is =
    let fit = subst (λ (f : Form). fits f ≡ true) is (ahead_good d m looked (b ∷ bytes) []).fit in
    record {
      fresh = grind (arith, nat_tests);
      some = ltb-true 0 n (and_parts (is_own i) (nat_lt 0 n) fit).1;
      within = omega arith;
    }

-- ---- what output has too is told as in output

by_output : (f : Form) (e : Events) (bytes : List ℕ) (told : Event) (text rest : List ℕ)
    (list : List CsiParam) (after : Events) → fits f ≡ true
    → IsSentBy f e bytes (InputEvent.Output told) text rest list after
    → IsTold told e bytes text rest list after
by_output (Form.Whole i n) e bytes told text rest list after fit s =
    let own = subst (λ (j : InputEvent). (is_own j && nat_lt 0 n) ≡ true) (sym s.0) fit in absurd cc
by_output Form.AsOutput e bytes told text rest list after fit s =
    let is : InputEvent.Output told ≡ InputEvent.Output s.0 = s.1 in
    let same : s.0 ≡ told = cc in
    subst (λ (x : Event). IsTold x e bytes text rest list after) same s.2
by_output Form.Unsure e bytes told text rest list after fit s = absurd s

pub as_output : (d : Dialect) (e : Events) (bytes : List ℕ) (told : Event) (text rest : List ℕ) (list : List CsiParam) (after : Events) → IsSent d e bytes (InputEvent.Output told) text rest list after
    → IsTold told e bytes text rest list after
as_output d e bytes told text rest list after s = by_output (ahead d e.mode e.looked bytes) e bytes told text rest list after (ahead_good d e.mode e.looked bytes []).fit s

-- ---- the bytes joined

by_parts : (f : Form) (e : Events) (bytes : List ℕ) (x : InputEvent) (text rest : List ℕ)
    (list : List CsiParam) (after : Events) → IsSentBy f e bytes x text rest list after
    → bytes ≡ text ++ rest
by_parts (Form.Whole i n) e bytes x text rest list after s = rw (s.1, s.2) (sym (take-append-drop n bytes))
by_parts Form.AsOutput e bytes x text rest list after s = parts_of s.0 e bytes text rest list after s.2
by_parts Form.Unsure e bytes x text rest list after s = absurd s

all_joined : (d : Dialect) (sent : List Sent) (e : Events) (bytes rest : List ℕ) (after : Events)
    → AreSent d e bytes sent rest after → bytes ≡ flat_map bytes_of sent ++ rest
all_joined d [] e bytes rest after s = sym s.0
all_joined d (t ∷ sent) e bytes rest after s =
    by_parts (ahead d e.mode e.looked bytes) e bytes t.event t.bytes.now t.rest.now s.0 s.1 s.2 ∙ ap (λ (x : List ℕ). t.bytes.now ++ x) (all_joined d sent s.1 t.rest.now rest after s.3)
    ∙ sym (append_assoc t.bytes.now (flat_map bytes_of sent) rest)

pub sent_joined : (d : Dialect) (e after : Events) (held rest : List ℕ) (chunks : List (List ℕ))
    (sent : List Sent) → InputChunks d e held chunks sent rest after
    → held ++ concat chunks ≡ flat_map bytes_of sent ++ rest
sent_joined d e after held rest [] sent c = rw (c.0, c.1) (append-nil held)
sent_joined d e after held rest (chunk ∷ chunks) sent c =
    let (now, later, kept, mid, waiting, is, first, waits, others) = c in
    let here = all_joined d now e (held ++ chunk) kept mid first in
    let there = sent_joined d waiting after kept rest chunks later others in
    joined_on held chunk (concat chunks) (flat_map bytes_of now) (flat_map bytes_of later) kept rest here there
    ∙ ap (λ (x : List ℕ). x ++ rest) (sym (ap (flat_map bytes_of) is ∙ flat_map-append bytes_of now later))
