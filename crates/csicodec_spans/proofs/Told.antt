-- What the machine tells of bytes is what the table of modes cuts of them.
use Rattle.std.proofs.Common.{◌≡◌, ◌∙◌, ◌<◌, ◌≤◌, ◌+◌, ◌*◌, ◌-◌, ◌↔◌, ℕ, Bool, true, false, ◌&&◌, nat_lt, nat_le, List, [], ◌∷◌, ◌++◌, length, map, refl, sym, ap, subst, inl, inr, arith, Some, None, append_assoc, append-nil, length-append, take_all, slice_get, if◌then◌else◌}
use Rattle.std.proofs.{lemmas.Bool.Decides.nat_tests, lemmas.Bool.cases_Bool, lemmas.Bool.cases_lt, lemmas.Bool.and_from, lemmas.Bool.and_parts}
use Rattle.std.proofs.{lemmas.Bool.and_cases, lemmas.List.map-append}
use Rattle.csicodec_tokens.specs.{Digits.IsDigit, Digits.largest, Sequence.IsBodyByte, Fault.IsBody, Fault.Begins, Fault.IsBad, Body.EndsIn, Body.Stops}
use Rattle.csicodec_tokens.specs.{declared.reader.ReadError.TheVariants.BadByte, declared.reader.ReadError.TheVariants.NumberTooLarge}
use Rattle.csicodec_tokens.proofs.Walks.{digit_or_other, digit_on, other_on, digit_step, none_begun, IsBody-front, All-back}
use Rattle.csicodec_tokens.proofs.{Reading.StopsAt, Reading.bad_byte, Reading.large_byte, Beginnings.spelled_body}
use Rattle.csicodec_spans.specs.Table.{Answer, Sequence, Undecided, ModeRow, mode_table, string_modes, no_string_modes, holds_in, begin_with, ahead, within, byte, through, the, bel, cancels, esc, controls, ascii, intermediates, parameters, csi_finals, esc_finals}
use Rattle.csicodec_spans.specs.Parts.{Part, part, IsSequence, IsMalformed, Allows, AreFirstParts, IsFirstPart, IsUnsure, IsUnsureBy, IsWhole, left_over}
use Rattle.csicodec_spans.specs.Machine.{State, Open, Escape, EscapeIntermediate, CsiParam, Event, Print, Execute, CsiDispatch, EscDispatch, Hook, Put, Unhook, Ignore, Told, tell, one, in_turn, text, anywhere, next_open, spoiled, collect, next_escape, number_with, number_behind, goes_on, next, walk, collected, left, told}
use Rattle.csicodec_spans.specs.{declared.table.Kind.Kind, declared.table.Mode.Mode, Told.part_of, Told.mode_of, Told.IsState, Told.TellsFront, Told.TellsParts}
use Rattle.csicodec_spans.proofs.{Apart.said, Agrees.in_every, Agrees.opens, Agrees.IsFit, Agrees.IsPiece, Once.part_more, Once.part_once, Once.unsure_stops}
use Rattle.csicodec_spans.proofs.{Once.whole_once, OneSpan.none_unsure, Missed.fit, Waits.body_unsure}

-- ---- a part has one event

abbrev is_osc : Mode → Bool
is_osc Mode.Osc = true
is_osc _ = false

abbrev string_event : Mode → List ℕ → Event
string_event m (b ∷ []) = if is_osc m && within bel b then Unhook (b ∷ []) else Put (b ∷ [])
string_event m (b ∷ c ∷ []) = if within (the "\\") c then Unhook (b ∷ c ∷ []) else if within esc c then Put (b ∷ c ∷ []) else Hook c
string_event m bytes = Put bytes

abbrev text_event : List ℕ → Event
text_event (b ∷ []) = text b
text_event bytes = Ignore bytes

abbrev pub event_by : Mode → Kind → List ℕ → Event
event_by m Kind.Text bytes = text_event bytes
event_by m Kind.Csi bytes = CsiDispatch bytes
event_by m Kind.Esc bytes = EscDispatch bytes
event_by m Kind.Str bytes = string_event m bytes
event_by m Kind.Other bytes = Ignore bytes

-- it is that of its part
abbrev pub IsNamed : Mode → Event → Type 0
IsNamed m e = e ≡ event_by m (part_of e).kind (part_of e).bytes

-- one event after the other, each of one part
abbrev pub AreTold : ℕ → Mode → List ℕ → List Event → List ℕ → Mode → Type 0
AreTold limit m bytes [] rest after = (rest ≡ bytes) × (after ≡ m)
AreTold limit m bytes (e ∷ events) rest after =
    (behind : List ℕ) × (mid : Mode) × IsFirstPart limit m bytes (part_of e) behind mid × IsNamed m e × AreTold limit mid behind events rest after

told_parts : (limit : ℕ) (events : List Event) (m : Mode) (bytes rest : List ℕ) (a : Mode) → AreTold limit m bytes events rest a → AreFirstParts limit m bytes (map part_of events) rest a
told_parts limit [] m bytes rest a h = h
told_parts limit (e ∷ events) m bytes rest a (behind, mid, first, named, others) = (behind, mid, first, told_parts limit events mid behind rest a others)

told_more : (limit : ℕ) (events : List Event) (m : Mode) (bytes more rest : List ℕ) (a : Mode) → AreTold limit m bytes events rest a → AreTold limit m (bytes ++ more) events (rest ++ more) a
told_more limit [] m bytes more rest a h = (ap (λ (t : List ℕ). t ++ more) h.0, h.1)
told_more limit (e ∷ events) m bytes more rest a (behind, mid, first, named, others) =
    (behind ++ more, mid, part_more limit m bytes more (part_of e) behind mid first, named, told_more limit events mid behind more rest a others)

told_on : (limit : ℕ) (events later : List Event) (m : Mode) (bytes mid rest : List ℕ) (n a : Mode) → AreTold limit m bytes events mid n → AreTold limit n mid later rest a → AreTold limit m bytes (events ++ later) rest a
told_on limit [] later m bytes mid rest n a s t = rw (s.0, s.1) at t
told_on limit (e ∷ events) later m bytes mid rest n a (behind, between, first, named, others) t =
    (behind, between, first, named, told_on limit events later between behind mid rest n a others t)

-- ---- what is told of bytes that stand in a mode

record IsTold (limit : ℕ) (m : Mode) (bytes : List ℕ) (t : Told) : Type 0 where
  pub events : AreTold limit m bytes t.events (collected t.to) (mode_of t.to)
  pub state : IsState limit t.to

-- either way of a test
test : (limit : ℕ) (m : Mode) (bytes : List ℕ) (q : Bool) (x y : Told) → (q ≡ true → IsTold limit m bytes x) → (q ≡ false → IsTold limit m bytes y) → IsTold limit m bytes (if q then x else y)
test limit m bytes true x y h k = h refl
test limit m bytes false x y h k = k refl

-- ---- all the bytes are one part

told_one : (limit : ℕ) (m a : Mode) (bytes : List ℕ) (k : Kind) (e : Event) (f : Answer) → part_of e ≡ part k bytes → e ≡ event_by m k bytes → ahead m bytes ≡ f → Allows f limit bytes k bytes a
    → IsTold limit m bytes (one e a)
told_one limit m a bytes k e f is named says s =
    let allows = subst (λ (x : Answer). Allows x limit bytes k bytes a) (sym says) s in
    let first = subst (λ (p : Part). IsFirstPart limit m bytes p [] a) (sym is) (sym (append-nil bytes), allows) in
    record { events = ([], a, first, subst (λ (p : Part). e ≡ event_by m p.kind p.bytes) (sym is) named, (refl, refl)); state = tt }

-- what a row says that holds in the mode and whose spots the bytes fit
says_row : {r : ModeRow} (m : Mode) (bytes : List ℕ) (i : ℕ) → slice_get mode_table i ≡ Some r → holds_in r.modes m ≡ true → begin_with r.spots bytes ≡ true → ahead m bytes ≡ r.answer
says_row {r} m bytes i at modes fit = said i r m bytes at (and_from (holds_in r.modes m) (begin_with r.spots bytes) modes fit)

by_row : {r : ModeRow} (limit : ℕ) (m a : Mode) (bytes : List ℕ) (k : Kind) (e : Event) (i : ℕ) → slice_get mode_table i ≡ Some r → holds_in r.modes m ≡ true →
    begin_with r.spots bytes ≡ true → Allows r.answer limit bytes k bytes a → part_of e ≡ part k bytes → e ≡ event_by m k bytes → IsTold limit m bytes (one e a)
by_row {r} limit m a bytes k e i at modes fit s is named = told_one limit m a bytes k e r.answer is named (says_row m bytes i at modes fit) s

-- ---- a byte where nothing is collected

text_part : (b : ℕ) → part_of (text b) ≡ part Kind.Text (b ∷ [])
text_part b = by (within (controls ++ cancels) b)
  where
    by : (q : Bool) → part_of (if q then Execute b else Print b) ≡ part Kind.Text (b ∷ [])
    by true = refl
    by false = refl

executed : (b : ℕ) → within (controls ++ cancels) b ≡ true → Execute b ≡ text b
executed b e = sym (ap (λ (q : Bool). if q then Execute b else Print b) e)

printed : (b : ℕ) → within (controls ++ cancels) b ≡ false → Print b ≡ text b
printed b e = sym (ap (λ (q : Bool). if q then Execute b else Print b) e)

cancel : (limit : ℕ) (m : Mode) (b : ℕ) → within cancels b ≡ true → IsTold limit m (b ∷ []) (one (Execute b) Mode.Text)
cancel limit Mode.Text b e = by_row limit Mode.Text Mode.Text (b ∷ []) Kind.Text (Execute b) 0 refl refl (grind (arith, nat_tests)) (refl, refl, refl) refl (executed b (grind (arith, nat_tests)))
cancel limit m b e = by_row limit m Mode.Text (b ∷ []) Kind.Text (Execute b) 10 refl refl (grind (arith, nat_tests)) (refl, refl, refl) refl (executed b (grind (arith, nat_tests)))

esc_is : (b : ℕ) → within esc b ≡ true → b ≡ 27
esc_is b e = grind (arith, nat_tests)

anywhere_told : (limit : ℕ) (m : Mode) (b : ℕ) (other : Told) → (within esc b ≡ false → within cancels b ≡ false → IsTold limit m (b ∷ []) other) → IsTold limit m (b ∷ []) (anywhere m b other)
anywhere_told limit m b other h =
    test limit m (b ∷ []) (within esc b) (tell [] (Escape m)) _
    (λ e. record { events = (ap (λ (x : ℕ). x ∷ []) (sym (esc_is b e)), refl); state = tt })
    (λ off. test limit m (b ∷ []) (within cancels b) (one (Execute b) Mode.Text) other (cancel limit m b) (h off))

open_told : (limit : ℕ) (m : Mode) (b : ℕ) → IsTold limit m (b ∷ []) (next_open m b)
open_told limit Mode.Text b = anywhere_told limit Mode.Text b _ (λ off keep.
    by_row limit Mode.Text Mode.Text (b ∷ []) Kind.Text (text b) 0 refl refl (grind (arith, nat_tests)) (refl, refl, refl) (text_part b) refl)
open_told limit Mode.Osc b = anywhere_told limit Mode.Osc b _ (λ off keep. test limit Mode.Osc (b ∷ []) (within bel b) (one (Unhook (b ∷ [])) Mode.Text) _
    (λ e. by_row limit Mode.Osc Mode.Text (b ∷ []) Kind.Str (Unhook (b ∷ [])) 1 refl refl (grind (arith, nat_tests)) (refl, refl, refl) refl (sym (ap (λ (q : Bool). if q then Unhook (b ∷ []) else Put (b ∷ [])) e)))
    (λ e. by_row limit Mode.Osc Mode.Osc (b ∷ []) Kind.Str (Put (b ∷ [])) 2 refl refl (grind (arith, nat_tests)) (refl, refl, refl) refl (sym (ap (λ (q : Bool). if q then Unhook (b ∷ []) else Put (b ∷ [])) e))))
open_told limit Mode.Dcs b = anywhere_told limit Mode.Dcs b _ (λ off keep.
    by_row limit Mode.Dcs Mode.Dcs (b ∷ []) Kind.Str (Put (b ∷ [])) 3 refl refl (grind (arith, nat_tests)) (refl, refl, refl) refl refl)
open_told limit Mode.Str b = anywhere_told limit Mode.Str b _ (λ off keep.
    by_row limit Mode.Str Mode.Str (b ∷ []) Kind.Str (Put (b ∷ [])) 4 refl refl (grind (arith, nat_tests)) (refl, refl, refl) refl refl)
open_told limit Mode.BadCsi b = anywhere_told limit Mode.BadCsi b _ (λ off keep. test limit Mode.BadCsi (b ∷ []) (within csi_finals b) (one (Ignore (b ∷ [])) Mode.Text) _
    (λ e. by_row limit Mode.BadCsi Mode.Text (b ∷ []) Kind.Other (Ignore (b ∷ [])) 6 refl refl (grind (arith, nat_tests)) (refl, refl, refl) refl refl)
    (λ last. test limit Mode.BadCsi (b ∷ []) (within ascii b) (one (Ignore (b ∷ [])) Mode.BadCsi) _
    (λ e. by_row limit Mode.BadCsi Mode.BadCsi (b ∷ []) Kind.Other (Ignore (b ∷ [])) 5 refl refl (grind (arith, nat_tests)) (refl, refl, refl) refl refl)
    (λ e. by_row limit Mode.BadCsi Mode.Text (b ∷ []) Kind.Text (Print b) 9 refl refl (grind (arith, nat_tests)) (refl, refl, refl) refl (printed b (grind (arith, nat_tests))))))
open_told limit Mode.BadEsc b = anywhere_told limit Mode.BadEsc b _ (λ off keep. test limit Mode.BadEsc (b ∷ []) (within esc_finals b) (one (Ignore (b ∷ [])) Mode.Text) _
    (λ e. by_row limit Mode.BadEsc Mode.Text (b ∷ []) Kind.Other (Ignore (b ∷ [])) 8 refl refl (grind (arith, nat_tests)) (refl, refl, refl) refl refl)
    (λ last. test limit Mode.BadEsc (b ∷ []) (within ascii b) (one (Ignore (b ∷ [])) Mode.BadEsc) _
    (λ e. by_row limit Mode.BadEsc Mode.BadEsc (b ∷ []) Kind.Other (Ignore (b ∷ [])) 7 refl refl (grind (arith, nat_tests)) (refl, refl, refl) refl refl)
    (λ e. by_row limit Mode.BadEsc Mode.Text (b ∷ []) Kind.Text (Print b) 9 refl refl (grind (arith, nat_tests)) (refl, refl, refl) refl (printed b (grind (arith, nat_tests))))))

-- what is collected is a part that went wrong, and behind it the byte is told
spoil : (limit : ℕ) (m a : Mode) (front : List ℕ) (b : ℕ) (f : Answer) → ahead m (front ++ b ∷ []) ≡ f → Allows f limit (front ++ b ∷ []) Kind.Other front a → IsTold limit m (front ++ b ∷ []) (spoiled front a b)
spoil limit m a front b f says s =
    let t = open_told limit a b in
    let allows = subst (λ (x : Answer). Allows x limit (front ++ b ∷ []) Kind.Other front a) (sym says) s in
    record { events = (b ∷ [], a, (refl, allows), refl, t.events); state = t.state }

spoil_row : {r : ModeRow} (limit : ℕ) (m a : Mode) (front : List ℕ) (b i : ℕ) → slice_get mode_table i ≡ Some r → holds_in r.modes m ≡ true →
    begin_with r.spots (front ++ b ∷ []) ≡ true → Allows r.answer limit (front ++ b ∷ []) Kind.Other front a → IsTold limit m (front ++ b ∷ []) (spoiled front a b)
spoil_row {r} limit m a front b i at modes fit s = spoil limit m a front b r.answer (says_row m (front ++ b ∷ []) i at modes fit) s

-- ---- behind ESC and an intermediate byte

intermediate_told : (limit : ℕ) (m : Mode) (i b : ℕ) → within intermediates i ≡ true → IsTold limit m (27 ∷ i ∷ b ∷ []) (next limit (EscapeIntermediate m i) b)
intermediate_told limit m i b is =
    let bytes = 27 ∷ i ∷ b ∷ [] in
    test limit m bytes (within esc_finals b) (one (EscDispatch bytes) Mode.Text) _
    (λ e. by_row limit m Mode.Text bytes Kind.Esc (EscDispatch bytes) 18 refl (in_every m) (grind (arith, nat_tests)) (refl, refl, refl) refl refl)
    (λ e. spoil_row limit m Mode.BadEsc (27 ∷ i ∷ []) b 19 refl (in_every m) (grind (arith, nat_tests)) (refl, refl, refl))

-- ---- a body, and a byte behind it

digit_is : (b : ℕ) → IsDigit b → within (through (byte 3 0) (byte 3 9)) b ≡ true
digit_is b d = grind (arith, nat_tests, d.0, d.1)

other_is : (b : ℕ) → ¬ IsDigit b → within (through (byte 3 0) (byte 3 9)) b ≡ false
other_is b other = elim (cases_Bool (within (through (byte 3 0) (byte 3 9)) b)) [
  | inl is ↦ absurd (other (grind (arith, nat_tests), grind (arith, nat_tests)))
  | inr off ↦ off
]

digit_number : (n b : ℕ) → IsDigit b → number_with n b ≡ 10 * n + (b - 48)
digit_number n b d = ap (λ (q : Bool). if q then 10 * n + (b - 48) else 0) (digit_is b d)

other_number : (n b : ℕ) → ¬ IsDigit b → number_with n b ≡ 0
other_number n b other = ap (λ (q : Bool). if q then 10 * n + (b - 48) else 0) (other_is b other)

too_large : (body : List ℕ) (n b : ℕ) → EndsIn body n → IsDigit b → largest < 10 * n + (b - 48) → IsBody (body ++ b ∷ []) → ⊥
too_large body n b e d large is = let s : Stops n (b ∷ []) = digit_step None n b d large in s.none body e is

ends_more : (body : List ℕ) (n b : ℕ) → EndsIn body n → IsBody (body ++ b ∷ []) → EndsIn (body ++ b ∷ []) (number_with n b)
ends_more body n b e h = elim (digit_or_other b) [
  | inl d ↦ elim (cases_lt largest (10 * n + (b - 48))) [
    | inl large ↦ absurd (too_large body n b e d large h)
    | inr le ↦ subst (EndsIn (body ++ b ∷ [])) (sym (digit_number n b d)) (digit_on body n b e d le)
  ]
  | inr other ↦ subst (EndsIn (body ++ b ∷ [])) (sym (other_number n b other)) (other_on body n b e (All-back IsBodyByte body (b ∷ []) h.bytes).0 other)
]

ends_in : (bytes body : List ℕ) (n : ℕ) → EndsIn body n → IsBody (body ++ bytes) → EndsIn (body ++ bytes) (number_behind n bytes)
ends_in [] body n e h = subst (λ (t : List ℕ). EndsIn t n) (sym (append-nil body)) e
ends_in (b ∷ bytes) body n e h =
    let split = append_assoc body (b ∷ []) bytes in
    let all : IsBody ((body ++ b ∷ []) ++ bytes) = subst IsBody (sym split) h in
    let first = ends_more body n b e (IsBody-front (body ++ b ∷ []) bytes all) in
    subst (λ (t : List ℕ). EndsIn t (number_behind (number_with n b) bytes)) split (ends_in bytes (body ++ b ∷ []) (number_with n b) first all)

body_ends : (body : List ℕ) → IsBody body → EndsIn body (number_behind 0 body)
body_ends body h = ends_in body [] 0 none_begun h

body_byte : (b : ℕ) → within (intermediates ++ parameters) b ≡ true → IsBodyByte b
body_byte b e = (grind (arith, nat_tests), grind (arith, nat_tests))

few : (n : ℕ) → nat_le n largest ≡ true → n ≤ largest
few n e = grind (arith, nat_tests)

many : (n : ℕ) → nat_le n largest ≡ false → largest < n
many n e = grind (arith, nat_tests)

body_more : (body : List ℕ) (b : ℕ) → IsBody body → goes_on body b ≡ true → IsBody (body ++ b ∷ [])
body_more body b h e =
    let n = number_behind 0 body in
    let (is, fits) = and_parts (within (intermediates ++ parameters) b) (nat_le (number_with n b) largest) e in
    elim (digit_or_other b) [
      | inl d ↦ (digit_on body n b (body_ends body h) d (subst (λ (x : ℕ). x ≤ largest) (digit_number n b d) (few (number_with n b) fits))).is
      | inr other ↦ (other_on body n b (body_ends body h) (body_byte b is) other).is
    ]

-- a number that is too large
number_stops : (body : List ℕ) (b : ℕ) → IsBody body → nat_le (number_with (number_behind 0 body) b) largest ≡ false → StopsAt body b
number_stops body b h e =
    let n = number_behind 0 body in
    let large = many (number_with n b) e in
    record {
      begun = h;
      stop = λ more. elim (digit_or_other b) [
        | inl d ↦ too_large body n b (body_ends body h) d (subst (λ (x : ℕ). largest < x) (digit_number n b d) large) more
        | inr other ↦ omega (arith, large, other_number n b other)
      ];
    }

bad_is : (b : ℕ) → within csi_finals b ≡ false → within (intermediates ++ parameters) b ≡ false → IsBad b
bad_is b e f = elim (cases_lt b 32) [
  | inl low ↦ inl low
  | inr high ↦ inr (grind (arith, nat_tests))
]

wrong_behind : (limit : ℕ) (body : List ℕ) (b : ℕ) → IsBody body → length body + 2 < limit → within csi_finals b ≡ false → goes_on body b ≡ false →
    IsMalformed limit (27 ∷ 91 ∷ (body ++ b ∷ [])) (length (27 ∷ 91 ∷ body))
wrong_behind limit body b h low last stops =
    let bytes = 27 ∷ 91 ∷ (body ++ b ∷ []) in
    let place : length (27 ∷ 91 ∷ body) ≡ length bytes - length (b ∷ []) = omega (arith, length-append body (b ∷ [])) in
    let short : length (27 ∷ 91 ∷ body) < limit = omega (arith, low) in
    elim (cases_Bool (within (intermediates ++ parameters) b)) [
      | inl is ↦ elim (and_cases (within (intermediates ++ parameters) b) (nat_le (number_with (number_behind 0 body) b) largest) stops) [
        | inl off ↦ absurd (let both = sym is ∙ off in cc)
        | inr large ↦ inl (NumberTooLarge (length bytes - length (b ∷ [])), large_byte bytes body (b ∷ []) [] b refl refl (number_stops body b h large) (body_byte b is), place, short)
      ]
      | inr off ↦ inl (BadByte (length bytes - length (b ∷ [])), bad_byte bytes body (b ∷ []) [] b refl refl h (bad_is b last off), place, short)
    ]

seq_of : (body : List ℕ) (b : ℕ) → IsBody body → within csi_finals b ≡ true → IsSequence (27 ∷ 91 ∷ (body ++ b ∷ []))
seq_of body b h e =
    let s = spelled_body body h in
    (s.list, b, record { spellable = s.spellable; ends = (grind (arith, nat_tests), grind (arith, nat_tests)); body = body; spelled = s.spelled; whole = refl })

collect_told : (limit : ℕ) (m : Mode) (body : List ℕ) → IsBody body → length body + 2 ≤ limit → IsTold limit m (27 ∷ 91 ∷ body) (collect limit m body)
collect_told limit m body h fits =
    let bytes = 27 ∷ 91 ∷ body in
    test limit m bytes (nat_lt (length body + 2) limit) (tell [] (CsiParam m body)) _
    (λ e. record { events = (refl, refl); state = (h, grind (arith, nat_tests)) })
    (λ e. let full : limit ≡ length body + 2 = grind (arith, nat_tests) in
    let all = take_all limit bytes (omega (arith, full)) in
    told_one limit m Mode.BadCsi bytes Kind.Other (Ignore bytes) Sequence refl refl (opens m body)
    (inr (subst Begins (sym all) (inr (inr (body, refl, h))), omega (arith, full), omega (arith, full)), refl))

csi_told : (limit : ℕ) (m : Mode) (body : List ℕ) (b : ℕ) → IsBody body → length body + 2 < limit → IsTold limit m (27 ∷ 91 ∷ (body ++ b ∷ [])) (next limit (CsiParam m body) b)
csi_told limit m body b h low =
    let bytes = 27 ∷ 91 ∷ (body ++ b ∷ []) in
    let says = opens m (body ++ b ∷ []) in
    let fits : length (body ++ b ∷ []) + 2 ≤ limit = omega (arith, low, length-append body (b ∷ [])) in
    test limit m bytes (within csi_finals b) (one (CsiDispatch bytes) Mode.Text) _
    (λ e. told_one limit m Mode.Text bytes Kind.Csi (CsiDispatch bytes) Sequence refl refl says (seq_of body b h e, omega (arith, fits), refl))
    (λ last. test limit m bytes (goes_on body b) (collect limit m (body ++ b ∷ [])) _
    (λ e. collect_told limit m (body ++ b ∷ []) (body_more body b h e) fits)
    (λ e. spoil limit m Mode.BadCsi (27 ∷ 91 ∷ body) b Sequence says (wrong_behind limit body b h low last e, refl)))

-- ---- behind ESC

none_body : IsBody []
none_body = none_begun.is

csi_begins : (limit : ℕ) (m : Mode) (b : ℕ) → 0 < limit → within (the "[") b ≡ true → IsTold limit m (27 ∷ b ∷ []) (if nat_lt 1 limit then collect limit m [] else spoiled (27 ∷ []) Mode.BadCsi b)
csi_begins limit m b some e =
    let is : b ≡ 91 = grind (arith, nat_tests) in
    let says : ahead m (27 ∷ b ∷ []) ≡ Sequence = ap (λ (x : ℕ). ahead m (27 ∷ x ∷ [])) is ∙ opens m [] in
    test limit m (27 ∷ b ∷ []) (nat_lt 1 limit) (collect limit m []) _
    (λ e. subst (λ (x : ℕ). IsTold limit m (27 ∷ x ∷ []) (collect limit m [])) (sym is) (collect_told limit m [] none_body (let room : 1 < limit = grind (arith, nat_tests) in omega (arith, room))))
    (λ e. let only : limit ≡ 1 = grind (arith, nat_tests) in
    spoil limit m Mode.BadCsi (27 ∷ []) b Sequence says (subst (λ (n : ℕ). IsMalformed n (27 ∷ b ∷ []) 1) (sym only) (inr (inr (inl refl), omega arith, refl)), refl))

no_string : (m : Mode) → holds_in string_modes m ≡ false → holds_in no_string_modes m ≡ true
no_string Mode.Text e = refl
no_string Mode.BadCsi e = refl
no_string Mode.BadEsc e = refl
no_string _ e = absurd cc

escape_final : (limit : ℕ) (m : Mode) (b : ℕ) → within (the "[") b ≡ false → (within (the "\\") b && holds_in string_modes m) ≡ false → within (the "]") b ≡ false → within (the "P") b ≡ false →
    within (the "X" ++ (the "^" ++ the "_")) b ≡ false → within esc_finals b ≡ true → IsTold limit m (27 ∷ b ∷ []) (one (EscDispatch (27 ∷ b ∷ [])) Mode.Text)
escape_final limit m b csi st osc dcs str e =
    let bytes = 27 ∷ b ∷ [] in
    elim (cases_Bool (within (the "\\") b)) [
      | inl is ↦ elim (and_cases (within (the "\\") b) (holds_in string_modes m) st) [
        | inl off ↦ absurd (let both = sym is ∙ off in cc)
        | inr shut ↦ by_row limit m Mode.Text bytes Kind.Esc (EscDispatch bytes) 16 refl (no_string m shut) (grind (arith, nat_tests)) (refl, refl, refl) refl refl
      ]
      | inr other ↦ by_row limit m Mode.Text bytes Kind.Esc (EscDispatch bytes) 17 refl (in_every m) (grind (arith, nat_tests)) (refl, refl, refl) refl refl
    ]

no_dcs : (m : Mode) → holds_in (Mode.Dcs ∷ []) m ≡ false → holds_in (Mode.Osc ∷ Mode.Str ∷ no_string_modes) m ≡ true
no_dcs Mode.Dcs e = absurd cc
no_dcs _ e = refl

escape_wrong : (limit : ℕ) (m : Mode) (b : ℕ) → within esc_finals b ≡ false → within intermediates b ≡ false → (within esc b && holds_in (Mode.Dcs ∷ []) m) ≡ false →
    IsTold limit m (27 ∷ b ∷ []) (spoiled (27 ∷ []) Mode.BadEsc b)
escape_wrong limit m b last int quote =
    elim (cases_Bool (within esc b)) [
      | inl is ↦ elim (and_cases (within esc b) (holds_in (Mode.Dcs ∷ []) m) quote) [
        | inl off ↦ absurd (let both = sym is ∙ off in cc)
        | inr other ↦ spoil_row limit m Mode.BadEsc (27 ∷ []) b 21 refl (no_dcs m other) (grind (arith, nat_tests)) (refl, refl, refl)
      ]
      | inr off ↦ spoil_row limit m Mode.BadEsc (27 ∷ []) b 22 refl (in_every m) (grind (arith, nat_tests)) (refl, refl, refl)
    ]

hooked : (m : Mode) (b : ℕ) → within (the "\\") b ≡ false → within esc b ≡ false → Hook b ≡ event_by m Kind.Str (27 ∷ b ∷ [])
hooked m b e f = rw (e, f) refl

closed : (m : Mode) (b : ℕ) → within (the "\\") b ≡ true → Unhook (27 ∷ b ∷ []) ≡ event_by m Kind.Str (27 ∷ b ∷ [])
closed m b e = rw e refl

kept_put : (m : Mode) (b : ℕ) → within (the "\\") b ≡ false → within esc b ≡ true → Put (27 ∷ b ∷ []) ≡ event_by m Kind.Str (27 ∷ b ∷ [])
kept_put m b e f = rw (e, f) refl

escape_told : (limit : ℕ) (m : Mode) (b : ℕ) → 0 < limit → IsTold limit m (27 ∷ b ∷ []) (next_escape limit m b)
escape_told limit m b some =
    let bytes = 27 ∷ b ∷ [] in
    let t = test limit m bytes in
    t (within (the "[") b) _ _ (csi_begins limit m b some)
    (λ csi. t (within (the "\\") b && holds_in string_modes m) (one (Unhook bytes) Mode.Text) _
    (λ e. let (is, string) = and_parts (within (the "\\") b) (holds_in string_modes m) e in
    by_row limit m Mode.Text bytes Kind.Str (Unhook bytes) 15 refl string (grind (arith, nat_tests)) (refl, refl, refl) refl (closed m b is))
    (λ st. t (within (the "]") b) (one (Hook b) Mode.Osc) _
    (λ e. by_row limit m Mode.Osc bytes Kind.Str (Hook b) 12 refl (in_every m) (grind (arith, nat_tests)) (refl, refl, refl) refl (hooked m b (grind (arith, nat_tests)) (grind (arith, nat_tests))))
    (λ osc. t (within (the "P") b) (one (Hook b) Mode.Dcs) _
    (λ e. by_row limit m Mode.Dcs bytes Kind.Str (Hook b) 13 refl (in_every m) (grind (arith, nat_tests)) (refl, refl, refl) refl (hooked m b (grind (arith, nat_tests)) (grind (arith, nat_tests))))
    (λ dcs. t (within (the "X" ++ (the "^" ++ the "_")) b) (one (Hook b) Mode.Str) _
    (λ e. by_row limit m Mode.Str bytes Kind.Str (Hook b) 14 refl (in_every m) (grind (arith, nat_tests)) (refl, refl, refl) refl (hooked m b (grind (arith, nat_tests)) (grind (arith, nat_tests))))
    (λ str. t (within esc_finals b) (one (EscDispatch bytes) Mode.Text) _
    (escape_final limit m b csi st osc dcs str)
    (λ last. t (within intermediates b) (tell [] (EscapeIntermediate m b)) _
    (λ e. record { events = (refl, refl); state = e })
    (λ int. t (within esc b && holds_in (Mode.Dcs ∷ []) m) (one (Put bytes) Mode.Dcs) _
    (quoted limit m b)
    (escape_wrong limit m b last int))))))))
  where
    quoted : (limit : ℕ) (m : Mode) (b : ℕ) → (within esc b && holds_in (Mode.Dcs ∷ []) m) ≡ true → IsTold limit m (27 ∷ b ∷ []) (one (Put (27 ∷ b ∷ [])) Mode.Dcs)
    quoted limit m b e =
        let (is, dcs) = and_parts (within esc b) (holds_in (Mode.Dcs ∷ []) m) e in
        by_row limit m Mode.Dcs (27 ∷ b ∷ []) Kind.Str (Put (27 ∷ b ∷ [])) 20 refl dcs (grind (arith, nat_tests)) (refl, refl, refl) refl (kept_put m b (grind (arith, nat_tests)) is)

-- ---- one byte, and then all

next_told : (limit : ℕ) (s : State) (b : ℕ) → 0 < limit → IsState limit s → IsTold limit (mode_of s) (collected s ++ b ∷ []) (next limit s b)
next_told limit (Open m) b some h = open_told limit m b
next_told limit (Escape m) b some h = escape_told limit m b some
next_told limit (EscapeIntermediate m i) b some h = intermediate_told limit m i b h
next_told limit (CsiParam m body) b some h = csi_told limit m body b h.0 h.1

walk_told : (limit : ℕ) (bytes : List ℕ) (s : State) → 0 < limit → IsState limit s → IsTold limit (mode_of s) (collected s ++ bytes) (walk limit s bytes)
walk_told limit [] s some h = record { events = (sym (append-nil (collected s)), refl); state = h }
walk_told limit (b ∷ bytes) s some h =
    let t = next limit s b in
    let u = walk limit t.to bytes in
    let first = next_told limit s b some h in
    let others = walk_told limit bytes t.to some first.state in
    let split = append_assoc (collected s) (b ∷ []) bytes in
    let front = told_more limit t.events (mode_of s) (collected s ++ b ∷ []) bytes (collected t.to) (mode_of t.to) first.events in
    let all = told_on limit t.events u.events (mode_of s) ((collected s ++ b ∷ []) ++ bytes) (collected t.to ++ bytes) (collected u.to) (mode_of t.to) (mode_of u.to) front others.events in
    record { events = subst (λ (x : List ℕ). AreTold limit (mode_of s) x (t.events ++ u.events) (collected u.to) (mode_of u.to)) split all; state = others.state }

-- ---- nothing is sure of what is collected

state_unsure : (limit : ℕ) (s : State) → IsState limit s → IsUnsure limit (mode_of s) (collected s)
state_unsure limit (Open m) h = none_unsure limit m
state_unsure limit (Escape m) h =
    let says : ahead m (27 ∷ []) ≡ Undecided = says_row m (27 ∷ []) 24 refl (in_every m) refl in
    subst (λ (f : Answer). IsUnsureBy f limit (27 ∷ [])) (sym says) tt
state_unsure limit (EscapeIntermediate m i) h =
    let says : ahead m (27 ∷ i ∷ []) ≡ Undecided = says_row m (27 ∷ i ∷ []) 25 refl (in_every m) (grind (arith, nat_tests)) in
    subst (λ (f : Answer). IsUnsureBy f limit (27 ∷ i ∷ [])) (sym says) tt
state_unsure limit (CsiParam m body) h = body_unsure limit m body h.0 h.1

pub tells_parts : (limit : ℕ) (s : State) (bytes : List ℕ) → 0 < limit → IsState limit s → TellsParts limit s bytes (walk limit s bytes)
tells_parts limit s bytes some h =
    let t = walk limit s bytes in
    let is = walk_told limit bytes s some h in
    record { parts = told_parts limit t.events (mode_of s) (collected s ++ bytes) (collected t.to) (mode_of t.to) is.events; unsure = state_unsure limit t.to is.state; state = is.state }

-- ---- a whole stream

left_parts : (bytes : List ℕ) → map part_of (left bytes) ≡ left_over bytes
left_parts [] = refl
left_parts (b ∷ bytes) = refl

told_whole : (limit : ℕ) (bytes : List ℕ) → 0 < limit → IsWhole limit Mode.Text bytes (map part_of (told limit bytes))
told_whole limit bytes some =
    let t = walk limit (Open Mode.Text) bytes in
    let is = tells_parts limit (Open Mode.Text) bytes some tt in
    record {
      sure = map part_of t.events;
      rest = collected t.to;
      after = mode_of t.to;
      first = is.parts;
      unsure = is.unsure;
      whole = map-append part_of t.events (left (collected t.to)) ∙ ap (λ (ps : List Part). map part_of t.events ++ ps) (left_parts (collected t.to));
    }

pub tells_whole : (limit : ℕ) (bytes : List ℕ) (parts : List Part) → 0 < limit → IsWhole limit Mode.Text bytes parts ↔ (parts ≡ map part_of (told limit bytes))
tells_whole limit bytes parts some = (
  λ h. whole_once limit Mode.Text bytes parts (map part_of (told limit bytes)) h (told_whole limit bytes some),
  λ e. subst (λ (ps : List Part). IsWhole limit Mode.Text bytes ps) (sym e) (told_whole limit bytes some),
)

-- ---- what stands in front by the table is what is told of it, whatever is told behind it

-- up to where nothing is sure, the events are these alone
told_once : (limit : ℕ) (es fs : List Event) (m : Mode) (bytes x y : List ℕ) (a b : Mode) → AreTold limit m bytes es x a → IsUnsure limit a x → AreTold limit m bytes fs y b → IsUnsure limit b y
    → (es ≡ fs) × (x ≡ y) × (a ≡ b)
told_once limit [] [] m bytes x y a b s o t i = (refl, s.0 ∙ sym t.0, s.1 ∙ sym t.1)
told_once limit [] (f ∷ fs) m bytes x y a b s o (behind, mid, first, named, others) i = absurd (unsure_stops limit m bytes (part_of f) behind mid (rw (s.0, s.1) at o) first)
told_once limit (e ∷ es) [] m bytes x y a b (behind, mid, first, named, others) o t i = absurd (unsure_stops limit m bytes (part_of e) behind mid (rw (t.0, t.1) at i) first)
told_once limit (e ∷ es) (f ∷ fs) m bytes x y a b (behind, mid, first, named, others) o (behind2, mid2, first2, named2, others2) i =
    let one = part_once limit m bytes (part_of e) (part_of f) behind behind2 mid mid2 first first2 in
    let event : e ≡ f = named ∙ ap (λ (r : Part). event_by m r.kind r.bytes) one.parts ∙ sym named2 in
    let (events, rests, modes) = told_once limit es fs mid behind x y a b others o (rw (sym one.rests, sym one.modes) at others2) i in
    (ap (λ (z : Event). z ∷ es) event ∙ ap (λ (zs : List Event). f ∷ zs) events, rests, modes)

-- the event of a part
part_named : (limit : ℕ) (m : Mode) (bytes : List ℕ) (p : Part) (rest : List ℕ) (a : Mode) → IsFirstPart limit m bytes p rest a → part_of (event_by m p.kind p.bytes) ≡ p
part_named limit m bytes p rest a s = by p.kind p.bytes (fit limit m bytes p.kind p.bytes rest a s)
  where
    one_text : (t : List ℕ) → length t ≡ 1 → part_of (text_event t) ≡ part Kind.Text t
    one_text (b ∷ []) e = text_part b
    one_text [] e = absurd (omega (arith, e))
    one_text (b ∷ c ∷ t) e = absurd (omega (arith, e))

    single : (q : Bool) (b : ℕ) → part_of (if q then Unhook (b ∷ []) else Put (b ∷ [])) ≡ part Kind.Str (b ∷ [])
    single true b = refl
    single false b = refl

    double : (q r : Bool) (c : ℕ) → part_of (if q then Unhook (27 ∷ c ∷ []) else if r then Put (27 ∷ c ∷ []) else Hook c) ≡ part Kind.Str (27 ∷ c ∷ [])
    double true r c = refl
    double false true c = refl
    double false false c = refl

    piece : (t : List ℕ) → IsPiece m t → part_of (string_event m t) ≡ part Kind.Str t
    piece t (inl (c, e, other, shut)) = subst (λ (x : List ℕ). part_of (string_event m x) ≡ part Kind.Str x) (sym e) (single (is_osc m && within bel c) c)
    piece t (inr (c, e, other)) = subst (λ (x : List ℕ). part_of (string_event m x) ≡ part Kind.Str x) (sym e) (double (within (the "\\") c) (within esc c) c)

    by : (k : Kind) (t : List ℕ) → IsFit m k t a → part_of (event_by m k t) ≡ part k t
    by Kind.Text t f = one_text t f.1
    by Kind.Csi t f = refl
    by Kind.Esc t f = refl
    by Kind.Str t f = piece t f
    by Kind.Other t f = refl

parts_told : (limit : ℕ) (ps : List Part) (m : Mode) (bytes rest : List ℕ) (a : Mode) → AreFirstParts limit m bytes ps rest a → (events : List Event) × (map part_of events ≡ ps) × AreTold limit m bytes events rest a
parts_told limit [] m bytes rest a s = ([], refl, s)
parts_told limit (p ∷ ps) m bytes rest a (behind, mid, first, others) =
    let (events, same, told) = parts_told limit ps mid behind rest a others in
    let is = part_named limit m bytes p behind mid first in (
      event_by m p.kind p.bytes ∷ events,
      ap (λ (q : Part). q ∷ map part_of events) is ∙ ap (λ (qs : List Part). p ∷ qs) same,
      (
        behind,
        mid,
        subst (λ (q : Part). IsFirstPart limit m bytes q behind mid) (sym is) first,
        ap (λ (q : Part). event_by m q.kind q.bytes) (sym is),
        told,
      ),
    )

no_intermediate : (i : ℕ) (body : List ℕ) → within intermediates i ≡ true → 27 ∷ i ∷ [] ≡ 27 ∷ 91 ∷ body → ⊥
no_intermediate i body h e =
    let is : i ≡ 91 = cc in
    let both : false ≡ true = subst (λ (x : ℕ). within intermediates x ≡ true) is h in
    cc

-- a state is what it has collected, and the mode that this came in
state_once : (limit : ℕ) (s t : State) → IsState limit s → IsState limit t → collected s ≡ collected t → mode_of s ≡ mode_of t → s ≡ t
state_once limit (Open m) (Open n) h k e f = ap Open f
state_once limit (Escape m) (Escape n) h k e f = ap Escape f
state_once limit (EscapeIntermediate m i) (EscapeIntermediate n j) h k e f =
    let lists : 27 ∷ i ∷ [] ≡ 27 ∷ j ∷ [] = e in
    let same : i ≡ j = cc in
    ap (λ (x : ℕ). EscapeIntermediate m x) same ∙ ap (λ (x : Mode). EscapeIntermediate x j) f
state_once limit (CsiParam m body) (CsiParam n other) h k e f =
    let lists : 27 ∷ 91 ∷ body ≡ 27 ∷ 91 ∷ other = e in
    let same : body ≡ other = cc in
    ap (λ (x : List ℕ). CsiParam m x) same ∙ ap (λ (x : Mode). CsiParam x other) f
state_once limit (EscapeIntermediate m i) (CsiParam n body) h k e f = absurd (no_intermediate i body h e)
state_once limit (CsiParam m body) (EscapeIntermediate n i) h k e f = absurd (no_intermediate i body k (sym e))
state_once limit (Open m) (Escape n) h k e f = absurd (omega (arith, ap length e))
state_once limit (Open m) (EscapeIntermediate n j) h k e f = absurd (omega (arith, ap length e))
state_once limit (Open m) (CsiParam n body) h k e f = absurd (omega (arith, ap length e))
state_once limit (Escape m) (Open n) h k e f = absurd (omega (arith, ap length e))
state_once limit (Escape m) (EscapeIntermediate n j) h k e f = absurd (omega (arith, ap length e))
state_once limit (Escape m) (CsiParam n body) h k e f = absurd (omega (arith, ap length e))
state_once limit (EscapeIntermediate m i) (Open n) h k e f = absurd (omega (arith, ap length e))
state_once limit (EscapeIntermediate m i) (Escape n) h k e f = absurd (omega (arith, ap length e))
state_once limit (CsiParam m body) (Open n) h k e f = absurd (omega (arith, ap length e))
state_once limit (CsiParam m body) (Escape n) h k e f = absurd (omega (arith, ap length e))

-- what is collected, and nothing more, tells nothing, and leads to its state
pub resumed : (limit : ℕ) (s : State) → 0 < limit → IsState limit s → walk limit (Open (mode_of s)) (collected s) ≡ tell [] s
resumed limit s some h =
    let w = walk limit (Open (mode_of s)) (collected s) in
    let whole = walk_told limit (collected s) (Open (mode_of s)) some tt in
    let (none, left, modes) = told_once limit w.events [] (mode_of s) (collected s) (collected w.to) (collected s) (mode_of w.to) (mode_of s)
    whole.events (state_unsure limit w.to whole.state) (refl, refl) (state_unsure limit s h) in
    ap (λ (es : List Event). tell es w.to) none ∙ ap (λ (t : State). tell [] t) (state_once limit w.to s whole.state h left modes)

-- bytes of which nothing is sure tell nothing
pub held_state : (limit : ℕ) (m : Mode) (held : List ℕ) → 0 < limit → IsUnsure limit m held → walk limit (Open m) held ≡ tell [] (walk limit (Open m) held).to
held_state limit m held some o =
    let w = walk limit (Open m) held in
    let whole = walk_told limit held (Open m) some tt in
    let (none, left, modes) = told_once limit w.events [] m held (collected w.to) held (mode_of w.to) m
    whole.events (state_unsure limit w.to whole.state) (refl, refl) o in
    ap (λ (es : List Event). tell es w.to) none

-- and what is collected of them are they, in this mode
pub held_is : (limit : ℕ) (m : Mode) (held : List ℕ) → 0 < limit → IsUnsure limit m held → (collected (walk limit (Open m) held).to ≡ held) × (mode_of (walk limit (Open m) held).to ≡ m)
held_is limit m held some o =
    let w = walk limit (Open m) held in
    let whole = walk_told limit held (Open m) some tt in
    let (none, left, modes) = told_once limit w.events [] m held (collected w.to) held (mode_of w.to) m
    whole.events (state_unsure limit w.to whole.state) (refl, refl) o in
    (left, modes)

pub walk_state : (limit : ℕ) (m : Mode) (held : List ℕ) → 0 < limit → IsState limit (walk limit (Open m) held).to
walk_state limit m held some = (walk_told limit held (Open m) some tt).state

front_walk : (limit : ℕ) (m a : Mode) (bytes rest : List ℕ) (events : List Event) → 0 < limit → AreTold limit m bytes events rest a → walk limit (Open m) bytes ≡ in_turn (tell events (Open a)) (walk limit (Open a) rest)
front_walk limit m a bytes rest events some told =
    let w = walk limit (Open m) bytes in
    let r = walk limit (Open a) rest in
    let whole = walk_told limit bytes (Open m) some tt in
    let back = walk_told limit rest (Open a) some tt in
    let all = told_on limit events r.events m bytes rest (collected r.to) a (mode_of r.to) told back.events in
    let (same, left, modes) = told_once limit w.events (events ++ r.events) m bytes (collected w.to) (collected r.to) (mode_of w.to) (mode_of r.to)
    whole.events (state_unsure limit w.to whole.state) all (state_unsure limit r.to back.state) in
    let to = state_once limit w.to r.to whole.state back.state left modes in
    ap (λ (es : List Event). tell es w.to) same ∙ ap (λ (s : State). tell (events ++ r.events) s) to

pub tells_front : (limit : ℕ) (m a : Mode) (bytes rest : List ℕ) (parts : List Part) → 0 < limit → AreFirstParts limit m bytes parts rest a → TellsFront limit m bytes parts rest a
tells_front limit m a bytes rest parts some s =
    let (events, same, told) = parts_told limit parts m bytes rest a s in
    record { events = events; each = same; goes = front_walk limit m a bytes rest events some told }
