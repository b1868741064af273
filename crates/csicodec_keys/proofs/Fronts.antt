-- What csicodec_events makes of the bytes of a form, where nothing is open; and of a character that is typed.
use Rattle.std.proofs.Common.{◌≡◌, ℕ, Some, ◌+◌, ◌-◌, ◌*◌, ◌≤◌, List, [], ◌∷◌, ◌++◌, refl, sym, ap, inl, inr, arith, subst, append_assoc, eqb-true, Bool, true, false, not, ◌==◌, ◌&&◌, ◌||◌, nat_le, nat_lt, ◌≢◌, ◌/◌, ◌<◌, length, ◌∙◌, ⊎_elim, lt-ltb, le-ltb, ltb-true}
use Rattle.std.proofs.{lemmas.Bool.and_left, lemmas.Bool.and_parts, lemmas.Bool.and_right, lemmas.Bool.cases_Bool, lemmas.Bool.cases_lt, lemmas.Bool.both_ways}
use Rattle.std.proofs.{lemmas.Bool.Decides.nat_tests, lemmas.Str.encode_ascii}
use Rattle.std.specs.{Char.encode_utf8, List.AllByRecursion}
use Rattle.csicodec_tokens.specs.{declared.param.CsiParam.CsiParam, Param.spells, Sequence.Seq}
use Rattle.csicodec_tokens.proofs.Printed.{printed}
use Rattle.bstr.specs.Utf8.{Decoded, decoded, lead_len}
use Rattle.bstr.proofs.lemmas.PieceLemmas.{value-1}
use Rattle.csicodec_events.specs.Input.{ahead, alt_char, alt_of, is_modifier, csi, is_digit, is_opener, is_printable, rxvt, two_digits}
use Rattle.csicodec_events.specs.{declared.event.Event.Event, declared.event.Events.Events, Characters.is_unfinished, Events.BeginsCsi, Events.IsHeld}
use Rattle.csicodec_events.specs.{Events.IsSpan, Events.IsText, Events.IsTold, Events.Waits, declared.input.Dialect.Dialect}
use Rattle.csicodec_events.specs.{declared.input.InputEvent.InputEvent}
use Rattle.csicodec_events.proofs.{Stops.at_once, Divided.esc_behind, Divided.text_mode, Fronts.unfinished_front}
use Rattle.csicodec_keys.specs.Sent.{IsFront, fresh, IsTextFront}
use Rattle.csicodec_keys.proofs.Lists.{AreIn, Good, spellable, spelled-in}
use lib.Utf8.{next, scalar}
use Rattle.csicodec_spans.specs.{declared.table.Kind.Kind, Table.Answer, Parts.Allows, Parts.AreAll, Parts.AreFirstParts, Parts.IsUnsureBy, Parts.Part}
use Rattle.csicodec_spans.specs.{declared.table.Mode.Mode}
use Rattle.csicodec_spans.proofs.{Agrees.text_goes_on, Missed.cut_parts, Missed.span_all}

-- ---- ranges

-- behind ESC it is a key with alt, whatever follows
abbrev pub is_free : ℕ → Bool
is_free c = not (c == 79) && (not (c == 91) && (not (is_opener c) && not (c == 27 || nat_le 128 c)))

-- a final character that begins no other form behind `CSI`
abbrev pub is_end : ℕ → Bool
is_end c = nat_le 64 c && (nat_le c 126 && (not (c == 91) && (not (c == 77) && not (c == 73))))

-- behind SS3 it is a key, whatever follows
abbrev pub is_ss3 : ℕ → Bool
is_ss3 c = is_printable c && (not (is_modifier c) && not (c == 49))

-- digits of a number that rxvt has before `$`
abbrev pub is_shift : List ℕ → ℕ → Bool
is_shift [] n = false
is_shift (a ∷ []) n = is_digit a && (a - 48 == n)
is_shift (a ∷ b ∷ []) n = is_digit a && (is_digit b && (10 * (a - 48) + (b - 48) == n))
is_shift (a ∷ b ∷ c ∷ bytes) n = false

-- ---- one character

-- a character of ASCII is one byte
ascii : (c : ℕ) (more : List ℕ) → nat_lt c 128 ≡ true → alt_char (lead_len c) (c ∷ more) ≡ alt_of 1 (Some c)
ascii c more h =
    let long : nat_lt (length (c ∷ more)) 1 ≡ false = grind (arith, nat_tests) in
    let lead : lead_len c ≡ 1 = rw h refl in
    let read : (decoded (c ∷ [])).char ≡ Some c = ap (λ (d : Decoded). d.char) (value-1 1 c 0 0 0 (omega arith, ltb-true c 128 h)) in
    rw (lead, long) (ap (alt_of 1) read)

pub alt-front : (c : ℕ) → is_free c ≡ true → IsFront (27 ∷ encode_utf8 c) (InputEvent.Alt c) []
alt-front c h limit more fits =
    let ss3 : (c == 79) ≡ false = grind arith in
    let csi : (c == 91) ≡ false = grind arith in
    let string : is_opener c ≡ false = grind arith in
    let esc : (c == 27) ≡ false = grind arith in
    rw (encode_ascii c (grind arith), ss3, csi, string, esc, ascii c more (grind arith)) (refl, refl, refl, refl)

pub ss3-front : (c : ℕ) → is_ss3 c ≡ true → IsFront (27 ∷ 79 ∷ encode_utf8 c) (InputEvent.Ss3 c) []
ss3-front c h limit more fits =
    let modifier : is_modifier c ≡ false = grind arith in
    let one : (c == 49) ≡ false = grind arith in
    let printable : is_printable c ≡ true = grind arith in
    rw (encode_ascii c (grind arith), modifier, one, printable) (refl, refl, refl, refl)

pub linux-front : (c : ℕ) → is_printable c ≡ true → IsFront (27 ∷ 91 ∷ 91 ∷ encode_utf8 c) (InputEvent.Linux c) []
linux-front c h limit more fits = rw (encode_ascii c (grind arith), h) (refl, refl, refl, refl)

-- ---- rxvt's keys with shift

record Plain (b : ℕ) : Type 0 where
  bracket : (b == 91) ≡ false
  dl : (b == 77) ≡ false
  focus : (b == 73) ≡ false
  dollar : (b == 36) ≡ false

inner : (b : ℕ) → 48 ≤ b → b ≤ 59 → Plain b
inner b low high = record { bracket = grind arith; dl = grind arith; focus = grind arith; dollar = grind arith }

digit : (b : ℕ) → is_digit b ≡ true → Plain b
digit b h = inner b (grind arith) (grind arith)

pub shift-front : (bytes : List ℕ) (n : ℕ) → is_shift bytes n ≡ true → IsFront (27 ∷ 91 ∷ (bytes ++ 36 ∷ [])) (InputEvent.Rxvt n) []
shift-front [] n h limit more fits = cc
shift-front (a ∷ []) n h limit more fits =
    let p = and_parts (is_digit a) (a - 48 == n) h in
    let d = digit a p.0 in
    rw (d.bracket, d.dl, d.focus, p.0) (ap InputEvent.Rxvt (sym (eqb-true (a - 48) n p.1)), refl, refl, refl)
shift-front (a ∷ b ∷ []) n h limit more fits =
    let p = and_parts (is_digit a) (is_digit b && (10 * (a - 48) + (b - 48) == n)) h in
    let q = and_parts (is_digit b) (10 * (a - 48) + (b - 48) == n) p.1 in
    let d = digit a p.0 in
    rw (d.bracket, d.dl, d.focus, p.0, (digit b q.0).dollar, q.0) (ap InputEvent.Rxvt (sym (eqb-true (10 * (a - 48) + (b - 48)) n q.1)), refl, refl, refl)
shift-front (a ∷ b ∷ c ∷ bytes) n h limit more fits = cc

-- ---- control sequences

end : (c : ℕ) → is_end c ≡ true → Plain c × (is_digit c ≡ false)
end c h = (record { bracket = grind arith; dl = grind arith; focus = grind arith; dollar = grind arith }, grind arith)

-- what stands behind `CSI` is a control sequence, as output has it
abbrev as_output : List ℕ → Type 0
as_output bytes = csi Dialect.Input bytes ≡ ahead Dialect.Output Mode.Text 0 []

two-front : (a b c : ℕ) (bytes : List ℕ) → (c == 36) ≡ false → two_digits a b (c ∷ bytes) ≡ ahead Dialect.Output Mode.Text 0 []
two-front a b c bytes h = rw (and_right (is_digit b) (c == 36) h) refl

last-front : (a b : ℕ) (more : List ℕ) → is_digit b ≡ false → two_digits a b more ≡ ahead Dialect.Output Mode.Text 0 []
last-front a b [] h = rw h refl
last-front a b (c ∷ more) h = rw (and_left (is_digit b) (c == 36) h) refl

rxvt-front : (a : ℕ) (bytes : List ℕ) (c : ℕ) (more : List ℕ) → AreIn bytes → is_end c ≡ true → rxvt a (bytes ++ c ∷ more) ≡ ahead Dialect.Output Mode.Text 0 []
rxvt-front a [] c more h e = let f = end c e in rw (f.0.dollar, last-front a c more f.1) refl
rxvt-front a (b ∷ []) c more h e = rw ((inner b h.0.0 h.0.1).dollar, two-front a b c more (end c e).0.dollar) refl
rxvt-front a (b ∷ x ∷ bytes) c more h e =
    rw ((inner b h.0.0 h.0.1).dollar, two-front a b x (bytes ++ c ∷ more) (inner x h.1.0.0 h.1.0.1).dollar) refl

csi-front : (bytes : List ℕ) (c : ℕ) (more : List ℕ) → AreIn bytes → is_end c ≡ true → as_output (bytes ++ c ∷ more)
csi-front [] c more h e = let f = end c e in rw (f.0.bracket, f.0.dl, f.0.focus, f.1) refl
csi-front (b ∷ bytes) c more h e =
    let d = inner b h.0.0 h.0.1 in
    elim (cases_Bool (is_digit b)) [
      | inl some ↦ rw (d.bracket, d.dl, d.focus, some, rxvt-front b bytes c more h.1 e) refl
      | inr none ↦ rw (d.bracket, d.dl, d.focus, none) refl
    ]

pub list-front : (list : List CsiParam) (c : ℕ) → Good true list → is_end c ≡ true → IsFront (27 ∷ 91 ∷ (spells list ++ encode_utf8 c)) (InputEvent.Output (Event.Csi c)) list
list-front list c g h = subst (λ (t : List ℕ). IsFront (27 ∷ 91 ∷ (spells list ++ t)) (InputEvent.Output (Event.Csi c)) list) (sym (encode_ascii c (grind arith))) by
  where
    by : IsFront (27 ∷ 91 ∷ (spells list ++ c ∷ [])) (InputEvent.Output (Event.Csi c)) list
    by limit more fits =
        let can = spellable true list g in
        let spelled = printed list can in
        let text : List ℕ = 27 ∷ 91 ∷ (spells list ++ c ∷ []) in
        let seq : Seq text list c = record { spellable = can; ends = (grind arith, grind arith); body = spells list; spelled = spelled; whole = refl } in
        let split = append_assoc (spells list) (c ∷ []) more in
        rw (split, csi-front (spells list) c more (spelled-in true list (spells list) g spelled) h)
        (Event.Csi c, refl, ((spells list ++ c ∷ more, refl), at_once (fresh limit) (27 ∷ 91 ∷ (spells list ++ c ∷ more)) text more list c refl seq (ap (λ (t : List ℕ). 27 ∷ 91 ∷ t) (sym split)) fits))

-- ---- A character that is typed is told as text that begins with it.

-- ---- the bytes of a character

-- a byte behind the first
abbrev IsNext : ℕ → Type 0
IsNext b = (128 ≤ b) × (b < 192)

-- the first byte isn't ESC, others follow, and it is no beginning of a longer one
abbrev IsCharacter : List ℕ → Type 0
IsCharacter [] = ⊥
IsCharacter (a ∷ later) = (a ≢ 27) × AllByRecursion IsNext later × (is_unfinished (a ∷ later) ≡ false)

is-next : (c : ℕ) → IsNext (next c)
is-next c = (omega arith, omega arith)

one : (a : ℕ) → a < 128 → is_unfinished (a ∷ []) ≡ false
one a h = grind arith

two : (a b : ℕ) → a < 224 → is_unfinished (a ∷ b ∷ []) ≡ false
two a b h = grind arith

three : (a b c : ℕ) → a < 240 → is_unfinished (a ∷ b ∷ c ∷ []) ≡ false
three a b c h = grind arith

character : (c : ℕ) → scalar c ≡ true → c ≢ 27 → IsCharacter (encode_utf8 c)
unfolding encode_utf8
character c is other = ⊎_elim
    (λ (a : c < 128). rw (lt-ltb c 128 a) (other, tt, one c a))
    (λ (a : 128 ≤ c). ⊎_elim
    (λ (b : c < 2048). rw (le-ltb c 128 a, lt-ltb c 2048 b) ((λ e. omega (arith, e)), (is-next c, tt), two (192 + c / 64) (next c) (omega arith)))
    (λ (b : 2048 ≤ c). ⊎_elim
    (λ (d : c < 65536). rw (le-ltb c 128 a, le-ltb c 2048 b, lt-ltb c 65536 d)
    ((λ e. omega (arith, e)), (is-next (c / 64), (is-next c, tt)), three (224 + c / 4096) (next (c / 64)) (next c) (omega arith)))
    (λ (d : 65536 ≤ c). rw (le-ltb c 128 a, le-ltb c 2048 b, le-ltb c 65536 d) ((λ e. omega (arith, e)), (is-next (c / 4096), (is-next (c / 64), (is-next c, tt))), refl))
    (cases_lt c 65536))
    (cases_lt c 2048))
    (cases_lt c 128)

-- ---- text that goes on over such a byte

abbrev Stops : List ℕ → Type 0
Stops behind = (x : ℕ) (xs : List ℕ) → IsNext x → behind ≡ x ∷ xs → ⊥

inside : (x : ℕ) (xs text held behind : List ℕ) → IsNext x → held ++ behind ≡ x ∷ xs → IsHeld text held behind → Stops behind → ⊥
inside x xs text [] behind n e h stops = stops x xs n e
inside x xs text (y ∷ held) [] n e (inl h) stops =
    let same : y ≡ x = cc in
    let one = unfinished_front (y ∷ []) held (omega arith) h in
    let first : 194 ≤ y = grind arith in
    omega (arith, same, first, n.1)
inside x xs text (y ∷ held) [] n e (inr h) stops = let none = h.0 in absurd cc
inside x xs text (y ∷ held) (b ∷ behind) n e h stops = absurd cc

abbrev Begins : List ℕ → List ℕ → Type 0
Begins bytes text = (others : List ℕ) × (text ≡ bytes ++ others)

-- of the whole text what stands behind its first bytes
further : (later more whole text held behind : List ℕ) → AllByRecursion IsNext later → text ++ (held ++ behind) ≡ later ++ more → IsHeld whole held behind → Stops behind
    → Begins later text
further [] more whole text held behind n e h stops = (text, refl)
further (b ∷ later) more whole [] held behind n e h stops = absurd (inside b (later ++ more) whole held behind n.0 e h stops)
further (b ∷ later) more whole (t ∷ text) held behind n e h stops =
    let first : t ≡ b = cc in
    let rest : text ++ (held ++ behind) ≡ later ++ more = cc in
    let (others, is) = further later more whole text held behind n.1 rest h stops in
    (others, ap (λ (x : ℕ). x ∷ text) first ∙ ap (λ (x : List ℕ). b ∷ x) is)

begins : (a : ℕ) (later more text held behind : List ℕ) → AllByRecursion IsNext later → 0 < length text → text ++ (held ++ behind) ≡ a ∷ (later ++ more) → IsHeld text held behind
    → Stops behind → Begins (a ∷ later) text
begins a later more [] held behind n some e h stops = absurd (omega (arith, some))
begins a later more (t ∷ text) held behind n some e h stops =
    let first : t ≡ a = cc in
    let rest : text ++ (held ++ behind) ≡ later ++ more = cc in
    let (others, is) = further later more (t ∷ text) text held behind n rest h stops in
    (others, ap (λ (x : ℕ). x ∷ text) first ∙ ap (λ (x : List ℕ). a ∷ x) is)

-- ---- spans where nothing is open

span-text : (limit b : ℕ) (bytes text rest : List ℕ) (k : Kind) (after : Events) → b ≢ 27 → IsSpan limit Mode.Text k (b ∷ bytes) text rest after → k ≡ Kind.Text
span-text limit b bytes text rest k after other t = by t.cuts.parts (span_all k text t.cuts.parts t.cuts.span) t.cuts.first
  where
    by : (ps : List Part) → AreAll k text ps → AreFirstParts limit Mode.Text (b ∷ bytes) ps rest t.next → k ≡ Kind.Text
    by [] s f = absurd (omega (arith, s.some))
    by (p ∷ ps) s f = sym s.all.0 ∙ (subst (λ (x : Answer). Allows x limit (b ∷ bytes) p.kind p.bytes f.1) (text_goes_on b bytes other) f.2.1).0

-- ---- what is told

-- where text stands in front, with all that it needs
text-told : (limit a : ℕ) (later more text rest : List ℕ) (after : Events) → IsCharacter (a ∷ later) → IsText limit Mode.Text (a ∷ (later ++ more)) text rest after → Begins (a ∷ later) text
text-told limit a later more text rest after c t =
    let cuts = t.span.cuts in
    let parts = cut_parts limit Mode.Text (a ∷ (later ++ more)) Kind.Text (text ++ t.held) t.behind t.span.next cuts in
    let here : t.span.next ≡ Mode.Text = text_mode limit cuts.parts Mode.Text t.span.next (a ∷ (later ++ more)) t.behind cuts.span.all cuts.first (inl refl) in
    let stops : Stops t.behind = λ x xs n e. let esc = esc_behind t.span.next t.behind xs x here t.span.maximal e in omega (arith, esc, n.0) in
    begins a later more text t.held t.behind c.1 t.some (sym (append_assoc text t.held t.behind) ∙ sym parts) t.holds stops

no-begin : (a : ℕ) (bytes : List ℕ) → a ≢ 27 → BeginsCsi (a ∷ bytes) → ⊥
no-begin a bytes other (more, e) = let same : a ≡ 27 = cc in other same

output-told : (limit a : ℕ) (later more text rest : List ℕ) (list : List CsiParam) (after : Events) (x : Event) → IsCharacter (a ∷ later)
    → IsTold x (fresh limit) (a ∷ (later ++ more)) text rest list after → (x ≡ Event.Text) × Begins (a ∷ later) text
output-told limit a later more text rest list after Event.Text c t = (refl, text-told limit a later more text rest after c t)
output-told limit a later more text rest list after (Event.Control b) c t = absurd (no-begin a (later ++ more) c.0 t.0)
output-told limit a later more text rest list after (Event.Csi final) c t = absurd (no-begin a (later ++ more) c.0 t.0)
output-told limit a later more text rest list after Event.Esc c t = let is = span-text limit a (later ++ more) text rest Kind.Esc after c.0 t in absurd cc
output-told limit a later more text rest list after Event.Str c t = let is = span-text limit a (later ++ more) text rest Kind.Str after c.0 t in absurd cc
output-told limit a later more text rest list after Event.Other c (inl t) = let is = span-text limit a (later ++ more) text rest Kind.Other after c.0 t.1 in absurd cc
output-told limit a later more text rest list after Event.Other c (inr t) = absurd (no-begin a (later ++ more) c.0 t.0)

never-waits : (limit a : ℕ) (later more : List ℕ) (after : Events) → IsCharacter (a ∷ later) → Waits (fresh limit) (a ∷ (later ++ more)) after → ⊥
never-waits limit a later more after c (inl w) = no-begin a (later ++ more) c.0 w.0
never-waits limit a later more after c (inr (other, on, inl w)) = let none = unfinished_front (a ∷ later) more (omega arith) w.0 in both_ways (is_unfinished (a ∷ later)) c.2 none
never-waits limit a later more after c (inr (other, on, inr w)) =
    subst (λ (f : Answer). IsUnsureBy f limit (a ∷ (later ++ more))) (text_goes_on a (later ++ more) c.0) w

differs : (a : ℕ) → a ≢ 27 → (a == 27) ≡ false
differs a other = grind arith

typed : (bytes : List ℕ) → IsCharacter bytes → IsTextFront bytes
typed [] c = absurd c
typed (a ∷ later) c = record {
  told = λ limit more text rest e list after s.
      let none : (a == 27) ≡ false = differs a c.0 in
      let (x, is, told) = rw none at s in
      let h = output-told limit a later more text rest list after x c told in
      (is ∙ ap InputEvent.Output h.0, h.1);
  at_once = λ limit more after w.
      let none : (a == 27) ≡ false = differs a c.0 in
      never-waits limit a later more after c (rw none at w);
}

pub text-front : (c : ℕ) → scalar c ≡ true → c ≢ 27 → IsTextFront (encode_utf8 c)
text-front c is other = typed (encode_utf8 c) (character c is other)
