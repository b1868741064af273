-- Events one after the other: the bytes joined, what stays whatever follows, a sequence that waited, and what was looked at of one.
use Rattle.std.proofs.Common.{◌≡◌, ℕ, ◌+◌, ◌<◌, false, max, List, ◌∷◌, ◌++◌, length, take, drop, refl, ap, ◌∙◌, arith, length-drop, ◌==◌, ◌⊎◌, ◌≤◌, [], sym, subst, inl, inr, append_assoc, append-nil, eq-eqb, length-take, take-append-drop, flat_map, zero, suc, Bool, true, filter, length-append, ◌||◌}
use Rattle.std.proofs.{lemmas.List.Folds.prefix_len-append, lemmas.Bool.Decides.nat_tests, lemmas.List.take-append-le, lemmas.List.drop-append-le}
use Rattle.std.proofs.{lemmas.List.nil_from_length, Math.Seq.drop-append_seam, Math.Seq.take-add, lemmas.Grind.flat_map-append}
use Rattle.std.proofs.{lemmas.List.Sums.prefix_len-le-length, lemmas.Bool.false_from_ne_true, lemmas.Bool.cases_Bool, lemmas.Bool.cases_lt, lemmas.Bool.or_left}
use Rattle.std.proofs.{lemmas.Bool.or_right}
use Rattle.std.specs.List.{prefix_len, concat, AllByRecursion}
use Rattle.csicodec_tokens.specs.{declared.param.CsiParam.CsiParam, Sequence.IsFinal, Sequence.Seq}
use Rattle.csicodec_events.specs.Events.{BeginsCsi, IsTold, before_stop, from_stop, is_passed, stop, AreTold, GoesWrong, InChunks, IsMet, IsSpan, IsText, Tells, Waits, bytes_of, onward, IsControl, IsCsi, is_control, is_read, without_controls}
use Rattle.csicodec_events.specs.{declared.event.Events.Events, declared.event.Event.Event, declared.event.Told.Told}
use Rattle.csicodec_spans.specs.{declared.table.Kind.Kind, declared.table.Mode.Mode}
use Rattle.csicodec_spans.proofs.Missed.{cut_parts}
use Rattle.csicodec_events.proofs.Stops.{csi_parts, next_place}

-- where a byte isn't passed over, no more are
stopped : (bytes more : List ℕ) → prefix_len is_passed bytes < length bytes
    → prefix_len is_passed (bytes ++ more) ≡ prefix_len is_passed bytes
stopped bytes more lt =
    let some : prefix_len is_passed bytes == length bytes ≡ false = grind (arith, nat_tests) in
    prefix_len-append is_passed bytes more ∙ rw some refl

pub record SameStop (e : Events) (bytes more : List ℕ) : Type 0 where
  pub over : before_stop e (bytes ++ more) ≡ before_stop e bytes
  pub behind : from_stop e (bytes ++ more) ≡ from_stop e bytes ++ more

pub same_stop : (e : Events) (bytes more rest : List ℕ) (b : ℕ) → from_stop e bytes ≡ b ∷ rest
    → SameStop e bytes more
same_stop e bytes more rest b stands =
    let start = max 2 e.looked in
    let d = drop start bytes in
    let n = stop e.looked bytes in
    let some = ap length stands in
    let cut = length-drop n bytes in
    let left = length-drop start bytes in
    let low : n < length bytes = omega (arith, some, cut) in
    let longer : prefix_len is_passed (drop start (bytes ++ more)) ≡ prefix_len is_passed d =
    ap (prefix_len is_passed) (drop-append-le start bytes more (omega (arith, low)))
    ∙ stopped d more (omega (arith, low, left)) in
    let same : stop e.looked (bytes ++ more) ≡ n = ap (λ (k : ℕ). start + k) longer in
    record {
      over = ap (λ (k : ℕ). take k (bytes ++ more)) same ∙ take-append-le n bytes more (omega (arith, low));
      behind = ap (λ (k : ℕ). drop k (bytes ++ more)) same ∙ drop-append-le n bytes more (omega (arith, low));
    }

pub begins_more : (bytes more : List ℕ) → BeginsCsi bytes → BeginsCsi (bytes ++ more)
begins_more bytes more b = (b.0 ++ more, ap (λ (x : List ℕ). x ++ more) b.1)

pub control_more : (e after : Events) (bytes text rest more : List ℕ) (list : List CsiParam) (b : ℕ)
    → IsTold (Event.Control b) e bytes text rest list after
    → IsTold (Event.Control b) e (bytes ++ more) text (rest ++ more) list after
control_more e after bytes text rest more list b t =
    let c = t.1 in
    let s = same_stop e bytes more c.more b c.stands in (
      begins_more bytes more t.0,
      record {
        more = c.more ++ more;
        stands = s.behind ∙ ap (λ (x : List ℕ). x ++ more) c.stands;
        control = c.control;
        short = rw s.over c.short;
        none = c.none;
        stays = ap (λ (x : List ℕ). x ++ more) c.stays;
        looked = rw s.over c.looked;
      },
    )

pub csi_more : (e after : Events) (bytes text rest more : List ℕ) (list : List CsiParam) (final : ℕ)
    → IsTold (Event.Csi final) e bytes text rest list after
    → IsTold (Event.Csi final) e (bytes ++ more) text (rest ++ more) list after
csi_more e after bytes text rest more list final t =
    let c = t.1 in
    let s = same_stop e bytes more rest c.last c.stands in (
      begins_more bytes more t.0,
      record {
        last = c.last;
        stands = s.behind ∙ ap (λ (x : List ℕ). x ++ more) c.stands;
        whole = rw s.over c.whole;
        short = rw s.over c.short;
        seq = c.seq;
        closed = c.closed;
      },
    )

-- ---- What follows of events one after the other.

-- ---- the bytes joined

span_parts : (e : Events) (k : Kind) (bytes text rest : List ℕ) (after : Events)
    → IsSpan e.limit e.mode k bytes text rest after → bytes ≡ text ++ rest
span_parts e k bytes text rest after s = cut_parts e.limit e.mode bytes k text rest s.next s.cuts

text_parts : (e : Events) (bytes text rest : List ℕ) (after : Events)
    → IsText e.limit e.mode bytes text rest after → bytes ≡ text ++ rest
text_parts e bytes text rest after t =
    cut_parts e.limit e.mode bytes _ (text ++ t.held) t.behind t.span.next t.span.cuts ∙ append_assoc text t.held t.behind ∙ ap (λ (x : List ℕ). text ++ x) (sym t.goes_on)

goes_parts : (over behind text rest : List ℕ) (m : Mode) → GoesWrong over behind text rest m
    → over ++ behind ≡ text ++ rest
goes_parts over [] text rest m g = rw (g.0, g.1) refl
goes_parts over (b ∷ more) text rest m (inl g) = sym (append_assoc over (b ∷ []) more) ∙ rw (g.1, g.2) refl
goes_parts over (b ∷ more) text rest m (inr g) = rw (g.1, g.2) refl

pub parts_of : (x : Event) (e : Events) (bytes text rest : List ℕ) (list : List CsiParam)
    (after : Events) → IsTold x e bytes text rest list after → bytes ≡ text ++ rest
parts_of Event.Text e bytes text rest list after h = text_parts e bytes text rest after h
parts_of (Event.Control b) e bytes text rest list after h = sym h.1.stays ∙ ap (λ (x : List ℕ). x ++ rest) (sym h.1.none)
parts_of (Event.Csi final) e bytes text rest list after h = csi_parts e bytes list final text rest after h.1
parts_of Event.Esc e bytes text rest list after h = span_parts e _ bytes text rest after h
parts_of Event.Str e bytes text rest list after h = span_parts e _ bytes text rest after h
parts_of Event.Other e bytes text rest list after (inl h) = span_parts e _ bytes text rest after h.1
parts_of Event.Other e bytes text rest list after (inr h) = sym (take-append-drop (stop e.looked bytes) bytes) ∙ goes_parts (before_stop e bytes) (from_stop e bytes) text rest h.1.next h.1.goes

told_joined : (told : List Told) (e : Events) (bytes rest : List ℕ) (after : Events)
    → AreTold e bytes told rest after → bytes ≡ flat_map bytes_of told ++ rest
told_joined [] e bytes rest after s = sym s.0
told_joined (t ∷ told) e bytes rest after s =
    parts_of t.event e bytes t.bytes.now t.rest.now s.0 s.1 s.2 ∙ ap (λ (x : List ℕ). t.bytes.now ++ x) (told_joined told s.1 t.rest.now rest after s.3)
    ∙ sym (append_assoc t.bytes.now (flat_map bytes_of told) rest)

-- the bytes of a chunk, with those that were held, and then the other chunks
pub joined_on : (held chunk chunks front back kept rest : List ℕ) → held ++ chunk ≡ front ++ kept
    → kept ++ chunks ≡ back ++ rest → held ++ (chunk ++ chunks) ≡ (front ++ back) ++ rest
joined_on held chunk chunks front back kept rest here there =
    sym (append_assoc held chunk chunks) ∙ ap (λ (x : List ℕ). x ++ chunks) here
    ∙ append_assoc front kept chunks ∙ ap (λ (x : List ℕ). front ++ x) there ∙ sym (append_assoc front back rest)

pub chunks_joined : (e after : Events) (held rest : List ℕ) (chunks : List (List ℕ))
    (told : List Told) → InChunks e held chunks told rest after
    → held ++ concat chunks ≡ flat_map bytes_of told ++ rest
chunks_joined e after held rest [] told c = rw (c.0, c.1) (append-nil held)
chunks_joined e after held rest (chunk ∷ chunks) told c =
    let (now, later, kept, mid, waiting, whole, first, waits, others) = c in
    let here = told_joined now e (held ++ chunk) kept mid first in
    let there = chunks_joined waiting after kept rest chunks later others in
    joined_on held chunk (concat chunks) (flat_map bytes_of now) (flat_map bytes_of later) kept rest here there
    ∙ ap (λ (x : List ℕ). x ++ rest) (sym (ap (flat_map bytes_of) whole ∙ flat_map-append bytes_of now later))

-- ---- a sequence that waited

-- where a sequence waited it stops where it would have stopped
pub stop_on : (looked : ℕ) (bytes more : List ℕ) → looked ≤ length bytes → 2 ≤ length bytes
    → drop (stop looked bytes) bytes ≡ []
    → stop (length (take (stop looked bytes) bytes)) (bytes ++ more) ≡ stop looked (bytes ++ more)
stop_on looked bytes more le two none =
    let start = max 2 looked in
    let d = drop start bytes in
    let left = length-drop start bytes in
    let most = prefix_len-le-length is_passed d in
    let end = ap length none in
    let cut = length-drop (stop looked bytes) bytes in
    let full : prefix_len is_passed d ≡ length d = omega (arith, left, most, end, cut, le, two) in
    let there : prefix_len is_passed (drop start (bytes ++ more)) ≡ length d + prefix_len is_passed
    more = ap (prefix_len is_passed) (drop-append-le start bytes more (omega (arith, le, two)))
    ∙ prefix_len-append is_passed d more ∙ rw full (rw (eq-eqb (length d) (length d) refl) refl) in
    let len : length (take (stop looked bytes) bytes) ≡ length bytes = omega (arith, length-take (stop looked bytes) bytes, full, left, le, two) in
    let big : max 2 (length bytes) ≡ length bytes = omega (arith, two) in
    let here : prefix_len is_passed (drop (max 2 (length bytes)) (bytes ++ more)) ≡ prefix_len
    is_passed more = ap (λ (k : ℕ). prefix_len is_passed (drop k (bytes ++ more))) big
    ∙ ap (prefix_len is_passed) (drop-append_seam bytes more) in
    ap (λ (k : ℕ). stop k (bytes ++ more)) len ∙ omega (arith, here, there, big, full, left, le, two)

-- the same with no more looked at, where it stops at the same place
told_back : (x : Event) (e : Events) (n : ℕ) (bytes text rest : List ℕ) (list : List CsiParam)
    (after : Events) → stop n bytes ≡ stop e.looked bytes
    → IsTold x (onward e e.mode n) bytes text rest list after
    → IsTold x e bytes text rest list after
told_back (Event.Control b) e n bytes text rest list after same t = rw (← same) t
told_back (Event.Csi final) e n bytes text rest list after same t = rw (← same) t
told_back Event.Other e n bytes text rest list after same t = rw (← same) t
told_back _ e n bytes text rest list after same t = t

waits_back : (e : Events) (n : ℕ) (bytes : List ℕ) (after : Events) → stop n bytes ≡ stop e.looked bytes
    → BeginsCsi bytes → Waits (onward e e.mode n) bytes after → Waits e bytes after
waits_back e n bytes after same begins (inl w) = rw (← same) (inl w)
waits_back e n bytes after same begins (inr w) = absurd (w.0 begins)

pub met_within : (e : Events) (bytes : List ℕ) → IsMet e bytes → e.looked ≤ length bytes
met_within e bytes (inl none) = omega (arith, none)
met_within e bytes (inr m) = m.1

-- the stream is the same, or of a sequence in front more was looked at, which stops at the same place
abbrev pub GoesOn : Events → Events → List ℕ → Type 0
GoesOn e waiting bytes = (waiting ≡ e)
    ⊎ (BeginsCsi bytes × (n : ℕ) × (waiting ≡ onward e e.mode n) × (stop n bytes ≡ stop e.looked bytes))

pub waits_on : (e waiting : Events) (bytes more : List ℕ) → IsMet e bytes → Waits e bytes waiting
    → GoesOn e waiting (bytes ++ more)
waits_on e waiting bytes more met (inl w) =
    let o = w.1 in
    let same = stop_on e.looked bytes more (met_within e bytes met) (omega (arith, ap length w.0.1)) o.ends in
    inr (begins_more bytes more w.0, length (before_stop e bytes), o.looked, same)
waits_on e waiting bytes more met (inr w) = inl w.1

-- what is told then, and what waits, is told and waits as if it hadn't waited
pub told_same : (e waiting after : Events) (bytes : List ℕ) (t : Told) (list : List CsiParam)
    → GoesOn e waiting bytes → Tells waiting bytes t list after → Tells e bytes t list after
told_same e waiting after bytes t list (inl same) h = subst (λ (x : Events). Tells x bytes t list after) same h
told_same e waiting after bytes t list (inr (begins, n, same, stops)) h =
    told_back t.event e n bytes t.bytes.now t.rest.now list after stops (subst (λ (x : Events). Tells x bytes t list after) same h)

pub waits_same : (e waiting after : Events) (bytes : List ℕ) → GoesOn e waiting bytes
    → Waits waiting bytes after → Waits e bytes after
waits_same e waiting after bytes (inl same) w = subst (λ (x : Events). Waits x bytes after) same w
waits_same e waiting after bytes (inr (begins, n, same, stops)) w =
    waits_back e n bytes after stops begins (subst (λ (x : Events). Waits x bytes after) same w)

pub told_at_once : (e waiting after : Events) (bytes more : List ℕ) (told : Told)
    (list : List CsiParam) → IsMet e bytes → BeginsCsi bytes → Waits e bytes waiting
    → Tells waiting (bytes ++ more) told list after → Tells e (bytes ++ more) told list after
told_at_once e waiting after bytes more told list met begins w t = told_same e waiting after (bytes ++ more) told list (waits_on e waiting bytes more met w) t

-- ---- What was looked at of a control sequence: bytes that are passed over, and controls.

-- a byte that a sequence goes on over
abbrev pub is_inside : ℕ → Bool
is_inside b = is_passed b || is_control b

abbrev pub AreInside : List ℕ → Type 0
AreInside bytes = AllByRecursion (λ (b : ℕ). is_inside b ≡ true) bytes

abbrev pub IsLooked : Events → List ℕ → Type 0
IsLooked e bytes = (e.looked ≡ 0)
    ⊎ (BeginsCsi bytes × (e.looked ≤ length bytes) × AreInside (drop 2 (take e.looked bytes)))

pub looked_met : (e : Events) (bytes : List ℕ) → IsLooked e bytes → IsMet e bytes
looked_met e bytes (inl none) = inl none
looked_met e bytes (inr l) = inr (l.0, l.1)

pub looked_more : (e : Events) (bytes more : List ℕ) → IsLooked e bytes → IsLooked e (bytes ++ more)
looked_more e bytes more (inl none) = inl none
looked_more e bytes more (inr l) =
    let le = l.1 in
    inr (begins_more bytes more l.0, omega (arith, le, length-append bytes more), rw (take-append-le e.looked bytes more le) l.2)

-- ---- what stands before the place where it stops

both_inside : (a b : List ℕ) → AreInside a → AreInside b → AreInside (a ++ b)
both_inside [] b h k = k
both_inside (c ∷ a) b h k = (h.0, both_inside a b h.1 k)

passed_inside : (d : List ℕ) → AreInside (take (prefix_len is_passed d) d)
passed_inside [] = tt
passed_inside (b ∷ d) = elim (cases_Bool (is_passed b)) [
  | inl e ↦
      let more : suc (prefix_len is_passed d) ≡ 1 + prefix_len is_passed d = omega arith in
      rw e (subst (λ (k : ℕ). AreInside (take k (b ∷ d))) more (or_left (is_passed b) (is_control b) e, passed_inside d))
  | inr e ↦ rw e tt
]

none_inside : (bytes : List ℕ) (n : ℕ) → n ≤ 2 → AreInside (drop 2 (take n bytes))
none_inside bytes n le =
    let none : drop 2 (take n bytes) ≡ [] = nil_from_length (drop 2 (take n bytes)) (omega (arith, le, length-drop 2 (take n bytes), length-take n bytes)) in
    rw none tt

start_inside : (e : Events) (bytes : List ℕ) → IsLooked e bytes
    → AreInside (drop 2 (take (max 2 e.looked) bytes))
start_inside e bytes (inl none) = none_inside bytes (max 2 e.looked) (omega (arith, none))
start_inside e bytes (inr l) = elim (cases_lt 2 e.looked) [
  | inl lt ↦ let same : max 2 e.looked ≡ e.looked = omega (arith, lt) in subst (λ (k : ℕ). AreInside (drop 2 (take k bytes))) (sym same) l.2
  | inr le ↦ none_inside bytes (max 2 e.looked) (omega (arith, le))
]

pub over_inside : (e : Events) (bytes : List ℕ) → BeginsCsi bytes → IsLooked e bytes
    → AreInside (drop 2 (before_stop e bytes))
over_inside e bytes begins l =
    let start = max 2 e.looked in
    let d = drop start bytes in
    let n = prefix_len is_passed d in
    let two : 2 ≤ length (take start bytes) = omega (arith, length-take start bytes, ap length begins.1) in
    let parts : drop 2 (before_stop e bytes) ≡ drop 2 (take start bytes) ++ take n d = ap (drop 2) (take-add start n bytes) ∙ drop-append-le 2 (take start bytes) (take n d) two in
    rw parts (both_inside (drop 2 (take start bytes)) (take n d) (start_inside e bytes l) (passed_inside d))

shape : (n : ℕ) (more : List ℕ) → 2 ≤ n
    → take n (27 ∷ 91 ∷ more) ≡ 27 ∷ 91 ∷ drop 2 (take n (27 ∷ 91 ∷ more))
shape zero more le = absurd (omega arith)
shape (suc zero) more le = absurd (omega arith)
shape (suc (suc n)) more le = refl

pub over_shape : (e : Events) (bytes : List ℕ) → BeginsCsi bytes
    → before_stop e bytes ≡ 27 ∷ 91 ∷ drop 2 (before_stop e bytes)
over_shape e bytes begins =
    let n = stop e.looked bytes in
    subst (λ (x : List ℕ). take n x ≡ 27 ∷ 91 ∷ drop 2 (take n x)) (sym begins.1) (shape n begins.0 (omega arith))

-- ---- behind a control

pub looked_control : (e after : Events) (bytes rest : List ℕ) (b : ℕ) → BeginsCsi bytes
    → IsLooked e bytes → IsControl e.limit e.mode (before_stop e bytes) (from_stop e bytes) b bytes [] rest after
    → IsLooked after rest
looked_control e after bytes rest b begins l c =
    let at = stop e.looked bytes in
    let over = before_stop e bytes in
    let p = next_place e bytes b c.more c.stands in
    let looked : after.looked ≡ at + 1 = ap (λ (a : Events). a.looked) c.looked ∙ ap (λ (k : ℕ). k + 1) p.len in
    let front : take after.looked bytes ≡ over ++ b ∷ [] = ap (λ (k : ℕ). take k bytes) looked ∙ p.front in
    let two : 2 ≤ length over = omega (arith, p.len) in
    let inside : AreInside (drop 2 (take after.looked bytes)) = rw (front, drop-append-le 2 over (b ∷ []) two)
    (both_inside (drop 2 over) (b ∷ []) (over_inside e bytes begins l) (or_right (is_passed b) (is_control b) c.control, tt)) in
    let within : after.looked ≤ length bytes = omega (arith, looked, p.len, ap length c.stands, length-drop at bytes) in
    inr (rw c.stays (begins, within, inside))

-- ---- no sequence ends with a control

filter_inside : (xs : List ℕ) → AreInside xs → AreInside (filter is_read xs)
filter_inside [] h = tt
filter_inside (b ∷ xs) h = elim (cases_Bool (is_read b)) [ inl e ↦ rw e (h.0, filter_inside xs h.1) | inr e ↦ rw e (filter_inside xs h.1) ]

last_inside : (body : List ℕ) (f : ℕ) → AreInside (body ++ f ∷ []) → is_inside f ≡ true
last_inside [] f h = h.0
last_inside (b ∷ body) f h = last_inside body f h.1

no_sequence : (xs : List ℕ) (list : List CsiParam) (final : ℕ) → AreInside xs
    → Seq (without_controls (27 ∷ 91 ∷ xs)) list final → ⊥
no_sequence xs list final h s =
    let whole : 27 ∷ 91 ∷ filter is_read xs ≡ 27 ∷ 91 ∷ (s.body ++ final ∷ []) = s.whole in
    let body : filter is_read xs ≡ s.body ++ final ∷ [] = cc in
    let inside = last_inside s.body final (subst AreInside body (filter_inside xs h)) in
    let ends : IsFinal final = s.ends in
    grind (arith, nat_tests)

pub no_control : (e after : Events) (bytes text rest more : List ℕ) (list : List CsiParam)
    (final b : ℕ) → BeginsCsi bytes → IsLooked e bytes
    → IsCsi e.limit (before_stop e bytes) (from_stop e bytes) list final text rest after
    → from_stop e bytes ≡ b ∷ more → is_control b ≡ false
no_control e after bytes text rest more list final b begins l c stands =
    let over = before_stop e bytes in
    let both : c.last ∷ rest ≡ b ∷ more = sym c.stands ∙ stands in
    let last : c.last ≡ b = cc in
    let whole : text ≡ 27 ∷ 91 ∷ (drop 2 over ++ b ∷ []) = c.whole ∙ ap (λ (x : ℕ). over ++ x ∷ []) last ∙ ap (λ (x : List ℕ). x ++ b ∷ []) (over_shape e bytes begins) in
    false_from_ne_true (is_control b) (λ yes. no_sequence (drop 2 over ++ b ∷ []) list final
    (both_inside (drop 2 over) (b ∷ []) (over_inside e bytes begins l) (or_right (is_passed b) (is_control b) yes, tt))
    (subst (λ (x : List ℕ). Seq (without_controls x) list final) whole c.seq))
