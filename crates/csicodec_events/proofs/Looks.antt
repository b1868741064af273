-- The events of a stream don't depend on the chunks that it came in, nor does how often its bytes are looked at grow with them.
use Rattle.std.proofs.Common.{◌≡◌, ℕ, ◌+◌, ◌-◌, ◌*◌, ◌<◌, ◌≤◌, max, List, [], ◌∷◌, ◌++◌, length, take, drop, refl, sym, ap, ◌∙◌, inl, inr, append-nil, take_all, arith, eqb-true, drop_at, length-append, length-drop, length-take, take-append-drop, flat_map, ◌==◌, ◌&&◌, Bool, true, false, if◌then◌else◌, subst, append_assoc}
use Rattle.std.proofs.{lemmas.Bool.false_from_ne_true, lemmas.Bool.and_parts, lemmas.Bool.cases_lt, lemmas.Bool.both_ways, lemmas.Grind.flat_map-append}
use Rattle.std.specs.List.{concat, prefix_len}
use Rattle.csicodec_tokens.specs.declared.param.CsiParam.{CsiParam}
use Rattle.csicodec_spans.specs.{declared.table.Mode.Mode, Parts.Part, Parts.AreAll, Parts.AreFirstParts, Parts.IsFirstPart, declared.table.Kind.Kind}
use Rattle.csicodec_events.specs.Events.{AreTold, BeginsCsi, GoesWrong, InChunks, IsOpen, IsTold, Waits, before_stop, bytes_of, from_stop, is_passed, is_csi, looks, looks_in, looks_told, reach, stop, AreAlike, IsWrongAt, Piece, pieces, pieces_of}
use Rattle.csicodec_events.specs.{declared.event.Event.Event, declared.event.Events.Events, declared.event.Told.Told, Characters.is_unfinished}
use Rattle.csicodec_events.proofs.Run.{IsLooked, looked_met, looked_more, over_inside, chunks_joined, met_within, GoesOn, told_same, waits_on, waits_same}
use Rattle.csicodec_events.proofs.{Divided.span_other, Divided.told_goes, Divided.all_go, Stops.next_place, Moves.Divides, Moves.Done, Moves.IsStill}
use Rattle.csicodec_events.proofs.{Moves.divides_more, Moves.divides_on, Moves.divides_once}
use Rattle.csicodec_spans.proofs.{Once.part_once, Once.unsure_stops, OneSpan.none_unsure}

pub stops_behind : (looked : ℕ) (front other bytes : List ℕ) → 2 ≤ looked → length front ≡ looked
    → length other ≡ looked → stop looked (front ++ bytes) ≡ stop looked (other ++ bytes)
stops_behind looked front other bytes two a b =
    let start : max 2 looked ≡ looked = omega (arith, two) in
    let same : drop (max 2 looked) (front ++ bytes) ≡ drop (max 2 looked) (other ++ bytes) =
    drop_at front bytes (max 2 looked) (a ∙ sym start)
    ∙ sym (drop_at other bytes (max 2 looked) (b ∙ sym start)) in
    ap (λ (x : List ℕ). max 2 looked + prefix_len is_passed x) same

-- ---- one event

csi_false : (bytes : List ℕ) → (BeginsCsi bytes → ⊥) → is_csi bytes ≡ false
csi_false [] other = refl
csi_false (a ∷ []) other = refl
csi_false (a ∷ b ∷ bytes) other = false_from_ne_true (a == 27 && b == 91) (λ e.
    let h = and_parts (a == 27) (b == 91) e in
    let esc = eqb-true a 27 h.0 in
    let bracket = eqb-true b 91 h.1 in
    other (bytes, cc))

-- those that are read at once
abbrev first : Events → ℕ → ℕ
first e n = if e.looked == 0 then n else 0

at_most : (t : Bool) (n : ℕ) → (if t then n else 0) ≤ n
at_most true n = omega arith
at_most false n = omega arith

looks_most : (e : Events) (bytes : List ℕ) (n : ℕ)
    → looks e bytes n ≤ first e (reach e bytes) + (reach e bytes - max 2 e.looked) + 2 * n
looks_most e bytes n = at_most (is_csi bytes) (first e (reach e bytes) + (reach e bytes - max 2 e.looked) + 2 * n)

-- only where none was looked at before
first_most : (e : Events) (n : ℕ) → (first e n ≤ n) × (0 < e.looked → first e n ≡ 0)
first_most e n = (at_most (e.looked == 0) n, by (e.looked == 0) refl)
  where
    by : (t : Bool) → (e.looked == 0) ≡ t → 0 < e.looked → (if t then n else 0) ≡ 0
    by true same some = absurd (omega (arith, some, eqb-true e.looked 0 same))
    by false other some = refl

-- what was looked at, and what is looked at now, are bytes of the event, each four times at most, or noted, each twice
abbrev IsCounted : Events → List ℕ → List ℕ → Events → Type 0
IsCounted e bytes text after =
    looks e bytes (length text) + 2 * (e.looked - 1) ≤ 4 * length text + 2 * (after.looked - 1)

none_counted : (e after : Events) (bytes text : List ℕ) → IsLooked e bytes → (BeginsCsi bytes → ⊥)
    → IsCounted e bytes text after
none_counted e after bytes text (inl none) other =
    let no : looks e bytes (length text) ≡ 0 = ap (λ (t : Bool). if t then first e (reach e bytes) + (reach e bytes - max 2 e.looked) + 2 * length text else 0) (csi_false bytes other) in
    omega (arith, none, no)
none_counted e after bytes text (inr l) other = absurd (other l.0)

-- .. where so much is used and noted that it is one less than what was reached, and than what stands before the stop, at least
begun_counted : (e after : Events) (bytes text : List ℕ) → BeginsCsi bytes → IsLooked e bytes
    → reach e bytes ≤ length text + (after.looked - 1) + 1
    → length (before_stop e bytes) ≤ length text + (after.looked - 1) + 1 → IsCounted e bytes text after
begun_counted e after bytes text begins l reached over =
    let most = looks_most e bytes (length text) in
    let once = first_most e (reach e bytes) in
    let front = length-take (stop e.looked bytes) bytes in
    let before : e.looked ≤ length text + (after.looked - 1) + 1 = omega (arith, over, met_within e bytes (looked_met e bytes l), front) in
    let some : 0 < length text + (after.looked - 1) = omega (arith, over, front, ap length begins.1) in
    elim (cases_lt 0 e.looked) [
      | inl lt ↦ let no = once.1 lt in omega (arith, most, no, lt, reached, before, some)
      | inr le ↦ omega (arith, most, once.0, le, reached, before, some)
    ]

goes_longer : (over behind text rest : List ℕ) (m : Mode) → GoesWrong over behind text rest m
    → length over ≤ length text
goes_longer over [] text rest m g = omega (arith, ap length g.0)
goes_longer over (b ∷ more) text rest m (inl g) = omega (arith, ap length g.1, length-append over (b ∷ []))
goes_longer over (b ∷ more) text rest m (inr g) = omega (arith, ap length g.1)

told_counted : (x : Event) (e : Events) (bytes text rest : List ℕ) (list : List CsiParam)
    (after : Events) → IsLooked e bytes → IsTold x e bytes text rest list after
    → IsCounted e bytes text after
told_counted Event.Text e bytes text rest list after l h = none_counted e after bytes text l (span_other e Kind.Text bytes (text ++ h.held) h.behind after (λ is. cc) (λ is. cc) h.span)
told_counted (Event.Control b) e bytes text rest list after l h =
    let c = h.1 in
    let len = (next_place e bytes b c.more c.stands).len in
    let looked : after.looked ≡ length (before_stop e bytes) + 1 = ap (λ (a : Events). a.looked) c.looked in
    begun_counted e after bytes text h.0 l (omega (arith, looked, len, length-take (stop e.looked bytes + 1) bytes)) (omega (arith, looked))
told_counted (Event.Csi final) e bytes text rest list after l h =
    let c = h.1 in
    let len = (next_place e bytes c.last rest c.stands).len in
    let long : length text ≡ length (before_stop e bytes) + 1 = ap length c.whole ∙ length-append (before_stop e bytes) (c.last ∷ []) in
    begun_counted e after bytes text h.0 l (omega (arith, len, long, length-take (stop e.looked bytes + 1) bytes)) (omega (arith, long))
told_counted Event.Esc e bytes text rest list after l h = none_counted e after bytes text l (span_other e Kind.Esc bytes text rest after (λ is. cc) (λ is. cc) h)
told_counted Event.Str e bytes text rest list after l h = none_counted e after bytes text l (span_other e Kind.Str bytes text rest after (λ is. cc) (λ is. cc) h)
told_counted Event.Other e bytes text rest list after l (inl h) = none_counted e after bytes text l h.0
told_counted Event.Other e bytes text rest list after l (inr h) =
    let at = stop e.looked bytes in
    let long = goes_longer (before_stop e bytes) (from_stop e bytes) text rest h.1.next h.1.goes in
    begun_counted e after bytes text h.0 l (omega (arith, long, length-take at bytes, length-take (at + 1) bytes)) (omega (arith, long))

-- ---- where the stream waits

wait_counted : (e after : Events) (bytes : List ℕ) → IsLooked e bytes → Waits e bytes after
    → IsCounted e bytes [] after
wait_counted e after bytes l (inl w) =
    let at = stop e.looked bytes in
    let o = w.1 in
    let looked : after.looked ≡ length (before_stop e bytes) = ap (λ (a : Events). a.looked) o.looked in
    begun_counted e after bytes [] w.0 l (omega (arith, looked, length-take at bytes, length-take (at + 1) bytes, length-drop at bytes, ap length o.ends)) (omega (arith, looked))
wait_counted e after bytes l (inr w) = none_counted e after bytes [] l w.0

open_looked : (e after : Events) (bytes : List ℕ) → IsLooked e bytes → BeginsCsi bytes
    → IsOpen e.limit e.mode (before_stop e bytes) (from_stop e bytes) after → IsLooked after bytes
open_looked e after bytes l begins o =
    let over = before_stop e bytes in
    let looked : after.looked ≡ length over = ap (λ (a : Events). a.looked) o.looked in
    let whole : bytes ≡ over = sym (take-append-drop (stop e.looked bytes) bytes) ∙ ap (λ (x : List ℕ). over ++ x) o.ends ∙ append-nil over in
    let front : take after.looked bytes ≡ over = take_all after.looked bytes (omega (arith, looked, ap length whole)) ∙ whole in
    inr (begins, omega (arith, looked, ap length whole), rw front (over_inside e bytes begins l))

waits_looked : (e after : Events) (bytes : List ℕ) → IsLooked e bytes → Waits e bytes after
    → IsLooked after bytes
waits_looked e after bytes l (inl w) = open_looked e after bytes l w.0 w.1
waits_looked e after bytes l (inr w) = rw w.1 l

-- ---- all events

record AllCounted (e : Events) (told : List Told) (rest : List ℕ) (after : Events) (n : ℕ) : Type 0
  where
    count : n + 2 * (e.looked - 1) ≤ 4 * length (flat_map bytes_of told) + 2 * (after.looked - 1)
    looked : IsLooked after rest

all_counted : (told : List Told) (e after : Events) (bytes rest : List ℕ) → IsLooked e bytes
    → (s : AreTold e bytes told rest after)
    → AllCounted e told rest after (looks_told told e bytes rest after s)
all_counted [] e after bytes rest l s = rw (s.0, s.1) (record { count = omega arith; looked = l })
all_counted (t ∷ told) e after bytes rest l s =
    let first = told_counted t.event e bytes t.bytes.now t.rest.now s.0 s.1 l s.2 in
    let looked = (told_goes t.event e bytes t.bytes.now t.rest.now s.0 s.1 l s.2).looked in
    let others = all_counted told s.1 after t.rest.now rest looked s.3 in
    record {
      count = let more = others.count in omega (arith, first, more, length-append t.bytes.now (flat_map bytes_of told));
      looked = others.looked;
    }

chunks_counted : (chunks : List (List ℕ)) (e after : Events) (held rest : List ℕ) (told : List Told)
    → IsLooked e held → (c : InChunks e held chunks told rest after)
    → AllCounted e told rest after (looks_in chunks e held told rest after c)
chunks_counted [] e after held rest told l (none, same, on) = rw (none, same, on) (record { count = omega arith; looked = l })
chunks_counted (chunk ∷ chunks) e after held rest told l (now, later, kept, mid, waiting, whole, first, waits, others) =
    let a = all_counted now e mid (held ++ chunk) kept (looked_more e held chunk l) first in
    let w = wait_counted mid waiting kept a.looked waits in
    let r = chunks_counted chunks waiting after kept rest later (waits_looked mid waiting kept a.looked waits) others in
    let size : length (flat_map bytes_of told) ≡ length (flat_map bytes_of now) + length
    (flat_map bytes_of later) = ap (λ (x : List Told). length (flat_map bytes_of x)) whole
    ∙ ap length (flat_map-append bytes_of now later) ∙ length-append (flat_map bytes_of now) (flat_map bytes_of later) in
    record { count = let x = a.count in let y = r.count in omega (arith, x, w, y, size); looked = r.looked }

pub looks_once : (e after : Events) (chunks : List (List ℕ)) (told : List Told) (rest : List ℕ)
    → e.looked ≡ 0 → (c : InChunks e [] chunks told rest after)
    → looks_in chunks e [] told rest after c ≤ 4 * length (concat chunks)
looks_once e after chunks told rest none c =
    let r = chunks_counted chunks e after [] rest told (inl none) c in
    let within = met_within after rest (looked_met after rest r.looked) in
    let all = ap length (chunks_joined e after [] rest chunks told c) in
    let count = r.count in
    omega (arith, count, within, all, none, length-append (flat_map bytes_of told) rest)

-- ---- The events of a stream don't depend on the chunks that it came in: they are the smallest steps of all of its bytes.

-- ---- where the stream waits no step follows

none_wait : (e : Events) → Waits e [] e
none_wait e = inr (λ begins. let same = begins.1 in cc, refl, inr (none_unsure e.limit e.mode))

open_still : (e after : Events) (bytes : List ℕ) → BeginsCsi bytes
    → IsOpen e.limit e.mode (before_stop e bytes) (from_stop e bytes) after → IsStill e bytes
open_still e after bytes begins o ps rest next (inl g) = g.other begins
open_still e after bytes begins o ps rest next (inr (inl g)) =
    let ends = o.ends in
    let stands = g.stands in
    cc
open_still e after bytes begins o ps rest next (inr (inr g)) =
    let long : e.limit ≤ length (before_stop e bytes) = subst (IsWrongAt e.limit (before_stop e bytes)) o.ends g.why in
    let short = o.short in
    omega (arith, long, short)

other_still : (e : Events) (bytes : List ℕ) → (BeginsCsi bytes → ⊥)
    → ((p : Part) (rest : List ℕ) (a : Mode) → IsFirstPart e.limit e.mode bytes p rest a
    → (p.kind ≡ Kind.Text → is_unfinished bytes ≡ false) → ⊥)
    → IsStill e bytes
other_still e bytes other none ps rest next (inl g) = none g.p rest g.next g.first g.sure
other_still e bytes other none ps rest next (inr (inl g)) = other g.begins
other_still e bytes other none ps rest next (inr (inr g)) = other (rest, g.stands)

text_first : (limit : ℕ) (m a b : Mode) (bytes text rest x : List ℕ) (parts : List Part) (p : Part)
    → AreAll Kind.Text text parts → AreFirstParts limit m bytes parts rest a
    → IsFirstPart limit m bytes p x b → p.kind ≡ Kind.Text
text_first limit m a b bytes text rest x [] p all s first = absurd (omega (arith, all.some))
text_first limit m a b bytes text rest x (q ∷ parts) p all s first =
    ap (λ (y : Part). y.kind) (part_once limit m bytes p q x s.0 b s.1 first s.2).parts ∙ all.all.0

waits_still : (e after : Events) (bytes : List ℕ) → Waits e bytes after → IsStill e bytes
waits_still e after bytes (inl w) = open_still e after bytes w.0 w.1
waits_still e after bytes (inr (other, on, inl b)) = other_still e bytes other (λ p rest a first sure.
    let c = b.1.1 in
    both_ways (is_unfinished bytes) (sure (text_first e.limit e.mode b.1.0 a bytes bytes [] rest c.parts p c.span c.first first)) b.0)
waits_still e after bytes (inr (other, on, inr u)) =
    other_still e bytes other (λ p rest a first sure. unsure_stops e.limit e.mode bytes p rest a u first)

waits_once : (e a b : Events) (bytes : List ℕ) → Waits e bytes a → Waits e bytes b → a ≡ b
waits_once e a b bytes (inl w) (inl v) = w.1.looked ∙ sym v.1.looked
waits_once e a b bytes (inl w) (inr v) = absurd (v.0 w.0)
waits_once e a b bytes (inr w) (inl v) = absurd (w.0 v.0)
waits_once e a b bytes (inr w) (inr v) = w.1 ∙ sym v.1

-- the same bytes are told and the same wait, from before the stream waited
back : (told : List Told) (e waiting mid after : Events) (bytes kept : List ℕ) → GoesOn e waiting bytes
    → AreTold waiting bytes told kept mid → Waits mid kept after
    → (m : Events) × AreTold e bytes told kept m × Waits m kept after
back [] e waiting mid after bytes kept g s w =
    (e, (s.0, refl), rw s.0 (waits_same e waiting after bytes g (rw (s.0, s.1) at w)))
back (t ∷ told) e waiting mid after bytes kept g s w =
    (mid, (s.0, s.1, told_same e waiting s.1 bytes t s.0 g s.2, s.3), w)

-- ---- all chunks

-- the steps of all of the bytes, up to where the stream waits
record AtOnce (e : Events) (bytes : List ℕ) (ps : List Piece) (rest : List ℕ) (after : Events) : Type 0
  where
    mid : Events
    divides : Divides e bytes ps rest mid
    waits : Waits mid rest after

at_once : (chunks : List (List ℕ)) (e waiting after : Events) (held rest : List ℕ) (told : List Told)
    → IsLooked e held → Waits e held waiting → InChunks waiting held chunks told rest after
    → AtOnce e (held ++ concat chunks) (pieces told) rest after
at_once [] e waiting after held rest told l w (none, same, on) =
    rw (none, same, on, append-nil held) (record { mid = e; divides = Done; waits = w })
at_once (chunk ∷ chunks) e waiting after held rest told l w (now, later, kept, mid, waits, whole, first, paused, others) =
    let more = concat chunks in
    let (m, first', paused') = back now e waiting mid waits (held ++ chunk) kept (waits_on e waiting held chunk (looked_met e held l) w) first paused in
    let g = all_go now e m (held ++ chunk) kept (looked_more e held chunk l) first' in
    let r = at_once chunks m waits after kept rest later g.looked paused' others in
    let bytes : held ++ (chunk ++ more) ≡ (held ++ chunk) ++ more = sym (append_assoc held chunk more) in
    let told_all : pieces told ≡ pieces now ++ pieces later = ap pieces whole ∙ flat_map-append (λ (t : Told). pieces_of t.event t.bytes.now) now later in
    rw (bytes, told_all) (record { mid = r.mid; divides = divides_on (divides_more more g.divides) r.divides; waits = r.waits })

pub alike : (e after after' : Events) (chunks others : List (List ℕ)) (told told' : List Told)
    (rest rest' : List ℕ) → e.looked ≡ 0 → concat chunks ≡ concat others
    → InChunks e [] chunks told rest after → InChunks e [] others told' rest' after'
    → AreAlike told told' rest rest' after after'
alike e after after' chunks others told told' rest rest' none same a b =
    let x = at_once chunks e e after [] rest told (inl none) (none_wait e) a in
    let y = at_once others e e after' [] rest' told' (inl none) (none_wait e) b in
    let s = divides_once x.divides (waits_still x.mid after rest x.waits) (subst (λ (bytes : List ℕ). Divides e bytes (pieces told') rest' y.mid) (sym same) y.divides) (waits_still y.mid after' rest' y.waits) in
    let waits : Waits x.mid rest after' = subst (λ (z : List ℕ). Waits x.mid z after') (sym s.rests) (subst (λ (z : Events). Waits z rest' after') (sym s.on) y.waits) in
    record { same = s.told; waits = s.rests; on = waits_once x.mid after after' rest x.waits waits }
