-- A span as the smallest steps, a step for each of its parts, and any event.
use Rattle.std.proofs.Common.{◌≡◌, ◌≢◌, ◌⊎◌, ℕ, ◌<◌, zero, suc, Bool, true, false, List, [], ◌∷◌, ◌++◌, length, take, drop, refl, sym, ap, subst, ◌∙◌, inl, inr, append_assoc, arith, eqb-true, length-append, length-take, take-append-drop, ◌==◌, if◌then◌else◌, flat_map}
use Rattle.std.proofs.{lemmas.Bool.cases_Bool, lemmas.Bool.Decides.nat_tests, lemmas.Grind.flat_map-append, lemmas.List.append_cancel_left}
use Rattle.std.proofs.{Math.Seq.take-append_seam}
use Rattle.std.specs.List.{AllByRecursion}
use Rattle.csicodec_spans.specs.Parts.{Part, part, Allows, AllowsCsi, AreAll, AreFirstParts, AreOne, IsFirstPart, IsMaximal, IsMore, bytes_of}
use Rattle.csicodec_spans.specs.{declared.table.Kind.Kind, declared.table.Mode.Mode, Table.Answer, Table.More, Table.ahead}
use Rattle.csicodec_spans.proofs.{Agrees.opens, Agrees.text_goes_on, Once.parts_join, Apart.said, Missed.told_part, Missed.cut_parts, Missed.span_all}
use Rattle.csicodec_events.specs.Events.{BeginsCsi, IsSpan, IsText, Piece, begins, byte_by_byte, divided, onward, piece, pieces_of, AreTold, GoesWrong, IsControl, IsTold, IsWrong, before_stop, from_stop, is_final, pieces, stop, without_controls}
use Rattle.csicodec_events.specs.{declared.event.Event.Event, declared.event.Events.Events, Characters.is_unfinished, declared.event.Told.Told}
use Rattle.csicodec_events.proofs.Moves.{Divides, Done, Then, IsBy, IsPart, divides_on, one_divides, one_part, text_fit}
use Rattle.csicodec_events.proofs.Run.{AreInside, IsLooked, is_inside, looked_control, looked_met, no_control, over_inside, over_shape, met_within}
use Rattle.csicodec_events.proofs.Fronts.{event_of, front, is_divided, text_sure}
use Rattle.csicodec_tokens.specs.{declared.param.CsiParam.CsiParam, Sequence.Seq}

-- ---- pieces of bytes

pub by_byte_on : (x : Event) (a b : List ℕ) → byte_by_byte x (a ++ b) ≡ byte_by_byte x a ++ byte_by_byte x b
by_byte_on x [] b = refl
by_byte_on x (c ∷ a) b = ap (λ (ps : List Piece). piece x (c ∷ []) ∷ ps) (by_byte_on x a b)

divided_on : (x : Event) (a b : List ℕ) → begins x (a ++ b) ≡ begins x a
    → divided x (a ++ b) ≡ divided x a ++ byte_by_byte x b
divided_on x a b same =
    let start = λ (t : Bool). if t then piece x [] ∷ [] else [] in
    ap (λ (t : Bool). start t ++ byte_by_byte x (a ++ b)) same ∙ ap (λ (ps : List Piece). start (begins x a) ++ ps) (by_byte_on x a b)
    ∙ sym (append_assoc (start (begins x a)) (byte_by_byte x a) (byte_by_byte x b))

pub divided_further : (x : Event) (a : List ℕ) → begins x a ≡ false → divided x a ≡ byte_by_byte x a
divided_further x a none = ap (λ (t : Bool). (if t then piece x [] ∷ [] else []) ++ byte_by_byte x a) none

-- ---- where no sequence begins

more_other : (m : Mode) (bytes : List ℕ) → IsMore (ahead m bytes) → BeginsCsi bytes → ⊥
more_other m bytes more b = subst IsMore (ap (ahead m) b.1 ∙ opens m b.0) more

csi_allows : (limit : ℕ) (bytes text : List ℕ) (k : Kind) (a : Mode) → k ≢ Kind.Csi → k ≢ Kind.Other → AllowsCsi limit bytes k text a → ⊥
csi_allows limit bytes text k a = elim k as (λ x. x ≢ Kind.Csi → x ≢ Kind.Other → AllowsCsi limit bytes x text a → ⊥) [
  | Kind.Csi ↦ λ csi other h. csi refl
  | Kind.Other ↦ λ csi other h. other refl
  | _ ↦ λ csi other h. h
]

-- a span but for a control sequence or what went wrong stands where no sequence begins
pub span_other : (e : Events) (k : Kind) (bytes text rest : List ℕ) (after : Events) → k ≢ Kind.Csi
    → k ≢ Kind.Other → IsSpan e.limit e.mode k bytes text rest after → BeginsCsi bytes → ⊥
span_other e k bytes text rest after csi other s = by s.cuts.parts (span_all k text s.cuts.parts s.cuts.span) s.cuts.first
  where
    by : (parts : List Part) → AreAll k text parts → AreFirstParts e.limit e.mode bytes parts rest s.next → BeginsCsi bytes → ⊥
    by [] all f b = absurd (omega (arith, all.some))
    by (p ∷ parts) all f b = csi_allows e.limit bytes p.bytes p.kind f.1 (λ is. csi (sym all.all.0 ∙ is)) (λ is. other (sym all.all.0 ∙ is))
        (subst (λ (g : Answer). Allows g e.limit bytes p.kind p.bytes f.1) (ap (ahead e.mode) b.1 ∙ opens e.mode b.0) f.2.1)

-- ---- a span of text, a string, or what went wrong

abbrev pub at : Events → Mode → Events
at e m = onward e m 0

-- wherever the parts are divided, this holds of the bytes behind
abbrev Along : (Mode → List ℕ → Type 0) → ℕ → Mode → List ℕ → List Part → Type 0
Along P limit m bytes parts = (some more : List Part) (rest : List ℕ) (after : Mode)
    → parts ≡ some ++ more → 0 < length more → AreFirstParts limit m bytes some rest after → P after rest

-- of text, they are no beginning of a character
abbrev Sure : Kind → Mode → List ℕ → Type 0
Sure k after rest = k ≡ Kind.Text → is_unfinished rest ≡ false

-- .. and they go on with what is open
abbrev GoesOn : Kind → Mode → List ℕ → Type 0
GoesOn k after rest = IsMore (ahead after rest) × Sure k after rest

divided_pieces : (k : Kind) (text : List ℕ) → is_divided k ≡ true → pieces_of (event_of k) text ≡ divided (event_of k) text
divided_pieces Kind.Csi text is = cc
divided_pieces Kind.Esc text is = cc
divided_pieces _ text is = refl

-- a part of one
part_move : (e : Events) (a : Mode) (bytes rest : List ℕ) (k : Kind) (p : Part) → is_divided k ≡ true → (BeginsCsi bytes → ⊥) → p.kind ≡ k
    → Sure k a bytes → IsFirstPart e.limit e.mode bytes p rest a → IsPart e bytes (divided (event_of k) p.bytes) rest (at e a)
part_move e a bytes rest k p is other same sure first = record {
  other = other;
  p = p;
  next = a;
  first = first;
  sure = λ text. sure (sym same ∙ text);
  told = sym (divided_pieces k p.bytes is) ∙ ap (λ (j : Kind). pieces_of (event_of j) p.bytes) (sym same);
  on = refl;
}

further : (parts : List Part) (e : Events) (m a : Mode) (bytes rest : List ℕ) (k : Kind)
    → is_divided k ≡ true → Along (GoesOn k) e.limit m bytes parts
    → AllByRecursion (λ (p : Part). p.kind ≡ k) parts
    → AreFirstParts e.limit m bytes parts rest a
    → Divides (at e m) bytes (byte_by_byte (event_of k) (flat_map bytes_of parts)) rest (at e a)
further [] e m a bytes rest k is on all s = rw (s.0, s.1) Done
further (p ∷ parts) e m a bytes rest k is on all s =
    let x = event_of k in
    let here = on [] (p ∷ parts) bytes m refl (omega arith) (refl, refl) in
    let other = more_other m bytes here.0 in
    let f = front e.limit m s.1 bytes s.0 p (ap is_divided all.0 ∙ is) other s.2 in
    let none : begins x p.bytes ≡ false = subst (λ (j : Kind). begins (event_of j) p.bytes ≡ false) all.0 (f.goes here.0) in
    let move = subst (λ (ps : List Piece). IsPart (at e m) bytes ps s.0 (at e s.1)) (divided_further x p.bytes none) (part_move (at e m) s.1 bytes s.0 k p is other all.0 here.1 s.2) in
    let next : Along (GoesOn k) e.limit s.1 s.0 parts = λ some more rest after same full second.
    on (p ∷ some) more rest after (ap (λ (y : List Part). p ∷ y) same) full (s.0, s.1, s.2, second) in
    rw (by_byte_on x p.bytes (flat_map bytes_of parts)) (Then (inl move) (further parts e s.1 a s.0 rest k is next all.1 s.3))

all_divides : (parts : List Part) (e : Events) (a : Mode) (bytes text rest : List ℕ) (k : Kind)
    → is_divided k ≡ true → (BeginsCsi bytes → ⊥) → AreAll k text parts
    → AreOne e.limit e.mode bytes [] parts → Along (Sure k) e.limit e.mode bytes parts
    → AreFirstParts e.limit e.mode bytes parts rest a → Divides e bytes (pieces_of (event_of k) text) rest (at e a)
all_divides [] e a bytes text rest k is other all one sure s = absurd (omega (arith, all.some))
all_divides (p ∷ parts) e a bytes text rest k is other all one sure s =
    let x = event_of k in
    let back = flat_map bytes_of parts in
    let f = front e.limit e.mode s.1 bytes s.0 p (ap is_divided all.all.0 ∙ is) other s.2 in
    let same : begins x (p.bytes ++ back) ≡ begins x p.bytes = subst (λ (j : Kind). begins (event_of j) (p.bytes ++ back) ≡ begins (event_of j) p.bytes) all.all.0 (f.same back) in
    let next : Along (GoesOn k) e.limit s.1 s.0 parts = λ some more rest after same full second.
    let whole = ap (λ (y : List Part). p ∷ y) same in
    let first : AreFirstParts e.limit e.mode bytes (p ∷ some) rest after = (s.0, s.1, s.2, second) in
    (one (p ∷ some) more rest after whole (omega arith) full first, sure (p ∷ some) more rest after whole full first) in
    let told : pieces_of x text ≡ divided x p.bytes ++ byte_by_byte x back = divided_pieces k text is ∙ ap (divided x) (sym all.joined) ∙ divided_on x p.bytes back same in
    rw told (Then (inl (part_move e s.1 bytes s.0 k p is other all.all.0 (sure [] (p ∷ parts) bytes e.mode refl (omega arith) (refl, refl)) s.2))
    (further parts e s.1 a s.0 rest k is next all.all.1 s.3))

-- a string, or what went wrong
span_divides : (e : Events) (k : Kind) (bytes text rest : List ℕ) (after : Events) → is_divided k ≡ true → k ≢ Kind.Text
    → (BeginsCsi bytes → ⊥) → IsSpan e.limit e.mode k bytes text rest after
    → Divides e bytes (pieces_of (event_of k) text) rest after
span_divides e k bytes text rest after is no_text other s =
    let c = s.cuts in
    rw s.on (all_divides c.parts e s.next bytes text rest k is other (span_all k text c.parts c.span) c.one (λ some more rest after same full first text. absurd (no_text text)) c.first)

-- an escape sequence
esc_divides : (e : Events) (bytes text rest : List ℕ) (after : Events)
    → IsSpan e.limit e.mode Kind.Esc bytes text rest after → Divides e bytes (pieces_of Event.Esc text) rest after
esc_divides e bytes text rest after s =
    let first = subst (λ (ps : List Part). AreFirstParts e.limit e.mode bytes ps rest s.next) s.cuts.span s.cuts.first in
    one_divides (pieces_of Event.Esc text) (inl (record {
      other = span_other e Kind.Esc bytes text rest after (λ is. cc) (λ is. cc) s;
      p = part Kind.Esc text;
      next = s.next;
      first = one_part e.limit e.mode s.next bytes rest (part Kind.Esc text) first;
      sure = λ is. absurd cc;
      told = refl;
      on = s.on;
    }))

-- ---- text

-- behind text that is as long as it can be stands ESC
pub esc_behind : (m : Mode) (behind more : List ℕ) (c : ℕ) → m ≡ Mode.Text
    → IsMaximal Kind.Text m behind → behind ≡ c ∷ more → c ≡ 27
esc_behind m behind more c text maximal e = elim (cases_Bool (c == 27)) [
  | inl is ↦ eqb-true c 27 is
  | inr other ↦
      let goes : ahead m behind ≡ More Kind.Text 1 Mode.Text = ap (λ (n : Mode). ahead n behind) text ∙ ap (ahead Mode.Text) e ∙ text_goes_on c more (λ is. grind arith) in
      absurd (maximal (inl refl) (subst IsMore (sym goes) tt))
]

-- parts of text are single bytes
abbrev AreSingle : List Part → Type 0
AreSingle parts = AllByRecursion (λ (p : Part). length p.bytes ≡ 1) parts

single : (limit : ℕ) (parts : List Part) (m a : Mode) (bytes rest : List ℕ)
    → AllByRecursion (λ (p : Part). p.kind ≡ Kind.Text) parts → AreFirstParts limit m bytes parts rest a → AreSingle parts
single limit [] m a bytes rest all s = tt
single limit (p ∷ parts) m a bytes rest all s = ((text_fit limit m s.1 bytes s.0 p all.0 s.2).1, single limit parts s.1 a s.0 rest all.1 s.3)

single_length : (parts : List Part) → AreSingle parts → length (flat_map bytes_of parts) ≡ length parts
single_length [] h = refl
single_length (p ∷ parts) h = omega (arith, h.0, length-append p.bytes (flat_map bytes_of parts), single_length parts h.1)

-- the first of parts
all_take : (P : Part → Type 0) (n : ℕ) (parts : List Part) → AllByRecursion P parts → AllByRecursion P (take n parts)
all_take P zero parts h = tt
all_take P (suc n) [] h = tt
all_take P (suc n) (p ∷ parts) h = (h.0, all_take P n parts h.1)

first_take : (n limit : ℕ) (parts : List Part) (m a : Mode) (bytes rest : List ℕ) → AreFirstParts limit m bytes parts rest a
    → (behind : List ℕ) × (mid : Mode) × AreFirstParts limit m bytes (take n parts) behind mid
first_take zero limit parts m a bytes rest s = (bytes, m, (refl, refl))
first_take (suc n) limit [] m a bytes rest s = (bytes, m, (refl, refl))
first_take (suc n) limit (p ∷ parts) m a bytes rest s =
    let (behind, mid, first) = first_take n limit parts s.1 a s.0 rest s.3 in (behind, mid, (s.0, s.1, s.2, first))

-- as many as the bytes of a text in front are that text
front_text : (parts : List Part) (text held : List ℕ) → AreSingle parts → flat_map bytes_of parts ≡ text ++ held
    → flat_map bytes_of (take (length text) parts) ≡ text
front_text parts text held h joined =
    let n = length text in
    let some = flat_map bytes_of (take n parts) in
    let others = flat_map bytes_of (drop n parts) in
    let whole : some ++ others ≡ text ++ held = sym (flat_map-append bytes_of (take n parts) (drop n parts)) ∙ ap (flat_map bytes_of) (take-append-drop n parts) ∙ joined in
    let len : length some ≡ n =
    omega (arith, single_length (take n parts) (all_take _ n parts h), length-take n parts, single_length parts h, ap length joined, length-append text held) in
    sym (take-append_seam some others) ∙ ap (λ (k : ℕ). take k (some ++ others)) len ∙ ap (take n) whole ∙ take-append_seam text held

-- text leaves nothing open
pub text_mode : (limit : ℕ) (parts : List Part) (m a : Mode) (bytes rest : List ℕ)
    → AllByRecursion (λ (p : Part). p.kind ≡ Kind.Text) parts → AreFirstParts limit m bytes parts rest a
    → (m ≡ Mode.Text) ⊎ (0 < length parts) → a ≡ Mode.Text
text_mode limit [] m a bytes rest all s (inl text) = s.1 ∙ text
text_mode limit [] m a bytes rest all s (inr some) = absurd (omega (arith, some))
text_mode limit (p ∷ parts) m a bytes rest all s h =
    text_mode limit parts s.1 a s.0 rest all.1 s.3 (inl ((told_part limit m bytes p s.0 s.1 s.2).plain all.0))

some_bytes : (some more : List Part) → 0 < length more → AreSingle (some ++ more) → 0 < length (flat_map bytes_of more)
some_bytes (p ∷ some) more full h = some_bytes some more full h.1
some_bytes [] [] full h = absurd (omega (arith, full))
some_bytes [] (p ∷ more) full h = omega (arith, h.0, length-append p.bytes (flat_map bytes_of more))

text_divides : (e : Events) (bytes text rest : List ℕ) (after : Events)
    → IsText e.limit e.mode bytes text rest after → Divides e bytes (pieces_of Event.Text text) rest after
text_divides e bytes text rest after t =
    let s = t.span in
    let c = s.cuts in
    let end = t.held ++ t.behind in
    let none = span_other e Kind.Text bytes (text ++ t.held) t.behind after (λ is. cc) (λ is. cc) s in
    let n = length text in
    let some = take n c.parts in
    let (behind, mid, first) = first_take n e.limit c.parts e.mode s.next bytes t.behind c.first in
    let all_single = single e.limit c.parts e.mode s.next bytes t.behind c.span.all c.first in
    let some_single : AreSingle some = all_take _ n c.parts all_single in
    let some_text = all_take (λ (p : Part). p.kind ≡ Kind.Text) n c.parts c.span.all in
    let joined : flat_map bytes_of some ≡ text = front_text c.parts text t.held all_single c.span.joined in
    let full : 0 < length some = omega (arith, t.some, ap length joined, single_length some some_single) in
    let in_text = text_mode e.limit some e.mode mid bytes behind some_text first (inr full) in
    let whole : c.parts ≡ some ++ drop n c.parts = sym (take-append-drop n c.parts) in
    let split : bytes ≡ text ++ end = cut_parts e.limit e.mode bytes Kind.Text (text ++ t.held) t.behind s.next c ∙ append_assoc text t.held t.behind in
    let front : text ++ behind ≡ text ++ end = ap (λ (x : List ℕ). x ++ behind) (sym joined) ∙ sym (parts_join e.limit some e.mode bytes behind mid first) ∙ split in
    let rests : rest ≡ behind = t.goes_on ∙ sym (append_cancel_left text behind end front) in
    let is_text = text_mode e.limit c.parts e.mode s.next bytes t.behind c.span.all c.first (inr c.span.some) in
    let on : after ≡ at e mid = s.on ∙ ap (at e) (is_text ∙ sym in_text) in
    let sure : Along (Sure Kind.Text) e.limit e.mode bytes some = λ before more later m parted full first is.
    let u = flat_map bytes_of before in
    let v = flat_map bytes_of more in
    let parts : text ≡ u ++ v = sym joined ∙ ap (flat_map bytes_of) parted ∙ flat_map-append bytes_of before more in
    let there : u ++ later ≡ u ++ (v ++ end) = sym (parts_join e.limit before e.mode bytes later m first) ∙ split ∙ ap (λ (x : List ℕ). x ++ end) parts ∙ append_assoc u v end in
    subst (λ (x : List ℕ). is_unfinished x ≡ false) (sym (append_cancel_left u later (v ++ end) there))
    (text_sure text u v t.held t.behind t.holds parts (some_bytes before more full (subst AreSingle parted some_single)) (λ d more e. esc_behind s.next t.behind more d is_text s.maximal e)) in
    rw (rests, on) (all_divides some e mid bytes text behind Kind.Text refl none (record { some = full; all = some_text; joined = joined })
    (λ before more later m parted full rest first. c.one before (more ++ drop n c.parts) later m (whole ∙ ap (λ (x : List Part). x ++ drop n c.parts) parted ∙ append_assoc before more (drop n c.parts)) full (omega (arith, rest, length-append more (drop n c.parts))) first)
    sure first)

-- ---- bytes of a sequence that went wrong

inside_goes : (b : ℕ) (rest : List ℕ) → is_inside b ≡ true
    → (ahead Mode.BadCsi (b ∷ rest) ≡ More Kind.Other 1 Mode.BadCsi) × ((b == 27) ≡ false)
inside_goes b rest e = (said 5 _ Mode.BadCsi (b ∷ rest) refl (grind (arith, nat_tests)), grind (arith, nat_tests))

final_ends : (b : ℕ) (rest : List ℕ) → is_final b ≡ true
    → (ahead Mode.BadCsi (b ∷ rest) ≡ More Kind.Other 1 Mode.Text) × ((b == 27) ≡ false)
final_ends b rest e = (said 6 _ Mode.BadCsi (b ∷ rest) refl (grind (arith, nat_tests)), grind (arith, nat_tests))

bad_byte : (e : Events) (b : ℕ) (rest : List ℕ) (m : Mode)
    → (ahead Mode.BadCsi (b ∷ rest) ≡ More Kind.Other 1 m) × ((b == 27) ≡ false)
    → IsPart (at e Mode.BadCsi) (b ∷ rest) (piece Event.Other (b ∷ []) ∷ []) rest (at e m)
bad_byte e b rest m (goes, none) = record {
  other = λ begins. let same = begins.1 in let esc : b ≡ 27 = cc in absurd (grind arith);
  p = part Kind.Other (b ∷ []);
  next = m;
  first = (refl, subst (λ (f : Answer). Allows f e.limit (b ∷ rest) Kind.Other (b ∷ []) m) (sym goes) (refl, refl, refl));
  sure = λ is. absurd cc;
  told = sym (divided_further Event.Other (b ∷ []) none);
  on = refl;
}

inside_divides : (e : Events) (xs rest : List ℕ) → AreInside xs
    → Divides (at e Mode.BadCsi) (xs ++ rest) (byte_by_byte Event.Other xs) rest (at e Mode.BadCsi)
inside_divides e [] rest h = Done
inside_divides e (b ∷ xs) rest h = Then (inl (bad_byte e b (xs ++ rest) Mode.BadCsi (inside_goes b (xs ++ rest) h.0))) (inside_divides e xs rest h.1)

-- up to where it goes wrong, and with a final byte there
goes_divides : (e : Events) (xs behind text rest : List ℕ) (m : Mode) → AreInside xs
    → GoesWrong (27 ∷ 91 ∷ xs) behind text rest m
    → (ps : List Piece) × (pieces_of Event.Other text ≡ pieces_of Event.Other (27 ∷ 91 ∷ []) ++ ps)
    × Divides (at e Mode.BadCsi) (xs ++ behind) ps rest (at e m)
goes_divides e xs [] text rest m h g =
    (byte_by_byte Event.Other xs, ap (pieces_of Event.Other) g.0, rw (g.1, g.2) (inside_divides e xs [] h))
goes_divides e xs (b ∷ more) text rest m h (inl g) =
    let start = byte_by_byte Event.Other xs in
    let one = piece Event.Other (b ∷ []) ∷ [] in
    let all = divides_on (inside_divides e xs (b ∷ more) h) (one_divides one (inl (bad_byte e b more Mode.Text (final_ends b more g.0)))) in
    (start ++ one, ap (pieces_of Event.Other) g.1 ∙ ap (λ (ps : List Piece). pieces_of Event.Other (27 ∷ 91 ∷ []) ++ ps) (by_byte_on Event.Other xs (b ∷ [])), rw (g.2, g.3) all)
goes_divides e xs (b ∷ more) text rest m h (inr g) =
    (byte_by_byte Event.Other xs, ap (pieces_of Event.Other) g.1, rw (g.2, g.3) (inside_divides e xs (b ∷ more) h))

wrong_divides : (e after : Events) (bytes text rest : List ℕ) → BeginsCsi bytes → IsLooked e bytes
    → IsWrong e.limit (before_stop e bytes) (from_stop e bytes) text rest after
    → Divides e bytes (pieces_of Event.Other text) rest after
wrong_divides e after bytes text rest begins l w =
    let over = before_stop e bytes in
    let behind = from_stop e bytes in
    let xs = drop 2 over in
    let form = over_shape e bytes begins in
    let g = goes_divides e xs behind text rest w.next (over_inside e bytes begins l) (subst (λ (x : List ℕ). GoesWrong x behind text rest w.next) form w.goes) in
    let whole : bytes ≡ 27 ∷ 91 ∷ (xs ++ behind) = sym (take-append-drop (stop e.looked bytes) bytes) ∙ ap (λ (x : List ℕ). x ++ behind) form in
    rw (g.1, w.on) (Then (inr (inr (record {
      stands = whole;
      within = met_within e bytes (looked_met e bytes l);
      why = w.why;
      told = refl;
      on = refl;
    }))) g.2)

-- ---- any event

pub record Goes (e : Events) (bytes : List ℕ) (ps : List Piece) (rest : List ℕ) (after : Events) : Type 0
  where
    pub divides : Divides e bytes ps rest after
    pub looked : IsLooked after rest

none_looked : (e after : Events) (m : Mode) (rest : List ℕ) → after ≡ onward e m 0 → IsLooked after rest
none_looked e after m rest on = inl (ap (λ (a : Events). a.looked) on)

pub told_goes : (x : Event) (e : Events) (bytes text rest : List ℕ) (list : List CsiParam) (after : Events)
    → IsLooked e bytes → IsTold x e bytes text rest list after
    → Goes e bytes (pieces_of x text) rest after
told_goes Event.Text e bytes text rest list after l h =
    record { divides = text_divides e bytes text rest after h; looked = none_looked e after h.span.next rest h.span.on }
told_goes (Event.Control b) e bytes text rest list after l h =
    let c = h.1 in
    let told : IsBy true e bytes b c.more (piece (Event.Control b) text ∷ []) rest after = (ap (λ (t : List ℕ). piece (Event.Control b) t ∷ []) c.none, c.stays, c.looked) in
    record {
      divides = one_divides (piece (Event.Control b) text ∷ []) (inr (inl (record {
        begins = h.0;
        b = b;
        more = c.more;
        stands = c.stands;
        short = c.short;
        told = subst (λ (t : Bool). IsBy t e bytes b c.more (piece (Event.Control b) text ∷ []) rest after) (sym c.control) told;
      })));
      looked = looked_control e after bytes rest b h.0 l (subst (λ (x : List ℕ). IsControl e.limit e.mode (before_stop e bytes) (from_stop e bytes) b bytes x rest after) c.none c);
    }
told_goes (Event.Csi final) e bytes text rest list after l h =
    let c = h.1 in
    let seq = subst (λ (t : List ℕ). Seq (without_controls t) list final) c.whole c.seq in
    let told : IsBy false e bytes c.last rest (piece (Event.Csi final) text ∷ []) rest after = (list, final, seq, ap (λ (t : List ℕ). piece (Event.Csi final) t ∷ []) c.whole, refl, c.closed) in
    let other = no_control e after bytes text rest rest list final c.last h.0 l c c.stands in
    record {
      divides = one_divides (piece (Event.Csi final) text ∷ []) (inr (inl (record {
        begins = h.0;
        b = c.last;
        more = rest;
        stands = c.stands;
        short = c.short;
        told = subst (λ (t : Bool). IsBy t e bytes c.last rest (piece (Event.Csi final) text ∷ []) rest after) (sym other) told;
      })));
      looked = none_looked e after Mode.Text rest c.closed;
    }
told_goes Event.Esc e bytes text rest list after l h =
    record { divides = esc_divides e bytes text rest after h; looked = none_looked e after h.next rest h.on }
told_goes Event.Str e bytes text rest list after l h = record {
  divides = span_divides e Kind.Str bytes text rest after refl (λ is. cc) (span_other e Kind.Str bytes text rest after (λ is. cc) (λ is. cc) h) h;
  looked = none_looked e after h.next rest h.on;
}
told_goes Event.Other e bytes text rest list after l (inl h) =
    record { divides = span_divides e Kind.Other bytes text rest after refl (λ is. cc) h.0 h.1; looked = none_looked e after h.1.next rest h.1.on }
told_goes Event.Other e bytes text rest list after l (inr h) =
    record { divides = wrong_divides e after bytes text rest h.0 l h.1; looked = none_looked e after h.1.next rest h.1.on }

pub all_go : (told : List Told) (e after : Events) (bytes rest : List ℕ) → IsLooked e bytes
    → AreTold e bytes told rest after → Goes e bytes (pieces told) rest after
all_go [] e after bytes rest l s = rw (s.0, s.1) (record { divides = Done; looked = l })
all_go (t ∷ told) e after bytes rest l s =
    let first = told_goes t.event e bytes t.bytes.now t.rest.now s.0 s.1 l s.2 in
    let others = all_go told s.1 after t.rest.now rest first.looked s.3 in
    record { divides = divides_on first.divides others.divides; looked = others.looked }
