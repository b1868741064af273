-- Bytes that wait: the beginning of a control sequence, cut as one part once anything can be cut of it; and the spans of a whole run.
use Rattle.std.proofs.Common.{Option, Some, None, MatchOption, ◌≡◌, ℕ, ◌+◌, ◌-◌, ◌*◌, ◌<◌, ◌≤◌, List, [], ◌∷◌, ◌++◌, length, drop, refl, sym, ap, subst, ◌∙◌, inl, inr, append_assoc, arith, length-append, flat_map}
use Rattle.std.proofs.{Math.Seq.take-append_seam, lemmas.Bool.cases_lt}
use Rattle.std.specs.{List.concat, List.AllByRecursion, Iterator.Drains, Iterator.Yields}
use Rattle.csicodec_tokens.specs.{Body.Adds, Body.IsStopped, Body.Stops, Fault.IsBody, Fault.Begins}
use Rattle.csicodec_tokens.proofs.{Beginnings.cuts, Walks.IsBody-front, Walks.none_begun, Reading.is_begun}
use Rattle.csicodec_spans.specs.Parts.{Part, AllowsCsi, Allows, IsFirstPart, AreFirstParts, IsUnsureBy, IsUnsure, part, bytes_of, left_over, AreAll, IsSpan, IsWhole, Cuts, IsMore, IsMaximal}
use Rattle.csicodec_spans.specs.{declared.cut.Span.Span, declared.table.Kind.Kind, declared.table.Mode.Mode, Table.Answer, Table.Sequence, Table.Undecided}
use Rattle.csicodec_spans.specs.{Table.ahead, Waits.AreCut, Waits.IsCut, Waits.HandsOut, Waits.cut_looks, Waits.looks_in, Private.Begun.Tells}
use Rattle.csicodec_spans.specs.{Private.Begun.IsBegun, declared.table.Ahead.TheVariants.Unsure, Iteration.Left, Iteration.Gives, Iteration.AreSpans}
use Rattle.csicodec_spans.specs.{Iteration.BeginsAs, Iteration.IsNoMoreText, Iteration.AreMaximal}
use Rattle.csicodec_spans.proofs.Once.{no_later, not_begun, wrong_at, parts_on, unsure_stops, one_alone, one_farther}
use Rattle.csicodec_spans.proofs.{Agrees.Sound, Agrees.opens, Agrees.sound, Agrees.found, Agrees.text_goes_on, OneSpan.none_unsure, Missed.cut_parts}
use Rattle.csicodec_spans.proofs.{Missed.cut_some, Missed.IsAnew, Missed.told_part, Missed.one_span, Missed.span_all}

-- ---- bytes of which nothing is sure

-- behind ESC and `[` stands a body, and there are fewer bytes than `limit`
pub unsure_body : (limit : ℕ) (m : Mode) (body : List ℕ) → IsUnsure limit m (27 ∷ 91 ∷ body) → IsBody body × (length body + 2 < limit)
unsure_body limit m body o =
    let b = subst (λ (f : Answer). IsUnsureBy f limit (27 ∷ 91 ∷ body)) (opens m body) o in
    (is_begun body b.0, omega (arith, b.1))

pub body_unsure : (limit : ℕ) (m : Mode) (body : List ℕ) → IsBody body → length body + 2 < limit → IsUnsure limit m (27 ∷ 91 ∷ body)
body_unsure limit m body b lt = subst (λ (f : Answer). IsUnsureBy f limit (27 ∷ 91 ∷ body)) (sym (opens m body)) (inr (inr (body, refl, b)), omega arith)

-- ---- some bytes more

pub stops : (first : ℕ) (bytes rest : List ℕ) → IsStopped first bytes rest → Stops first bytes
stops first bytes rest s = record {
  none = λ body at is.
      let front = s.done ++ s.byte ∷ [] in
      let whole : body ++ bytes ≡ (body ++ front) ++ s.others =
      ap (λ (t : List ℕ). body ++ t) (s.parts ∙ ap (λ (t : List ℕ). s.done ++ t) s.front ∙ sym (append_assoc s.done (s.byte ∷ []) s.others)) ∙ sym (append_assoc body front s.others) in
      s.stops.none body at (IsBody-front (body ++ front) s.others (subst IsBody whole is));
}

-- ---- a beginning

begun_by : (f : Answer) (limit : ℕ) (m : Mode) (bytes : List ℕ) → 3 ≤ length bytes → Sound m bytes f → IsUnsureBy f limit bytes
    → Begins bytes × (length bytes < limit) × (body : List ℕ) × (bytes ≡ 27 ∷ 91 ∷ body)
begun_by Sequence limit m bytes some h o = (o.0, o.1, h.0, h.1)
begun_by Undecided limit m bytes some h o = absurd (omega (arith, h.0))
begun_by _ limit m bytes some h o = absurd o

begun_step : (r : Option ℕ) (limit : ℕ) (m : Mode) (body : List ℕ) → MatchOption r (Stops 0 body) (Adds 0 body) → IsUnsure limit m (27 ∷ 91 ∷ body) → IsBegun (27 ∷ 91 ∷ body) r
begun_step None limit m body h o = absurd (h.none [] none_begun (unsure_body limit m body o).0)
begun_step (Some n) limit m body h o = (body, refl, h.on [] none_begun)

pub few_begun : (bytes : List ℕ) → length bytes < 3 → (limit : ℕ) (m : Mode) → IsUnsure limit m bytes → IsBegun bytes None
few_begun bytes few limit m o = few

pub long_begun : (r : Option ℕ) (bytes rest : List ℕ) → 3 ≤ length bytes → rest ≡ drop 2 bytes →
    MatchOption r (Stops 0 rest) (Adds 0 rest) → (limit : ℕ) (m : Mode) → IsUnsure limit m bytes →
    IsBegun bytes r
long_begun r bytes rest some behind h limit m o =
    let (begins, low, body, parts) = begun_by (ahead m bytes) limit m bytes some (sound m bytes) o in
    let same : rest ≡ body = behind ∙ ap (drop 2) parts in
    rw parts (begun_step r limit m body (subst (λ (t : List ℕ). MatchOption r (Stops 0 t) (Adds 0 t)) same h) (subst (IsUnsure limit m) parts o))

-- they wait too
pub waits_on : (number r : Option ℕ) (limit last : ℕ) (m : Mode) (waiting bytes : List ℕ) →
    IsBegun waiting number → MatchOption number (r ≡ None)
    (Tells (limit - length waiting) bytes r) → r ≡ Some last
    → IsUnsure limit m (waiting ++ bytes) × IsBegun (waiting ++ bytes) (Some last)
waits_on None r limit last m waiting bytes begun tells is = absurd cc
waits_on (Some n) r limit last m waiting bytes (body, parts, e) tells is =
    let (fits, adds) = subst (λ (x : Option ℕ). Tells (limit - length waiting) bytes x n) is tells in
    let longer = adds.on body e in
    let whole : waiting ++ bytes ≡ 27 ∷ 91 ∷ (body ++ bytes) = ap (λ (t : List ℕ). t ++ bytes) parts in
    (rw whole (body_unsure limit m (body ++ bytes) longer.is (omega (arith, fits, ap length parts, length-append body bytes))), (body ++ bytes, whole, longer))

-- something can be cut of them, or two bytes at most waited
pub waits_once : (number r : Option ℕ) (limit : ℕ) (m : Mode) (waiting bytes : List ℕ) →
    IsBegun waiting number → MatchOption number (r ≡ None)
    (Tells (limit - length waiting) bytes r) → r ≡ None → IsUnsure limit m (waiting ++ bytes)
    → length waiting < 3
waits_once None r limit m waiting bytes begun tells is o = begun
waits_once (Some n) r limit m waiting bytes (body, parts, e) tells is o =
    let whole : waiting ++ bytes ≡ 27 ∷ 91 ∷ (body ++ bytes) = ap (λ (t : List ℕ). t ++ bytes) parts in
    let (goes, fits) = unsure_body limit m (body ++ bytes) (subst (IsUnsure limit m) whole o) in
    let stops = subst (λ (x : Option ℕ). Tells (limit - length waiting) bytes x n) is tells in
    absurd ((stops (omega (arith, fits, ap length parts, length-append body bytes))).none body e goes)

-- ---- how often they are looked at

csi_long : (limit : ℕ) (waiting more text rest : List ℕ) (k : Kind) (a : Mode) → Begins waiting →
    length waiting < limit → waiting ++ more ≡ text ++ rest →
    AllowsCsi limit (waiting ++ more) k text a → length waiting ≤ length text
csi_long limit waiting more text rest Kind.Csi a b lt e h = elim (cuts waiting text more rest e) [
  | inl k ↦ absurd (not_begun text k.0 h.0 (subst Begins k.1 b))
  | inr k ↦ omega (arith, ap length k.2, length-append waiting (k.0 ∷ k.1))
]
csi_long limit waiting more text rest Kind.Other a b lt e h =
    no_later limit (waiting ++ more) (length text) (length waiting) (wrong_at limit (waiting ++ more) (length text) h.0) (omega (arith, lt))
    (subst Begins (sym (take-append_seam waiting more)) b)
csi_long limit waiting more text rest _ a b lt e h = absurd h

-- the first part has all of what waited
part_long : (limit : ℕ) (m : Mode) (waiting more rest : List ℕ) (p : Part) (a : Mode) →
    3 ≤ length waiting → IsUnsure limit m waiting → IsFirstPart limit m (waiting ++ more) p rest a →
    length waiting ≤ length p.bytes
part_long limit m waiting more rest p a some o h =
    let (begins, low, body, e) = begun_by (ahead m waiting) limit m waiting some (sound m waiting) o in
    let csi : ahead m (waiting ++ more) ≡ Sequence = ap (λ (t : List ℕ). ahead m (t ++ more)) e ∙ opens m (body ++ more) in
    csi_long limit waiting more p.bytes rest p.kind a begins low h.0 (subst (λ (f : Answer). Allows f limit (waiting ++ more) p.kind p.bytes a) csi h.1)

-- what is left is no longer than the bytes
parts_short : (limit : ℕ) (ps : List Part) (m : Mode) (bytes rest : List ℕ) (a : Mode) → AreFirstParts limit m bytes ps rest a → length rest ≤ length bytes
parts_short limit [] m bytes rest a h = omega (arith, ap length h.0)
parts_short limit (p ∷ ps) m bytes rest a h = omega (arith, parts_short limit ps h.1 h.0 rest a h.3, ap length h.2.0, length-append p.bytes h.0)

-- what waits again came last
none_again : (limit : ℕ) (ps : List Part) (m : Mode) (waiting more rest : List ℕ) (a : Mode) →
    3 ≤ length waiting → IsUnsure limit m waiting → (IsUnsure limit m (waiting ++ more) → ⊥) →
    IsUnsure limit a rest
    → AreFirstParts limit m (waiting ++ more) ps rest a → length rest ≤ length more
none_again limit [] m waiting more rest a some o sure left h = absurd (sure (rw (sym h.0, sym h.1) left))
none_again limit (p ∷ ps) m waiting more rest a some o sure left h =
    omega (arith, parts_short limit ps h.1 h.0 rest a h.3, part_long limit m waiting more h.0 p h.1 some o h.2, ap length h.2.0, length-append p.bytes h.0, length-append waiting more)

cut_short : (limit : ℕ) (m a : Mode) (waiting more rest : List ℕ) → IsUnsure limit m waiting →
    IsUnsure limit a rest → IsCut limit m waiting more rest a →
    length rest + length waiting ≤ length waiting + length more + 2
cut_short limit m a waiting more rest o left c = elim (cases_lt (length waiting) 3) [
  | inl few ↦ omega (arith, parts_short limit c.parts m (waiting ++ more) rest a c.first, length-append waiting more)
  | inr some ↦ omega (arith, none_again limit c.parts m waiting more rest a some o (λ u. omega (arith, some, c.once u)) left c.first)
]

counted : (limit again : ℕ) (chunks : List (List ℕ)) (m : Mode) (waiting : List ℕ) → IsUnsure limit m waiting → (h : HandsOut limit m waiting chunks again)
    → (again ≤ length waiting + (length (concat chunks) + 2 * length chunks))
    × (looks_in limit m waiting chunks again h ≤ length waiting + (3 * length (concat chunks) + 6 * length chunks))
counted limit again [] m waiting o h = (omega (arith, h), omega arith)
counted limit again (chunk ∷ chunks) m waiting o (rest, after, later, left, more, inl (waits, same)) =
    let (few, seen) = counted limit later chunks after rest left more in
    let all = ap length waits.0 in (
      omega (arith, same, few, all, length-append waiting chunk, length-append chunk (concat chunks)),
      omega (arith, seen, all, length-append waiting chunk, length-append chunk (concat chunks)),
    )
counted limit again (chunk ∷ chunks) m waiting o (rest, after, later, left, more, inr (cut, same)) =
    let (few, seen) = counted limit later chunks after rest left more in
    let short = cut_short limit m after waiting chunk rest o left cut in
    (omega (arith, same, few, short, length-append chunk (concat chunks)), omega (arith, seen, short, length-append chunk (concat chunks)))

pub handed_once : (limit again : ℕ) (m : Mode) (chunks : List (List ℕ)) → HandsOut limit m [] chunks again → again ≤ length (concat chunks) + 2 * length chunks
handed_once limit again m chunks h = omega (arith, (counted limit again chunks m [] (none_unsure limit m) h).0)

pub looked_few : (limit again : ℕ) (m : Mode) (chunks : List (List ℕ)) → (h : HandsOut limit m [] chunks again) → looks_in limit m [] chunks again h ≤ 3 * length (concat chunks) + 6 * length chunks
looked_few limit again m chunks h = omega (arith, (counted limit again chunks m [] (none_unsure limit m) h).1)

-- each span has a byte
pub cut_few : (limit : ℕ) (spans : List Span) (m : Mode) (bytes rest : List ℕ) (after : Mode)
    → 0 < limit → AreCut limit m bytes spans rest after
    → cut_looks spans rest ≤ 12 * length bytes + 3
cut_few limit [] m bytes rest after some h = omega (arith, ap length h.0)
cut_few limit (s ∷ spans) m bytes rest after some (behind, mid, cut, others) =
    omega (
      arith,
      cut_few limit spans mid behind rest after some others,
      cut_some limit m bytes s.kind s.bytes.now behind mid some cut,
      ap length (cut_parts limit m bytes s.kind s.bytes.now behind mid cut),
      length-append s.bytes.now behind,
    )

-- ---- The spans of a whole run: whose parts they are, and that they are as long as they can be.

pub none_left : (limit : ℕ) (m : Mode) → IsWhole limit m [] []
none_left limit m = record { sure = []; rest = []; after = m; first = (refl, refl); unsure = none_unsure limit m; whole = refl }

pub more_whole : (limit : ℕ) (m n : Mode) (bytes mid : List ℕ) (front parts : List Part) → AreFirstParts limit m bytes front mid n → IsWhole limit n mid parts → IsWhole limit m bytes (front ++ parts)
more_whole limit m n bytes mid front parts s w = record {
  sure = front ++ w.sure;
  rest = w.rest;
  after = w.after;
  first = parts_on limit front w.sure m bytes mid w.rest n w.after s w.first;
  unsure = w.unsure;
  whole = ap (λ (x : List Part). front ++ x) w.whole ∙ sym (append_assoc front w.sure (left_over w.rest));
}

left_is : (bytes : List ℕ) → 0 < length bytes → left_over bytes ≡ part Kind.Other bytes ∷ []
left_is [] some = absurd (omega arith)
left_is (b ∷ bytes) some = refl

-- no span where nothing is left
spent : (left after : Left) (s : Span) → left.bytes ≡ [] → Gives left (Some s) after → ⊥
spent left after s none (same, inr last) = omega (arith, ap length none, last.some)
spent left after s none (same, inl next) = by next.cut.parts (span_all s.kind s.bytes.now next.cut.parts next.cut.span).some next.cut.first
  where
    by : (ps : List Part) → 0 < length ps → AreFirstParts left.limit left.mode left.bytes ps after.bytes after.mode → ⊥
    by [] some h = absurd (omega arith)
    by (p ∷ ps) some h = unsure_stops left.limit left.mode left.bytes p h.0 h.1 (rw none (none_unsure left.limit left.mode)) h.2

-- the spans of what is left, behind the parts before it
parts_of : (spans : List Span) (start left last u : Left) (before : List Part) → left.limit ≡ start.limit →
    AreFirstParts start.limit start.mode start.bytes before left.bytes left.mode → Yields Gives left spans last → Gives last None u
    → (parts : List Part) × IsWhole left.limit left.mode left.bytes parts × AreSpans start before spans parts
parts_of [] start left last u before same h y g =
    let e : left.bytes ≡ [] = ap (λ (l : Left). l.bytes) y ∙ g.0 in
    ([], rw e (none_left left.limit left.mode), refl)
parts_of (s ∷ spans) start left last u before same h (after, (limits, inl next), others) g =
    let front = next.cut.parts in
    let first = parts_on start.limit before front start.mode start.bytes left.bytes after.bytes left.mode after.mode h (rw same at next.cut.first) in
    let (parts, whole, are) = parts_of spans start after last u (before ++ front) (limits ∙ same) first others g in
    let all = more_whole left.limit left.mode after.mode left.bytes after.bytes front parts next.cut.first (subst (λ (l : ℕ). IsWhole l after.mode after.bytes parts) limits whole) in
    let one = one_farther start.limit start.mode left.mode start.bytes left.bytes before front h (rw same at next.cut.one) in
    (front ++ parts, all, (front, parts, refl, next.cut.span, one, are))
parts_of (s ∷ []) start left last u before same h (after, (limits, inr end), others) g =
    let only = part Kind.Other s.bytes.now in
    let e : only ∷ [] ≡ left_over left.bytes = rw end.text (sym (left_is left.bytes end.some)) in
    let whole : IsWhole left.limit left.mode left.bytes (only ∷ []) = record { sure = []; rest = left.bytes; after = left.mode; first = (refl, refl); unsure = end.unsure; whole = e } in
    let span = subst (λ (k : Kind). IsSpan k s.bytes.now (only ∷ [])) (sym end.kind) (one_span Kind.Other s.bytes.now) in
    (only ∷ [], whole, (only ∷ [], [], refl, span, one_alone start.limit start.mode start.bytes before only, refl))
parts_of (s ∷ t ∷ spans) start left last u before same h (after, (limits, inr end), (next, more, others)) g = absurd (spent after next t end.none more)

pub drained : (left : Left) (spans : List Span) → Drains Gives left spans
    → (parts : List Part) × IsWhole left.limit left.mode left.bytes parts × AreSpans left [] spans parts
drained left spans (u, (last, y, g)) = parts_of spans left left last u [] refl (refl, refl) y g

-- ---- they are as long as they can be

-- a front begins as all of it does
begins_longer : (k : Kind) (text more : List ℕ) → BeginsAs k text → BeginsAs k (text ++ more)
begins_longer Kind.Text text more (b, t, e, other) = (b, t ++ more, ap (λ (x : List ℕ). x ++ more) e, other)
begins_longer Kind.Str text more (b, t, e, opener) = (b, t ++ more, ap (λ (x : List ℕ). x ++ more) e, opener)
begins_longer _ text more h = (h.0 ++ more, ap (λ (x : List ℕ). x ++ more) h.1)

cut_begins : (limit : ℕ) (m : Mode) (bytes text rest : List ℕ) (k : Kind) (a : Mode) → 0 < limit → IsAnew m (ahead m bytes) → Cuts limit m bytes k text rest a → BeginsAs k text
cut_begins limit m bytes text rest k a l anew c = by c.parts (span_all k text c.parts c.span) c.first
  where
    by : (ps : List Part) → AreAll k text ps → AreFirstParts limit m bytes ps rest a → BeginsAs k text
    by [] h s = absurd (omega (arith, h.some))
    by (p ∷ ps) h s =
        let first = subst (λ (x : Kind). BeginsAs x p.bytes) h.all.0 ((told_part limit m bytes p s.0 s.1 s.2).begins l anew) in
        subst (BeginsAs k) h.joined (begins_longer k p.bytes (flat_map bytes_of ps) first)

-- ---- text leaves the mode of text

parts_text : (limit : ℕ) (ps : List Part) (m : Mode) (bytes rest : List ℕ) (a : Mode) →
    0 < length ps → AllByRecursion (λ (p : Part). p.kind ≡ Kind.Text) ps →
    AreFirstParts limit m bytes ps rest a → a ≡ Mode.Text
parts_text limit [] m bytes rest a some h s = absurd (omega arith)
parts_text limit (p ∷ []) m bytes rest a some h s = s.3.1 ∙ (told_part limit m bytes p s.0 s.1 s.2).plain h.0
parts_text limit (p ∷ q ∷ ps) m bytes rest a some h s = parts_text limit (q ∷ ps) s.1 s.0 rest a (omega arith) h.1 s.3

-- ---- no text behind text

-- another span than text, where text doesn't go on
none_behind : (limit : ℕ) (m a : Mode) (bytes text rest : List ℕ) → 0 < limit → m ≡ Mode.Text → ¬ IsMore (ahead m bytes) → Cuts limit m bytes Kind.Text text rest a → ⊥
none_behind limit m a bytes text rest l is none c =
    let (b, more, e, other) = cut_begins limit m bytes text rest Kind.Text a l (inr none) c in
    let split : bytes ≡ b ∷ (more ++ rest) = cut_parts limit m bytes Kind.Text text rest a c ∙ ap (λ (x : List ℕ). x ++ rest) e in
    none (rw (is, split, text_goes_on b (more ++ rest) other) tt)

apart : (left mid after : Left) (s t : Span) → 0 < left.limit → s.kind ≡ Kind.Text → t.kind ≡ Kind.Text → Gives left (Some s) mid → Gives mid (Some t) after → ⊥
apart left mid after s t l e f (same, inl next) (same2, inl more) =
    let all = span_all s.kind s.bytes.now next.cut.parts next.cut.span in
    let here = subst (λ (k : Kind). Cuts mid.limit mid.mode mid.bytes k t.bytes.now after.bytes after.mode) f more.cut in
    let text = parts_text left.limit next.cut.parts left.mode left.bytes mid.bytes mid.mode all.some (rw e at all.all) next.cut.first in
    none_behind mid.limit mid.mode after.mode mid.bytes t.bytes.now after.bytes (rw same l) text (next.maximal (inl e)) here
apart left mid after s t l e f (same, inl next) (same2, inr end) = let other = end.kind in absurd cc
apart left mid after s t l e f (same, inr end) g = let other = end.kind in absurd cc

no_more : (left after : Left) (s : Span) (spans : List Span) (last : Left) → 0 < left.limit → Gives left (Some s) after → Yields Gives after spans last → IsNoMoreText s.kind spans
no_more left after s [] last l g y = tt
no_more left after s (t ∷ spans) last l g y = λ e f. apart left after y.0 s t l e f g y.1

-- ---- all of them

anew_behind : (k : Kind) (a : Mode) (rest : List ℕ) → IsMaximal k a rest → IsAnew a (ahead a rest)
anew_behind k Mode.Text rest h = inl refl
anew_behind k _ rest h = inr (h (inr (λ i. absurd cc)))

unsure_begins : (f : Answer) (limit : ℕ) (m : Mode) (bytes : List ℕ) → 0 < length bytes → Sound m bytes f → IsUnsureBy f limit bytes → BeginsAs Kind.Other bytes
unsure_begins Sequence limit m bytes some h u = (91 ∷ h.0, h.1)
unsure_begins Undecided limit m bytes some (short, inl e) u = absurd (omega (arith, ap length e))
unsure_begins Undecided limit m bytes some (short, inr h) u = h
unsure_begins _ limit m bytes some h u = absurd u

begins : (left after : Left) (s : Span) → 0 < left.limit → IsAnew left.mode (ahead left.mode left.bytes) → Gives left (Some s) after → BeginsAs s.kind s.bytes.now
begins left after s l anew (same, inl next) = cut_begins left.limit left.mode left.bytes s.bytes.now after.bytes s.kind after.mode l anew next.cut
begins left after s l anew (same, inr last) =
    let h = unsure_begins (ahead left.mode left.bytes) left.limit left.mode left.bytes last.some (sound left.mode left.bytes) last.unsure in
    rw (last.kind, last.text) h

behind : (left after : Left) (s : Span) → Gives left (Some s) after → IsAnew after.mode (ahead after.mode after.bytes)
behind left after s (same, inl next) = anew_behind s.kind after.mode after.bytes next.maximal
behind left after s (same, inr last) = inr (λ more. subst IsMore (ap (ahead after.mode) last.none ∙ found after.mode [] Unsure refl) more)

pub maximal : (spans : List Span) (left last : Left) → 0 < left.limit → IsAnew left.mode (ahead left.mode left.bytes) → Yields Gives left spans last → AreMaximal spans
maximal [] left last l anew y = tt
maximal (s ∷ spans) left last l anew (after, g, others) =
    (begins left after s l anew g, no_more left after s spans last l g others, maximal spans after last (rw g.0 l) (behind left after s g) others)
