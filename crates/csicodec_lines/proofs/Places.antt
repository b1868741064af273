-- A search for places, byte by byte, part by part and chunk by chunk; and each place that is told is one.
use Rattle.std.proofs.Common.{◌≡◌, ◌≢◌, ◌<◌, ◌≤◌, ◌+◌, ◌-◌, ℕ, Bool, true, false, List, [], ◌∷◌, ◌++◌, length, refl, sym, ap, ◌∙◌, append_assoc, append-nil, arith, suc, if◌then◌else◌, flat_map, subst, length-append, ◌==◌, take, drop, take-append-drop, nat_lt}
use Rattle.std.proofs.{lemmas.Bool.false≢true, lemmas.Bool.cond_both, lemmas.List.Concat.flat_map-append, lemmas.List.map-append, Math.Seq.take-append_seam}
use Rattle.csicodec_spans.specs.Parts.{Part, bytes_of, IsSpan, left_over, IsUnsure, part, Allows, AreFirstParts, IsWhole}
use Rattle.csicodec_spans.specs.{declared.table.Kind.Kind, Private.TableBy.look, Private.TableBy.meant, declared.table.Mode.Mode, Table.Answer, Table.More}
use Rattle.csicodec_spans.specs.{Table.Anew, Table.ahead}
use Rattle.csicodec_clean.specs.{Check.counted, Cleaned.is_text, Titles.read_as, Titles.title_open, Titles.with_titles, Titles.title_behind, Stream.IsFrontOf}
use Rattle.csicodec_clean.proofs.{Titles.titled, Titles.titles_on, Titles.open_on, Plain.all_both}
use Rattle.csicodec_lines.specs.Cuts.{Found, behind, behind_byte, each_byte, is_cut, line_of, Tells, first as start, AreCuts, IsPlace, first}
use Rattle.csicodec_lines.specs.{Private.Steps.FindsIn, Private.Steps.IsBegun, Private.Steps.Passes, Private.Steps.held, declared.search.CutSearch.CutSearch}
use Rattle.csicodec_lines.specs.{Private.Written.Appends, Private.Written.Since, Private.Written.open_at, Private.Written.with_more}
use Rattle.csicodec_spans.proofs.{Once.parts_more, Once.parts_join, Once.parts_on, Once.parts_front, Once.whole_once, Agrees.found, Agrees.sound, Agrees.Sound}
use Rattle.csicodec_spans.proofs.{Missed.part_some, Missed.fit, OneSpan.none_unsure}
use Rattle.csicodec_filter.specs.Filter.{Held}
use Rattle.csicodec_transform.specs.Transform.{Adds, EndsOf}
use Rattle.csicodec_filter.proofs.Shorter.{ahead_less}
use Rattle.csicodec_lines.proofs.Common.{nat_tests, AllByRecursion, longest, cuts, each_of, told, passed, Finds, Finder, GoesOn, Transforms}
use Rattle.csicodec_lines.proofs.Written.{since_none, since_on}

pub told_on : (xs ys : List ℕ) → told (xs ++ ys) ≡ told xs ++ told ys
told_on = flat_map-append (λ (n : ℕ). line_of (counted n))

-- ---- bytes

pub behind_on : (s : Found) (xs ys : List (Bool × ℕ)) → behind s (xs ++ ys) ≡ behind (behind s xs) ys
behind_on s [] ys = refl
behind_on s (x ∷ xs) ys = behind_on (behind_byte s x) xs ys

pub cuts_on : (s : Found) (xs ys : List (Bool × ℕ)) → cuts s (xs ++ ys) ≡ cuts s xs ++ cuts (behind s xs) ys
cuts_on s [] ys = refl
cuts_on s (x ∷ xs) ys =
    let own = if is_cut s x then suc s.at ∷ [] else [] in
    rw (cuts_on (behind_byte s x) xs ys) (sym (append_assoc own (cuts (behind_byte s x) xs) (cuts (behind s (x ∷ xs)) ys)))

pub of_both : (text : Bool) (xs ys : List ℕ) → each_of text (xs ++ ys) ≡ each_of text xs ++ each_of text ys
of_both text xs ys = map-append (λ (b : ℕ). (text, b)) xs ys

abbrev at : Found → ℕ → Found
at s n = record { every = s.every; last = s.last; at = n }

-- where none is text, or all is too near to the last place
near : (s : Found) (text : Bool) (b : ℕ) → (text ≡ true → suc s.at < s.last + s.every) → is_cut s (text, b) ≡ false
near s false b h = refl
near s true b h = let soon = h refl in grind (arith, nat_tests)

pub record Skipped (s : Found) (text : Bool) (bytes : List ℕ) : Type 0 where
  pub behind : behind s (each_of text bytes) ≡ passed (length bytes) s
  pub none : cuts s (each_of text bytes) ≡ []

pub skipped : (s : Found) (text : Bool) (bytes : List ℕ) → (text ≡ true → length bytes ≤ (s.last + s.every) - s.at - 1)
    → Skipped s text bytes
skipped s text [] h = record { behind = let e : s.at ≡ s.at + 0 = omega arith in ap (at s) e; none = refl }
skipped s text (b ∷ bytes) h =
    let no = near s text b (λ e. omega (arith, h e)) in
    let later = skipped (passed 1 s) text bytes (λ e. omega (arith, h e)) in
    let next : behind_byte s (text, b) ≡ passed 1 s = rw no (let e : suc s.at ≡ s.at + 1 = omega arith in ap (at s) e) in
    let all : (s.at + 1) + length bytes ≡ s.at + suc (length bytes) = omega arith in
    let own : (if is_cut s (text, b) then suc s.at ∷ [] else []) ≡ [] = rw no refl in
    record {
      behind = ap (λ (t : Found). behind t (each_of text bytes)) next ∙ later.behind ∙ ap (at s) all;
      none = ap (λ (l : List ℕ). l ++ cuts (behind_byte s (text, b)) (each_of text bytes)) own
          ∙ ap (λ (t : Found). cuts t (each_of text bytes)) next ∙ later.none;
    }

pub no_text : (s : Found) (bytes : List ℕ) → Skipped s false bytes
no_text s bytes = skipped s false bytes (λ e. absurd (false≢true e))

-- and what comes behind it
pub skip : (s : Found) (text front rest : List ℕ) → text ≡ front ++ rest → Skipped s true front
    → (behind (passed (length front) s) (each_of true rest) ≡ behind s (each_of true text))
    × (cuts (passed (length front) s) (each_of true rest) ≡ cuts s (each_of true text))
skip s text front rest whole h =
    let ahead = each_of true front in
    let later = each_of true rest in
    let all : each_of true text ≡ ahead ++ later = ap (each_of true) whole ∙ of_both true front rest in
    (rw (all, behind_on s ahead later, h.behind) refl, rw (all, cuts_on s ahead later, h.behind, h.none) refl)

-- a place, and those in the text behind it
pub one_told : (s : Found) (b : ℕ) (text line : List ℕ) → is_cut s (true, b) ≡ true → line ≡ line_of (counted (suc s.at))
    → line ++ told (cuts (behind_byte s (true, b)) (each_of true text)) ≡ told (cuts s (each_of true (b ∷ text)))
one_told s b text line cut e =
    let later = cuts (behind_byte s (true, b)) (each_of true text) in
    let own : (if is_cut s (true, b) then suc s.at ∷ [] else []) ≡ suc s.at ∷ [] = rw cut refl in
    ap (λ (l : List ℕ). l ++ told later) e ∙ sym (ap (λ (l : List ℕ). told (l ++ later)) own)

-- ---- parts

pub each_on : (t : Bool) (ps qs : List Part) → each_byte t (ps ++ qs) ≡ each_byte t ps ++ each_byte (title_open t ps) qs
each_on t ps qs = rw (titles_on t ps qs) (flat_map-append _ (with_titles t ps) (with_titles (title_open t ps) qs))

abbrev bytes_in : List Part → List (Bool × ℕ)
bytes_in ps = flat_map (λ (p : Part). each_of (is_text p.kind) p.bytes) ps

alike : (k : Kind) (ps : List Part) → AllByRecursion (λ (p : Part). p.kind ≡ k) ps → bytes_in ps ≡ each_of (is_text k) (flat_map bytes_of ps)
alike k [] h = refl
alike k (p ∷ ps) h = rw (h.0, alike k ps h.1, of_both (is_text k) p.bytes (flat_map bytes_of ps)) refl

-- the bytes of a span are those of its parts
one_span : (k : Kind) (bytes : List ℕ) (ps : List Part) → IsSpan k bytes ps → bytes_in ps ≡ each_of (is_text k) bytes
one_span Kind.Text bytes ps h = rw (← h.joined) (alike Kind.Text ps h.all)
one_span Kind.Str bytes ps h = rw (← h.joined) (alike Kind.Str ps h.all)
one_span Kind.Other bytes ps h = rw (← h.joined) (alike Kind.Other ps h.all)
one_span k bytes ps h = rw h (append-nil (each_of (is_text k) bytes))

pub spanned : (t : Bool) (k : Kind) (bytes : List ℕ) (ps : List Part) → IsSpan k bytes ps → each_byte t ps ≡ each_of (is_text (read_as k t)) bytes
spanned t k bytes ps h = one_span (read_as k t) bytes (with_titles t ps) (titled t k bytes ps h).span

-- what is no text
pub other_kind : (k : Kind) → k ≢ Kind.Text → is_text k ≡ false
other_kind Kind.Text other = absurd (other refl)
other_kind _ other = refl

-- ---- A search as it goes, part by part and chunk by chunk.

-- a span more
pub finds_span : (u : Bool) (mid new : CutSearch) (k : Kind) (span more : List ℕ) (ps : List Part) → IsSpan k span ps
    → FindsIn mid (each_of (is_text (read_as k u)) span) more new → GoesOn Finds (mid, u) ps more (new, title_behind u k span)
finds_span u mid new k span more ps is finds first before text (titles, found) =
    let t = first.1 in
    let old = each_byte t before in
    let own = each_of (is_text (read_as k u)) span in
    let whole : each_byte t (before ++ ps) ≡ old ++ own = rw (each_on t before ps, ← titles, spanned u k span ps is) refl in (
      rw (open_on t before ps, ← titles) (sym (titled u k span ps is).behind),
      λ s at.
          let (now, e) = found s at in
          let (last, f) = finds (behind s old) now in
          rw (whole, behind_on s old own, cuts_on s old own) (last, rw (e, f) (sym (told_on (cuts s old) (cuts (behind s old) own)))),
    )

-- a chunk more
pub takes : (old new : Finder) (chunk before after : List ℕ) → IsUnsure old.waiting.limit new.waiting.mode new.waiting.bytes
    → Appends Finds (with_more (held old) chunk) before after (held new) → Adds Passes old chunk before after new
takes old new chunk before after unsure x = (x.0, (λ first read text since. since_on Finds (held first) (held old) (held new) read chunk text before after since unsure x), x.2)

-- ---- the text of a whole stream

abbrev pub Quiet : EndsOf Finder
Quiet last text = text ≡ []

-- what is left at the end has no place
no_more : (t : Bool) (s : Found) (rest : List ℕ) → cuts s (each_byte t (left_over rest)) ≡ []
no_more t s [] = refl
no_more t s (b ∷ rest) = ap (cuts s) (append-nil (each_of false (b ∷ rest))) ∙ (no_text s (b ∷ rest)).none

pub sure_alone : (s : Found) (ps : List Part) (rest : List ℕ)
    → cuts s (each_byte false (ps ++ left_over rest)) ≡ cuts s (each_byte false ps)
sure_alone s ps rest =
    let front = each_byte false ps in
    let now = title_open false ps in
    rw (each_on false ps (left_over rest), cuts_on s front (each_byte now (left_over rest)), no_more now (behind s front) rest)
    (append-nil (cuts s front))

module _ (every : ℕ) (f : Finder) (is : IsBegun every f) where
  -- what passed, from the start
  since : (read text : List ℕ) (last : Finder) → Passes f read text last → Since Finds (open_at (f.search, false) longest Mode.Text []) read text (held last)
  since read text last p = subst (λ (h : Held (CutSearch × Bool)). Since Finds h read text (held last)) is.1 p

  -- nothing came yet
  pub begun : Passes f [] [] f
  begun = subst (λ (h : Held (CutSearch × Bool)). Since Finds h [] [] h) (sym is.1) (since_none Finds (f.search, false) longest (refl, λ s at. (at, refl)))

  pub of_all : (read text : List ℕ) (last : Finder) → Passes f read text last → Tells every read text
  of_all read text last p =
      let g = since read text last p in
      let rest = last.waiting.bytes in
      let s = start every in
      let all = g.parts ++ left_over rest in (
        cuts s (each_byte false all),
        record { parts = all; whole = record { sure = g.parts; rest = rest; after = last.waiting.mode; first = g.cut; unsure = g.unsure; whole = refl }; all = refl },
        (g.written.1 s is.0).1 ∙ ap told (sym (sure_alone s g.parts rest)),
      )

  pub tells : (bytes text : List ℕ) → Transforms Passes Quiet f bytes text → Tells every bytes text
  tells bytes text (last, sure, rest, p, none, split) = rw (split, none, append-nil sure) (of_all bytes sure last p)

  -- a stream has one text
  pub one_text : (bytes text other : List ℕ) → Tells every bytes text → Tells every bytes other → text ≡ other
  one_text bytes text other (xs, h, e) (ys, k, f) =
      let same = whole_once longest Mode.Text bytes h.parts k.parts h.whole k.whole in
      rw (e, f, h.all, k.all, same) refl

  -- and what was told before the end is a front of it
  pub front : (read more text : List ℕ) (last : Finder) → Passes f read text last → IsFrontOf (Tells every) (read ++ more) text
  front read more text last p whole (places, k, e) =
      let g = since read text last p in
      let w = k.whole in
      let s = start every in
      let ps = each_byte false g.parts in
      let (others, same) = parts_front longest g.parts w.sure Mode.Text (read ++ more)
      (last.waiting.bytes ++ more) w.rest last.waiting.mode w.after
      (parts_more longest g.parts Mode.Text read more last.waiting.bytes last.waiting.mode g.cut) w.first w.unsure in
      let qs = others ++ left_over w.rest in
      let parts : k.parts ≡ g.parts ++ qs = w.whole ∙ ap (λ (x : List Part). x ++ left_over w.rest) same ∙ append_assoc g.parts others (left_over w.rest) in
      let ends = each_byte (title_open false g.parts) qs in
      let later = cuts (behind s ps) ends in (
        told later,
        rw (e, k.all, parts, each_on false g.parts qs, cuts_on s ps ends)
            (told_on (cuts s ps) later ∙ ap (λ (t : List ℕ). t ++ told later) (sym (g.written.1 s is.0).1)),
      )

-- ---- What was cut up to a byte of text is cut so of fewer bytes too.

abbrev pub ends_in : List Part → ℕ → List Part
ends_in ps b = ps ++ part Kind.Text (b ∷ []) ∷ []

last_some : (ps : List Part) (b : ℕ) → 0 < length (flat_map bytes_of (ends_in ps b))
last_some [] b = omega arith
last_some (p ∷ ps) b = omega (arith, length-append p.bytes (flat_map bytes_of (ends_in ps b)), last_some ps b)

no_esc : (m : Mode) (b : ℕ) (rest : List ℕ) → (b == 27) ≡ false → meant m (look m (b ∷ rest)) ≡ meant m (look m (b ∷ []))
no_esc m b rest e = rw e refl

text_alone : (f : Answer) (limit : ℕ) (bytes : List ℕ) (b : ℕ) (a : Mode) → Allows f limit bytes Kind.Text (b ∷ []) a
    → Allows f limit (b ∷ []) Kind.Text (b ∷ []) a
text_alone (More k n c) limit bytes b a s = s
text_alone (Anew k n c) limit bytes b a s = s
text_alone _ limit bytes b a s = absurd s

pub parts_less : (limit : ℕ) (ps : List Part) (b : ℕ) (m : Mode) (bytes rest : List ℕ) (a : Mode) → 0 < limit → (b == 27) ≡ false
    → AreFirstParts limit m bytes (ends_in ps b) rest a
    → AreFirstParts limit m (flat_map bytes_of (ends_in ps b)) (ends_in ps b) [] a
parts_less limit [] b m bytes rest a l other (behind, mid, (e, s), last) =
    let same : ahead m bytes ≡ ahead m (b ∷ []) =
    ap (ahead m) e ∙ found m (b ∷ behind) (look m (b ∷ behind)) refl ∙ no_esc m b behind other ∙ sym (found m (b ∷ []) (look m (b ∷ [])) refl) in
    ([], mid, (refl, subst (λ (f : Answer). Allows f limit (b ∷ []) Kind.Text (b ∷ []) mid) same (text_alone (ahead m bytes) limit bytes b mid s)), (refl, last.1))
parts_less limit (p ∷ ps) b m bytes rest a l other (behind, mid, (e, s), later) =
    let x = flat_map bytes_of (ends_in ps b) in
    let whole = e ∙ ap (λ (t : List ℕ). p.bytes ++ t) (parts_join limit (ends_in ps b) mid behind rest a later) ∙ sym (append_assoc p.bytes x rest) in
    let one = ahead_less m p.bytes x rest limit p.kind mid (part_some limit m bytes p behind mid l (e, s)) (last_some ps b) (subst (λ (t : List ℕ). Allows (ahead m t) limit t p.kind p.bytes mid) whole s) in
    (x, mid, (refl, one), parts_less limit ps b mid behind rest a l other later)

-- ---- Each place that is told is one.

-- ---- how many bytes came

at_each : (s : Found) (text : Bool) (bytes : List ℕ) → (behind s (each_of text bytes)).at ≡ s.at + length bytes
at_each s text [] = omega arith
at_each s text (b ∷ bytes) = omega (arith, at_each (behind_byte s (text, b)) text bytes)

came : (s new : Found) (pre : List Part) (p : Part) → s.at ≡ length (flat_map bytes_of pre) → new.at ≡ s.at + length p.bytes
    → new.at ≡ length (flat_map bytes_of (pre ++ p ∷ []))
came s new pre p at now =
    let joined = ap length (flat_map-append bytes_of pre (p ∷ [])) in
    omega (arith, at, now, joined, length-append (flat_map bytes_of pre) (p.bytes ++ []), length-append p.bytes [])

-- ---- one place

split : (limit : ℕ) (ps qs : List Part) (m : Mode) (bytes rest : List ℕ) (a : Mode) → AreFirstParts limit m bytes (ps ++ qs) rest a
    → (mid : List ℕ) × (n : Mode) × AreFirstParts limit m bytes ps mid n × AreFirstParts limit n mid qs rest a
split limit [] qs m bytes rest a h = (bytes, m, (refl, refl), h)
split limit (p ∷ ps) qs m bytes rest a (behind, mid, one, later) =
    let (x, n, front, back) = split limit ps qs mid behind rest a later in
    (x, n, (behind, mid, one, front), back)

text_mode : (f : Answer) (m : Mode) (limit : ℕ) (bytes text : List ℕ) (a : Mode) → Sound m bytes f
    → Allows f limit bytes Kind.Text text a → a ≡ Mode.Text
text_mode (More k n b) m limit bytes text a h s = s.2 ∙ h.0.text (sym s.0)
text_mode (Anew k n b) m limit bytes text a h s = s.2 ∙ h.0.text (sym s.0)
text_mode _ m limit bytes text a h s = absurd s

cut_shown : (s : Found) (b : ℕ) → is_cut s (true, b) ≡ true → (nat_lt b 128 ≡ true) × ((b == 27) ≡ false)
cut_shown s b h = grind (arith, nat_tests)

byte_place : (bytes : List ℕ) (s : Found) (pre : List Part) (b : ℕ) (mid behind : List ℕ) (n a : Mode)
    → AreFirstParts longest Mode.Text bytes pre mid n → AreFirstParts longest n mid (part Kind.Text (b ∷ []) ∷ []) behind a
    → a ≡ Mode.Text
    → title_open false pre ≡ false → s.at ≡ length (flat_map bytes_of pre) → is_cut s (true, b) ≡ true → IsPlace bytes (suc s.at)
byte_place bytes s pre b mid behind n a front last text untitled at cut =
    let both = parts_on longest pre (part Kind.Text (b ∷ []) ∷ []) Mode.Text bytes mid behind n a front last in
    let all = flat_map bytes_of (ends_in pre b) in
    let long : suc s.at ≡ length all =
    omega (arith, at, ap length (flat_map-append bytes_of pre (part Kind.Text (b ∷ []) ∷ [])), length-append (flat_map bytes_of pre) (b ∷ [])) in
    let own : take (suc s.at) bytes ≡ all = rw (long, parts_join longest (ends_in pre b) Mode.Text bytes behind a both) (take-append_seam all behind) in
    let less = parts_less longest pre b Mode.Text bytes behind a (omega arith) (cut_shown s b cut).1 both in
    record {
      before = pre;
      byte = b;
      parts = rw own (rw text at less);
      untitled = untitled;
      ascii = (cut_shown s b cut).0;
    }

text_places : (bytes : List ℕ) (s : Found) (pre : List Part) (own mid behind : List ℕ) (n a : Mode)
    → AreFirstParts longest Mode.Text bytes pre mid n → AreFirstParts longest n mid (part Kind.Text own ∷ []) behind a
    → length own ≡ 1 → a ≡ Mode.Text → title_open false pre ≡ false → s.at ≡ length (flat_map bytes_of pre)
    → AllByRecursion (IsPlace bytes) (cuts s (each_of true own))
text_places bytes s pre [] mid behind n a front last one text untitled at = tt
text_places bytes s pre (b ∷ []) mid behind n a front last one text untitled at =
    cond_both (is_cut s (true, b)) (suc s.at ∷ []) [] (λ (ns : List ℕ). AllByRecursion (IsPlace bytes) (ns ++ []))
    (λ cut. (byte_place bytes s pre b mid behind n a front last text untitled at cut, tt)) (λ _. tt)
text_places bytes s pre (b ∷ c ∷ own) mid behind n a front last one text untitled at = absurd (omega (arith, one))

one_part : (bytes : List ℕ) (s : Found) (t : Bool) (k : Kind) (own : List ℕ) (pre ps : List Part) (rest : List ℕ) (a : Mode)
    → AreFirstParts longest Mode.Text bytes (pre ++ part k own ∷ ps) rest a → t ≡ title_open false pre
    → s.at ≡ length (flat_map bytes_of pre) → AllByRecursion (IsPlace bytes) (cuts s (each_of (is_text (read_as k t)) own))
one_part bytes s true Kind.Text own pre ps rest a parts titled at = rw (no_text s own).none tt
one_part bytes s false Kind.Text own pre ps rest a parts titled at =
    let (mid, n, front, (behind, b, (e, allowed), later)) = split longest pre (part Kind.Text own ∷ ps) Mode.Text bytes rest a parts in
    text_places bytes s pre own mid behind n b front (behind, b, (e, allowed), (refl, refl)) (fit longest n mid Kind.Text own behind b (e, allowed)).1
    (text_mode (ahead n mid) n longest mid own b (sound n mid) allowed) (sym titled) at
one_part bytes s _ _ own pre ps rest a parts titled at = rw (no_text s own).none tt

-- ---- all of them

within : (bytes : List ℕ) (s : Found) (t : Bool) (pre ps : List Part) (rest : List ℕ) (a : Mode)
    → AreFirstParts longest Mode.Text bytes (pre ++ ps) rest a → t ≡ title_open false pre → s.at ≡ length (flat_map bytes_of pre)
    → AllByRecursion (IsPlace bytes) (cuts s (each_byte t ps))
within bytes s t pre [] rest a parts titled at = tt
within bytes s t pre (p ∷ ps) rest a parts titled at =
    let k = read_as p.kind t in
    let own = each_of (is_text k) p.bytes in
    let next = behind s own in
    let u = title_behind t p.kind p.bytes in
    let titles : u ≡ title_open false (pre ++ p ∷ []) = rw (open_on false pre (p ∷ []), titled) refl in
    rw (cuts_on s own (each_byte u ps)) (all_both (IsPlace bytes) (cuts s own) (cuts next (each_byte u ps))
    (one_part bytes s t p.kind p.bytes pre ps rest a parts titled at)
    (within bytes next u (pre ++ p ∷ []) ps rest a (rw append_assoc parts) titles (came s next pre p at (at_each s (is_text k) p.bytes))))

pub all_places : (every : ℕ) (bytes places : List ℕ) → AreCuts every bytes places → AllByRecursion (IsPlace bytes) places
all_places every bytes places h =
    let w = h.whole in
    let s = first every in
    rw (h.all, w.whole, sure_alone s w.sure w.rest) (within bytes s false [] w.sure w.rest w.after w.first refl refl)

-- the parts of the pieces, joined, are those of the stream
pub pieces : (bytes : List ℕ) (at : ℕ) (front back : List Part) → IsPlace bytes at → IsWhole longest Mode.Text (take at bytes) front
    → IsWhole longest Mode.Text (drop at bytes) back
    → IsWhole longest Mode.Text bytes (front ++ back)
pieces bytes at front back p w v =
    let sure = ends_in p.before p.byte in
    let own : IsWhole longest Mode.Text (take at bytes) sure =
    record { sure = sure; rest = []; after = Mode.Text; first = p.parts; unsure = none_unsure longest Mode.Text; whole = rw append-nil refl } in
    let same : front ≡ sure = whole_once longest Mode.Text (take at bytes) front sure w own in
    let ahead = parts_more longest sure Mode.Text (take at bytes) (drop at bytes) [] Mode.Text p.parts in
    let both = parts_on longest sure v.sure Mode.Text (take at bytes ++ drop at bytes) (drop at bytes) v.rest Mode.Text v.after ahead v.first in
    rw same
    (record { sure = sure ++ v.sure; rest = v.rest; after = v.after; first = rw take-append-drop at both; unsure = v.unsure; whole = rw v.whole (sym (append_assoc sure v.sure (left_over v.rest))) })
