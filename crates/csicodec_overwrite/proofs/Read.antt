-- The steps of characters, of actions and of what else comes, one behind the other.
use Rattle.csicodec_overwrite.proofs.Common.{◌≡◌, ℕ, List, [], ◌∷◌, ◌++◌, length, ap, ◌∙◌, append_assoc, append-nil, flat_map, Bool, refl, sym, subst, arith, None, nil_from_length, flat_map-append, lossy_chars, IsRead, Step, AllByRecursion, Kind, Part, parts_more, none_unsure, longest, as_read, as_read_on, read_behind, read_on, passed, span_read, Reading, Sets, drawn_text, IsBare, none_in, lossy_chars-nil, read_more, read_none, of_char, of_chars, of_run, by_escape, of_escape, of_sequence, of_string, of_wrong, Goes, Held, Reads, none_held, AreOfParts, IsOfPart, Steps, GoesTo, IsGiven, part, AreFirstParts, parts_on}
use Rattle.bstr.specs.Utf8.{replacement}
use Rattle.csicodec_clean.proofs.Plain.{read_all}
use Rattle.csicodec_clean.specs.{Sets.drawn, Titles.read_as}
use Rattle.csicodec_spans.specs.{declared.table.Mode.Mode, Parts.bytes_of, Parts.AreAll, Parts.IsSpan, Parts.Cuts, Parts.IsUnsure}

pub chars_on : (xs ys : List ℕ) → of_chars (xs ++ ys) ≡ of_chars xs ++ of_chars ys
chars_on xs ys = flat_map-append of_char xs ys

pub run_none : of_run [] ≡ []
run_none = ap of_chars lossy_chars-nil

-- a run, of which some was read
pub run_read : (run chars rest : List ℕ) → IsRead run chars rest → of_run run ≡ of_chars chars ++ of_run rest
run_read run chars rest h = ap of_chars (read_all run chars rest h) ∙ chars_on chars (lossy_chars rest)

-- ---- appended

-- what one more does, behind what those before it do
pub one_on : {A : Type 0} (does : A → List Step) (x : A) (front : List A) (old now new : List Step) → now ≡ old ++ flat_map does front → new ≡ now ++ does x
    → new ≡ old ++ flat_map does (front ++ x ∷ [])
one_on does x front old now new e f = rw (f, e, append_assoc, flat_map-append does front (x ∷ []), append-nil (does x))

-- a run that is over, of which all was read
pub run_all : (run chars rest : List ℕ) (old new : List Step) → IsRead run chars rest → length rest ≡ 0 → new ≡ old ++ of_chars chars → new ≡ old ++ of_run run
run_all run chars rest old new h none e = rw (e, run_read run chars rest h, nil_from_length rest none, run_none, append-nil (of_chars chars))

-- or all but a piece that is no character
pub run_cut : (run chars rest : List ℕ) (old now new : List Step) → IsRead run chars rest → lossy_chars rest ≡ replacement ∷ []
    → now ≡ old ++ of_chars chars → new ≡ now ++ of_char replacement → new ≡ old ++ of_run run
run_cut run chars rest old now new h cut e f =
    rw (run_read run chars rest h, cut) (one_on of_char replacement chars old now new e f
    ∙ ap (λ (t : List Step). old ++ t) (chars_on chars (replacement ∷ [])))

-- ---- The parts of a stream, span by span, and the steps that came for them.

-- ---- parts

pub parts_then : (ps qs : List Part) (run between left : List ℕ) (t u : List Step) → AreOfParts run ps t between → AreOfParts between qs u left → AreOfParts run (ps ++ qs) (t ++ u) left
parts_then [] qs run between left t u h k = rw (h.0, ← h.1) k
parts_then (p ∷ ps) qs run between left t u h k =
    (h.0, h.1, h.2 ++ u, h.3, ap (λ (x : List Step). x ++ u) h.4 ∙ append_assoc h.0 h.2 u, parts_then ps qs h.1 between left h.2 u h.5 k)

texts : (ps : List Part) (run : List ℕ) → AllByRecursion (λ (p : Part). p.kind ≡ Kind.Text) ps → AreOfParts run ps [] (run ++ flat_map bytes_of ps)
texts [] run h = (refl, append-nil run)
texts (p ∷ ps) run h =
    ([], run ++ p.bytes, [], rw h.0 (refl, refl), refl, rw (← append_assoc run p.bytes (flat_map bytes_of ps)) (texts ps (run ++ p.bytes) h.1))

-- parts of a kind of which each byte does something by itself
module _ (k : Kind) (of_byte : ℕ → List Step) (ends : (run bytes : List ℕ) → IsOfPart k run bytes (of_run run ++ flat_map of_byte bytes) []) where
  others_by : (ps : List Part) → AllByRecursion (λ (p : Part). p.kind ≡ k) ps → AreOfParts [] ps (flat_map of_byte (flat_map bytes_of ps)) []
  others_by [] h = (refl, refl)
  others_by (p ∷ ps) h =
      let own = flat_map of_byte p.bytes in
      let others = flat_map bytes_of ps in
      let step : IsOfPart p.kind [] p.bytes own [] = rw h.0 (rw run_none at (ends [] p.bytes)) in
      (own, [], flat_map of_byte others, step, flat_map-append of_byte p.bytes others, others_by ps h.1)

  by_bytes : (bytes : List ℕ) (ps : List Part) (run : List ℕ) → AreAll k bytes ps → AreOfParts run ps (of_run run ++ flat_map of_byte bytes) []
  by_bytes bytes [] run h = absurd (omega (arith, h.some))
  by_bytes bytes (p ∷ ps) run h =
      let own = flat_map of_byte p.bytes in
      let others = flat_map bytes_of ps in
      let step : IsOfPart p.kind run p.bytes (of_run run ++ own) [] = rw h.all.0 (ends run p.bytes) in
      let whole : of_run run ++ flat_map of_byte bytes ≡ (of_run run ++ own) ++ flat_map of_byte others =
      rw (← h.joined, flat_map-append of_byte p.bytes others) (sym (append_assoc (of_run run) own (flat_map of_byte others))) in
      (of_run run ++ own, [], flat_map of_byte others, step, whole, others_by ps h.all.1)

only : (k : Kind) (bytes : List ℕ) (steps : List Step) (ps : List Part) (run : List ℕ) → ps ≡ part k bytes ∷ [] → IsOfPart k run bytes steps [] → AreOfParts run ps steps []
only k bytes steps ps run e h = rw e (steps, [], [], h, sym (append-nil steps), (refl, refl))

-- ---- a span

record Spanned (run chars : List ℕ) (ps : List Part) (more : List Step) (held : List ℕ) : Type 0 where
  before : List Step
  left : List ℕ
  read : List ℕ
  are : AreOfParts run ps before left
  is_read : IsRead left read held
  same : of_chars chars ++ more ≡ before ++ of_chars read

-- one that ends the run
ended : (run chars held : List ℕ) (ps : List Part) (own more : List Step) (left : List ℕ) → IsRead run chars held → more ≡ of_run held ++ own → left ≡ []
    → AreOfParts run ps (of_run run ++ own) [] → Spanned run chars ps more left
ended run chars held ps own more left read e none are = record {
  before = of_run run ++ own;
  left = [];
  read = [];
  are = are;
  is_read = rw none (read_none []);
  same = rw (e, run_read run chars held read) (simp (append_assoc, append-nil));
}

spanned : (s : Sets) (k : Kind) (run chars held bytes : List ℕ) (more : List Step) (ps : List Part) (left : List ℕ) → IsSpan k (drawn s k bytes) ps → IsRead run chars held
    → IsGiven s k held bytes more left → Spanned run chars ps more left
spanned s Kind.Text run chars held bytes more ps left span read (now, (later, front, split), e) = record {
  before = [];
  left = run ++ drawn_text s bytes;
  read = chars ++ now;
  are = subst (λ (x : List ℕ). AreOfParts run ps [] (run ++ x)) span.joined (texts ps run span.all);
  is_read = read_more run held (drawn_text s bytes) left chars now read later;
  same = ap (λ (t : List Step). of_chars chars ++ t) e ∙ sym (chars_on chars now);
}
spanned s Kind.Csi run chars held bytes more ps left span read (actions, of, e, none) =
    ended run chars held ps (of_sequence actions) more left read e none (only Kind.Csi bytes (of_run run ++ of_sequence actions) ps run span (actions, of, refl, refl))
spanned s Kind.Esc run chars held bytes more ps left span read h =
    ended run chars held ps (of_escape bytes) more left read h.0 h.1 (only Kind.Esc bytes (of_run run ++ of_escape bytes) ps run span (refl, refl))
spanned s Kind.Str run chars held bytes more ps left span read h =
    ended run chars held ps (of_string bytes) more left read h.0 h.1 (by_bytes Kind.Str (by_escape Step.Other) (λ r b. (refl, refl)) bytes ps run span)
spanned s Kind.Other run chars held bytes more ps left span read h =
    ended run chars held ps (of_wrong bytes) more left read h.0 h.1 (by_bytes Kind.Other (by_escape (Step.Leave None)) (λ r b. (refl, refl)) bytes ps run span)

-- ---- one behind the other

-- nothing yet
pub goes_none : (m : Mode) (r : Reading) (run chars bytes held : List ℕ) → IsRead run chars held → Goes m r run chars bytes [] bytes m r held
goes_none m r run chars bytes held read =
    record { parts = []; before = []; left = run; read = chars; first = (refl, refl); reading = refl; are = (refl, refl); is_read = read; same = append-nil (of_chars chars) }

-- and then more, of these bytes or with others behind
goes_then : (m n a : Mode) (t u v : Reading) (run chars bytes behind whole next held rest last : List ℕ) (one two : List Step)
    → (g : Goes m t run chars bytes one behind n u held)
    → (k : Goes n u g.left g.read next two rest a v last) → AreFirstParts longest m whole (g.parts ++ k.parts) rest a
    → Goes m t run chars whole (one ++ two) rest a v last
goes_then m n a t u v run chars bytes behind whole next held rest last one two g k first =
    let all : as_read t (g.parts ++ k.parts) ≡ as_read t g.parts ++ as_read u k.parts =
    as_read_on t g.parts k.parts ∙ ap (λ (r : Reading). as_read t g.parts ++ as_read r k.parts) (sym g.reading) in
    record {
      parts = g.parts ++ k.parts;
      before = g.before ++ k.before;
      left = k.left;
      read = k.read;
      first = first;
      reading = k.reading ∙ ap (λ (r : Reading). read_behind r k.parts) g.reading ∙ sym (read_on t g.parts k.parts);
      are = subst (λ (ps : List Part). AreOfParts run ps (g.before ++ k.before) k.left) (sym all)
          (parts_then (as_read t g.parts) (as_read u k.parts) run g.left k.left g.before k.before g.are k.are);
      is_read = k.is_read;
      same = sym (append_assoc (of_chars chars) one two) ∙ ap (λ (x : List Step). x ++ two) g.same ∙ append_assoc g.before (of_chars g.read) two
          ∙ ap (λ (x : List Step). g.before ++ x) k.same ∙ sym (append_assoc g.before k.before (of_chars k.read));
    }

-- a span
pub goes_span : (m a : Mode) (r : Reading) (k : Kind) (run chars bytes held span rest left : List ℕ) (more : List Step) → IsRead run chars held → Cuts longest m bytes k span rest a
    → IsGiven r.sets (read_as k r.titled) held span more left → Goes m r run chars bytes more rest a (passed r k span) left
goes_span m a r k run chars bytes held span rest left more read cut h =
    let now = span_read r k span cut.parts cut.span in
    let x = spanned r.sets (read_as k r.titled) run chars held span more (as_read r cut.parts) left now.span read h in
    record { parts = cut.parts; before = x.before; left = x.left; read = x.read; first = cut.first; reading = sym now.behind; are = x.are; is_read = x.is_read; same = x.same }

-- what came for some bytes, and then for more
pub to_none : (m : Mode) (t : Reading) (held bytes : List ℕ) (old : List Step) → GoesTo m t held bytes bytes m t held old old
to_none m t held bytes old = ([], sym (append-nil old), λ run chars read. goes_none m t run chars bytes held read)

pub to_span : (m n a : Mode) (t u : Reading) (k : Kind) (held between left bytes behind span rest : List ℕ) (old now new more : List Step) → GoesTo m t held bytes behind n u between old now
    → Cuts longest n behind k span rest a → IsGiven u.sets (read_as k u.titled) between span more left → new ≡ now ++ more → GoesTo m t held bytes rest a (passed u k span) left old new
to_span m n a t u k held between left bytes behind span rest old now new more (steps, out, goes) cut given longer = (
  steps ++ more,
  longer ∙ ap (λ (x : List Step). x ++ more) out ∙ append_assoc old steps more,
  λ run chars read.
      let g = goes run chars read in
      let s = goes_span n a u k g.left g.read behind between span rest left more g.is_read cut given in
      goes_then m n a t u (passed u k span) run chars bytes behind bytes behind between rest left steps more g s
      (parts_on longest g.parts s.parts m bytes behind rest n a g.first s.first),
)

-- nothing is sure yet
pub reads_nothing : (old : Held) (bytes : List ℕ) → IsUnsure longest old.mode (old.bytes ++ bytes) → Reads old bytes [] (record old { bytes = old.bytes ++ bytes })
reads_nothing old bytes o = record { unsure = o; goes = λ run chars h. goes_none old.mode old.reading run chars (old.bytes ++ bytes) old.held h }

-- nothing came yet
pub bare_first : IsBare none_held
bare_first = refl

pub none_read : (s : Sets) → Reads (none_in s) [] [] (none_in s)
none_read s = reads_nothing (none_in s) [] (none_unsure longest Mode.Text)

pub reads_none : (h : Held) → IsBare h → Reads h [] [] h
reads_none h bare = subst (λ (x : Held). Reads x [] [] x) (sym bare) (none_read h.reading.sets)

-- a chunk more
pub reads_on : (old mid new : Held) (first second : List ℕ) (one two : List Step) → Reads old first one mid → Reads mid second two new → Reads old (first ++ second) (one ++ two) new
reads_on old mid new first second one two h k = record {
  unsure = k.unsure;
  goes = λ run chars read.
      let g = h.goes run chars read in
      let n = k.goes g.left g.read g.is_read in
      goes_then old.mode mid.mode new.mode old.reading mid.reading new.reading run chars (old.bytes ++ first) mid.bytes (old.bytes ++ (first ++ second))
      (mid.bytes ++ second)
      mid.held new.bytes new.held one two g n
      (subst (λ (bs : List ℕ). AreFirstParts longest old.mode bs (g.parts ++ n.parts) new.bytes new.mode) (append_assoc old.bytes first second)
      (parts_on longest g.parts n.parts old.mode ((old.bytes ++ first) ++ second) (mid.bytes ++ second) new.bytes mid.mode new.mode
      (parts_more longest g.parts old.mode (old.bytes ++ first) second mid.bytes mid.mode g.first) n.first));
}

-- the bytes of a push behind those that were held
pub reads_from : (old new : Held) (bytes all rest : List ℕ) (before after : List Step) → all ≡ old.bytes ++ bytes → new.bytes ≡ rest → IsUnsure longest new.mode rest
    → GoesTo old.mode old.reading old.held all rest new.mode new.reading new.held before after → (more : List Step) × Reads old bytes more new × (after ≡ before ++ more)
reads_from old new bytes all rest before after e f unsure (steps, out, goes) = (
  steps,
  record { unsure = rw f unsure; goes = λ run chars read. rw (← e, f) (goes run chars read) },
  out,
)

-- ---- the whole stream

pub whole_reads : (bytes : List ℕ) (steps : List Step) (last : Held) → Reads none_held bytes steps last → Steps bytes (steps ++ of_run last.held)
whole_reads bytes steps last h =
    let g = h.goes [] [] (read_none []) in
    record {
      parts = g.parts;
      rest = last.bytes;
      after = last.mode;
      first = g.first;
      unsure = h.unsure;
      before = g.before;
      run = g.left;
      read = g.are;
      all = ap (λ (t : List Step). t ++ of_run last.held) g.same ∙ append_assoc g.before (of_chars g.read) (of_run last.held)
          ∙ ap (λ (t : List Step). g.before ++ t) (sym (run_read g.left g.read last.held g.is_read));
    }
