-- The parts of a stream, span by span, chunk by chunk and at a glance, and what was appended for them.
use Rattle.std.proofs.Common.{not, cond, nat_lt, ◌+◌, length-drop, ◌≡◌, ◌≢◌, ◌<◌, slice_index, ℕ, Bool, false, List, [], ◌∷◌, ◌++◌, length, refl, sym, ap, subst, ◌∙◌, ⊎_elim, append_assoc, append-nil, arith, flat_map, ◌-◌, ◌≤◌, zero, suc, true, length-append, length-take, take, drop, get_or, take-append-drop, take-take}
use Rattle.csicodec_clean.proofs.Common.{AllByRecursion, concat, Kind, Mode, Part, part, bytes_of, IsSpan, IsUnsure, left_over, none_unsure, parts_more, parts_on, PassesOf, chars_as, run_as, IsRead, read_as, as_read, first_reading, passed, read_behind, RuleOf, EndOf, Ends, longest, AreGiven, IsStep, AreSteps, Between, GoesBy, Takes, AreTaken, Closing, start_of, with_more, take-append_seam, drop-append_seam, nat_tests, lossy_chars-nil, CsiParam, Reads, Seq, Answer, Allows, IsSequence, opens, GoesTo, IsOther, Tells, bare_at, shown, cond_both}
use Rattle.csicodec_clean.proofs.Plain.{read_more, read_none, shown_none, shown_on, shown_read, written_none, all_weaker}
use Rattle.csicodec_clean.proofs.Drawn.{as_read_on, draws_one, draws_same, read_on, same_still, set_control, span_read}
use Rattle.csicodec_spans.specs.{Parts.Cuts, Table.Anew, Table.Sequence, Table.ahead, Private.TableBy.stays}
use Rattle.csicodec_spans.proofs.{Once.parts_join, Once.unsure_short, Once.one_alone, Apart.said, OneSpan.run_cut, Missed.cut_parts}
use Rattle.csicodec_transform.specs.Transform.{Transforms}
use Rattle.csicodec_clean.specs.Private.Steps.{BeginsWithEscape, Draws, IsAppended, IsStill, is_drawn, unshifted}
use Rattle.csicodec_clean.specs.{Sets.behind, Sets.behind_escape, Sets.drawn, Sets.drawn_text, Sets.in_use, Sets.is_decstr, Sets.shifted}
use Rattle.csicodec_clean.specs.{declared.reading.Reading.Reading, declared.reading.Sets.Sets}
use Rattle.csicodec_looks.specs.{Sets.char_in, declared.sets.Set.TheVariants.Ascii}

pub unsure_few : (m : Mode) (bytes : List ℕ) → IsUnsure longest m bytes → length bytes < longest
unsure_few m bytes unsure = ⊎_elim (λ few. few) (λ few. omega (arith, few)) (unsure_short longest m bytes unsure)

-- with each chunk what was taken goes on: so with all of them
pub taken_on : {S : Type 0} (P Step : PassesOf S) (s : S)
    → ((bytes text : List ℕ) (old new : S) (chunk more : List ℕ) → P s bytes text old → Step old chunk more new → P s (bytes ++ chunk) (text ++ more) new)
    → (bytes text : List ℕ) (old new : S) (chunks : List (List ℕ)) (more : List ℕ) → P s bytes text old → AreTaken Step old chunks more new → P s (bytes ++ concat chunks) (text ++ more) new
taken_on P Step s on bytes text old new [] more h (none, same) = rw (none, same, append-nil bytes, append-nil text) h
taken_on P Step s on bytes text old new (chunk ∷ chunks) more h (mid, first, others, step, e, rest) =
    let all = taken_on P Step s on (bytes ++ chunk) (text ++ first) mid new chunks others (on bytes text old mid chunk first h step) rest in
    rw (← append_assoc bytes chunk (concat chunks), e, ← append_assoc text first others) all

module _ {S : Type 0} (Gives : RuleOf S) where
  pub steps_on : (ps qs : List Part) (s mid after : S) (run between left t u : List ℕ) → AreSteps Gives s run ps t mid between
      → AreSteps Gives mid between qs u after left → AreSteps Gives s run (ps ++ qs) (t ++ u) after left
  steps_on [] qs s mid after run between left t u h k = rw (h.0, ← h.1, ← h.2) k
  steps_on (p ∷ ps) qs s mid after run between left t u h k =
      (h.0, h.1, h.2, h.3 ++ u, h.4, ap (λ (x : List ℕ). x ++ u) h.5 ∙ append_assoc h.0 h.3 u, steps_on ps qs h.1 mid after h.2 between left h.3 u h.6 k)

  texts : (ps : List Part) (s : S) (run : List ℕ) → AllByRecursion (λ (p : Part). p.kind ≡ Kind.Text) ps → AreSteps Gives s run ps [] s (run ++ flat_map bytes_of ps)
  texts [] s run h = (refl, refl, append-nil run)
  texts (p ∷ ps) s run h =
      let step : IsStep Gives p.kind s run p.bytes [] s (run ++ p.bytes) = rw h.0 (refl, refl, refl) in
      let others = subst (λ (x : List ℕ). AreSteps Gives s (run ++ p.bytes) ps [] s x) (append_assoc run p.bytes (flat_map bytes_of ps)) (texts ps s (run ++ p.bytes) h.1) in
      ([], s, run ++ p.bytes, [], step, refl, others)

  only : (k : Kind) (bytes text : List ℕ) (ps : List Part) (s after : S) (run : List ℕ) → ps ≡ part k bytes ∷ [] → IsStep Gives k s run bytes text after [] → AreSteps Gives s run ps text after []
  only k bytes text ps s after run e h = rw e (text, after, [], [], h, sym (append-nil text), (refl, refl, refl))

  -- what is given for bytes is given for those in front, and then for the others
  abbrev Divides : (S → List ℕ → List ℕ → S → Type 0) → Type 0
  Divides G = (xs ys : List ℕ) (s after : S) (text : List ℕ) → G s (xs ++ ys) text after
      → (first : List ℕ) × (mid : S) × (others : List ℕ) × G s xs first mid × G mid ys others after × (text ≡ first ++ others)

  given_on : Divides (AreGiven Gives)
  given_on [] ys s after text h = ([], s, text, (refl, refl), h, refl)
  given_on (x ∷ xs) ys s after text (head, mid, others, here, e, rest) =
      let (first, last, more, one, two, f) = given_on xs ys mid after others rest in
      (head ++ first, last, more, (head, mid, first, here, refl, one), two, e ∙ ap (λ (t : List ℕ). head ++ t) f ∙ sym (append_assoc head first more))

  -- bytes that give nothing, and a byte more
  pub given_none : (bytes : List ℕ) (s : S) → ((b : ℕ) → Gives.byte s b [] s) → AreGiven Gives s bytes [] s
  given_none [] s none = (refl, refl)
  given_none (b ∷ bytes) s none = ([], s, [], none b, refl, given_none bytes s none)

  pub given_more : (xs : List ℕ) (s mid after : S) (c : ℕ) (text more : List ℕ) → AreGiven Gives s xs text mid → Gives.byte mid c more after → AreGiven Gives s (xs ++ c ∷ []) (text ++ more) after
  given_more [] s mid after c text more (none, same) one = (more, after, [], subst (λ (x : S). Gives.byte x c more after) same one, rw none (sym (append-nil more)), (refl, refl))
  given_more (x ∷ xs) s mid after c text more (first, next, others, here, e, rest) one =
      (first, next, others ++ more, here, rw e (append_assoc first others more), given_more xs next mid after c others more rest one)

  -- parts of a kind that ends a run
  parts_end : (k : Kind) (G : S → List ℕ → List ℕ → S → Type 0) → Divides G → ((s mid : S) (run bytes own : List ℕ) → G s bytes own mid → IsStep Gives k s run bytes (run_as Gives.writing run ++ own) mid [])
      → (ps : List Part) (s after : S) (run own : List ℕ) → 0 < length ps → AllByRecursion (λ (p : Part). p.kind ≡ k) ps → G s (flat_map bytes_of ps) own after
      → AreSteps Gives s run ps (run_as Gives.writing run ++ own) after []
  parts_end k G divides step [] s after run own some all given = absurd (omega (arith, some))
  parts_end k G divides step (p ∷ []) s after run own some all given =
      (run_as Gives.writing run ++ own, after, [], [], rw all.0 (step s after run p.bytes own (rw append-nil at given)), sym (append-nil (run_as Gives.writing run ++ own)), (refl, refl, refl))
  parts_end k G divides step (p ∷ q ∷ ps) s after run own some all given =
      let (first, mid, others, one, two, e) = divides p.bytes (flat_map bytes_of (q ∷ ps)) s after own given in
      let later = parts_end k G divides step (q ∷ ps) mid after [] others (omega arith) all.1 two in
      let whole : run_as Gives.writing run ++ own ≡ (run_as Gives.writing run ++ first) ++ (run_as Gives.writing [] ++ others) =
      ap (λ (t : List ℕ). run_as Gives.writing run ++ t) e ∙ (rw (shown_none Gives.writing) (simp append_assoc)) in
      (run_as Gives.writing run ++ first, mid, [], run_as Gives.writing [] ++ others, rw all.0 (step s mid run p.bytes first one), whole, later)

  pub record Spanned (s : S) (run chars : List ℕ) (ps : List Part) (more : List ℕ) (after : S) (held : List ℕ) : Type 0 where
    pub text : List ℕ
    pub left : List ℕ
    pub read : List ℕ
    pub steps : AreSteps Gives s run ps text after left
    pub is_read : IsRead left read held
    pub same : chars_as Gives.writing chars ++ more ≡ text ++ chars_as Gives.writing read

  -- a span that ends the run
  ended : (s : S) (run chars held : List ℕ) (ps : List Part) (own more : List ℕ) (after : S) (left : List ℕ) → IsRead run chars held → more ≡ run_as Gives.writing held ++ own → left ≡ []
      → AreSteps Gives s run ps (run_as Gives.writing run ++ own) after [] → Spanned s run chars ps more after left
  ended s run chars held ps own more after left read e none steps = record {
    text = run_as Gives.writing run ++ own;
    left = [];
    read = [];
    steps = steps;
    is_read = rw none (read_none []);
    same = rw (e, shown_read Gives.writing run chars held read, written_none Gives.writing) (simp (append_assoc, append-nil));
  }

  pub spanned : (k : Kind) (sets : Sets) (s : S) (run chars held bytes more : List ℕ) (ps : List Part) (after : S) (left : List ℕ) → IsSpan k (drawn sets k bytes) ps
      → IsRead run chars held → IsAppended Gives sets k s held bytes more after left
      → Spanned s run chars ps more after left
  spanned Kind.Text sets s run chars held bytes more ps after left span read (now, later, e, same) = record {
    text = [];
    left = run ++ drawn_text sets bytes;
    read = chars ++ now;
    steps = rw same (subst (λ (x : List ℕ). AreSteps Gives s run ps [] s (run ++ x)) span.joined (texts ps s run span.all));
    is_read = read_more run held (drawn_text sets bytes) left chars now read later.0;
    same = ap (λ t. chars_as Gives.writing chars ++ t) e ∙ sym (shown_on Gives.writing chars now);
  }
  spanned Kind.Csi sets s run chars held bytes more ps after left span read (own, gives, e, none) =
      ended s run chars held ps own more after left read e none (only Kind.Csi bytes (run_as Gives.writing run ++ own) ps s after run span (own, gives, refl, refl))
  spanned Kind.Esc sets s run chars held bytes more ps after left span read (own, gives, e, none) =
      ended s run chars held ps own more after left read e none (only Kind.Esc bytes (run_as Gives.writing run ++ own) ps s after run span (own, gives, refl, refl))
  spanned Kind.Str sets s run chars held bytes more ps after left span read (own, given, e, none) =
      ended s run chars held ps own more after left read e none
      (parts_end Kind.Str (AreGiven Gives) given_on (λ s mid run bytes own g. (own, g, refl, refl)) ps s after run own span.some span.all (rw span.joined given))
  spanned Kind.Other sets s run chars held bytes more ps after left span read (e, same, none) =
      ended s run chars held ps [] more after left read (e ∙ sym (append-nil (run_as Gives.writing held))) none
      (parts_end Kind.Other (λ s bytes own after. (own ≡ []) × (after ≡ s)) (λ xs ys s after text h. ([], s, text, (refl, refl), h, refl))
      (λ s mid run bytes own h. (rw h.0 (append-nil (run_as Gives.writing run)), h.1, refl)) ps s after run [] span.some span.all (refl, same))

  -- nothing yet
  pub goes_none : (limit : ℕ) (it : Between S) → GoesBy Gives limit it [] it
  goes_none limit it run chars read =
      record { parts = []; text = []; left = run; read = chars; first = (refl, refl); reads = refl; steps = (refl, refl, refl); is_read = read; same = append-nil (chars_as Gives.writing chars) }

  -- and then more
  pub goes_then : (limit : ℕ) (old mid new : Between S) (one two : List ℕ) → GoesBy Gives limit old one mid → GoesBy Gives limit mid two new → GoesBy Gives limit old (one ++ two) new
  goes_then limit old mid new one two goes further run chars read =
      let g = goes run chars read in
      let k = further g.left g.read g.is_read in
      let all : as_read old.reading (g.parts ++ k.parts) ≡ as_read old.reading g.parts ++ as_read mid.reading k.parts =
      as_read_on old.reading g.parts k.parts ∙ ap (λ (r : Reading). as_read old.reading g.parts ++ as_read r k.parts) (sym g.reads) in
      record {
        parts = g.parts ++ k.parts;
        text = g.text ++ k.text;
        left = k.left;
        read = k.read;
        first = parts_on limit g.parts k.parts old.mode old.bytes mid.bytes new.bytes mid.mode new.mode g.first k.first;
        reads = k.reads ∙ ap (λ (r : Reading). read_behind r k.parts) g.reads ∙ sym (read_on old.reading g.parts k.parts);
        steps = subst (λ (ps : List Part). AreSteps Gives old.rule run ps (g.text ++ k.text) new.rule k.left) (sym all)
            (steps_on (as_read old.reading g.parts) (as_read mid.reading k.parts) old.rule mid.rule new.rule run g.left k.left g.text k.text g.steps k.steps);
        is_read = k.is_read;
        same = rw (← append_assoc, g.same, append_assoc, k.same, append_assoc) refl;
      }

  -- a span
  pub goes_span : (limit : ℕ) (old new : Between S) (k : Kind) (span more : List ℕ) → Cuts limit old.mode old.bytes k span new.bytes new.mode
      → IsAppended Gives old.reading.sets (read_as k old.reading.titled) old.rule old.held span more new.rule new.held → new.reading ≡ passed old.reading k span → GoesBy Gives limit old more new
  goes_span limit old new k span more cut h reads run chars read =
      let now = span_read old.reading k span cut.parts cut.span in
      let x = spanned (read_as k old.reading.titled) old.reading.sets old.rule run chars old.held span more (as_read old.reading cut.parts) new.rule new.held now.span read h in
      record { parts = cut.parts; text = x.text; left = x.left; read = x.read; first = cut.first; reads = reads ∙ sym now.behind; steps = x.steps; is_read = x.is_read; same = x.same }

  -- the bytes behind are the last of them
  pub goes_split : (limit : ℕ) (old new : Between S) (more : List ℕ) → GoesBy Gives limit old more new → (front : List ℕ) × (old.bytes ≡ front ++ new.bytes)
  goes_split limit old new more goes = let g = goes old.held [] (read_none old.held) in (flat_map bytes_of g.parts, parts_join limit g.parts old.mode old.bytes new.bytes new.mode g.first)

  -- what is left over at the end
  over : (rest : List ℕ) (r : Reading) (s : S) (run : List ℕ) → (text : List ℕ) × (left : List ℕ) × AreSteps Gives s run (as_read r (left_over rest)) text s left × (run_as Gives.writing run ≡ text ++ run_as Gives.writing left)
  over [] r s run = ([], run, (refl, refl, refl), refl)
  over (b ∷ rest) r s run =
      let none = append-nil (run_as Gives.writing run) in
      (run_as Gives.writing run, [], (run_as Gives.writing run, s, [], [], (refl, refl, refl), sym none, (refl, refl, refl)), sym none ∙ ap (λ t. run_as Gives.writing run ++ t) (sym (shown_none Gives.writing)))

  -- the whole stream, and its end
  pub ends_by : (Closes : EndOf S) (limit : ℕ) (s : S) (bytes appended close : List ℕ) (last : Between S)
      → GoesBy Gives limit (record (start_of s) { bytes = bytes }) appended last
      → IsUnsure limit last.mode last.bytes → Closes last.rule close → Ends Gives Closes limit s bytes (appended ++ (run_as Gives.writing last.held ++ close))
  ends_by Closes limit s bytes appended close last goes unsure k =
      let g = goes [] [] (read_none []) in
      let end = left_over last.bytes in
      let (text, left, steps, shown) = over last.bytes last.reading last.rule g.left in
      let front : appended ≡ g.text ++ chars_as Gives.writing g.read = rw (written_none Gives.writing) at g.same in
      let same = sym (shown_read Gives.writing g.left g.read last.held g.is_read) ∙ shown in
      let together : as_read first_reading (g.parts ++ end) ≡ as_read first_reading g.parts ++ as_read last.reading end =
      as_read_on first_reading g.parts end ∙ ap (λ (r : Reading). as_read first_reading g.parts ++ as_read r end) (sym g.reads) in
      record {
        parts = g.parts ++ end;
        whole = record { sure = g.parts; rest = last.bytes; after = last.mode; first = g.first; unsure = unsure; whole = refl };
        before = g.text ++ text;
        run = left;
        after = last.rule;
        close = close;
        closes = k;
        steps = subst (λ (ps : List Part). AreSteps Gives s [] ps (g.text ++ text) last.rule left) (sym together)
            (steps_on (as_read first_reading g.parts) (as_read last.reading end) s last.rule last.rule [] g.left left g.text text g.steps steps);
        all = rw (front, append_assoc, ← append_assoc (chars_as Gives.writing g.read) _ close, same) (simp append_assoc);
      }

  -- with other bytes behind
  goes_more : (limit : ℕ) (old mid : Between S) (one second : List ℕ) → GoesBy Gives limit old one mid → GoesBy Gives limit (with_more old second) one (with_more mid second)
  goes_more limit old mid one second goes run chars read =
      let g = goes run chars read in
      let first = parts_more limit g.parts old.mode old.bytes second mid.bytes mid.mode g.first in
      record { parts = g.parts; text = g.text; left = g.left; read = g.read; first = first; reads = g.reads; steps = g.steps; is_read = g.is_read; same = g.same }

  -- nothing came yet
  pub takes_none : (s : S) → Takes Gives (start_of s) [] [] (start_of s)
  takes_none s = record { unsure = none_unsure longest Mode.Text; goes = goes_none longest (start_of s) }

  -- a chunk more
  pub takes_on : (old mid new : Between S) (first second one two : List ℕ) → Takes Gives old first one mid → Takes Gives mid second two new → Takes Gives old (first ++ second) (one ++ two) new
  takes_on old mid new first second one two h k =
      let all = goes_then longest (with_more (with_more old first) second) (with_more mid second) new one two (goes_more longest (with_more old first) mid one second h.goes) k.goes in
      record { unsure = k.unsure; goes = rw append_assoc at all }

  pub ends : (Closes : EndOf S) (s : S) (bytes text close : List ℕ) (last : Between S) → Takes Gives (start_of s) bytes text last → Closes last.rule close
      → Ends Gives Closes longest s bytes (text ++ (run_as Gives.writing last.held ++ close))
  ends Closes s bytes text close last h k = ends_by Closes longest s bytes text close last h.goes h.unsure k

  pub closed : (Closes : EndOf S) (s : S) (bytes text : List ℕ) → Transforms (Takes Gives) (Closing Gives Closes) (start_of s) bytes text → Ends Gives Closes longest s bytes text
  closed Closes s bytes text (last, sure, rest, takes, (close, closes, shown), split) = rw (split, shown) (ends Closes s bytes sure close last takes closes)

  -- chunks in turn are one of them all
  pub taken : (s : S) (chunks : List (List ℕ)) (text : List ℕ) (last : Between S) → AreTaken (Takes Gives) (start_of s) chunks text last → Takes Gives (start_of s) (concat chunks) text last
  taken s chunks text last h =
      taken_on (Takes Gives) (Takes Gives) (start_of s) (λ bytes text old new chunk more h k. takes_on (start_of s) old new bytes chunk text more h k) [] [] (start_of s) last chunks text (takes_none s) h

  pub any_chunks : (Closes : EndOf S) (s : S) (chunks : List (List ℕ)) (text close : List ℕ) (last : Between S) → AreTaken (Takes Gives) (start_of s) chunks text last → Closes last.rule close
      → Ends Gives Closes longest s (concat chunks) (text ++ (run_as Gives.writing last.held ++ close))
  any_chunks Closes s chunks text close last h k = ends Closes s (concat chunks) text close last (taken s chunks text last h) k

-- ---- What is taken at a glance, step by step.

-- ---- the spans

no_escape : (b : ℕ) → IsOther b → stays Mode.Text b ≡ true
no_escape b other = grind (arith, nat_tests)

all_stay : (text rest : List ℕ) → AllByRecursion IsOther text → (k : ℕ) → k < length text → stays Mode.Text (get_or (text ++ rest) k 0) ≡ true
all_stay [] rest h k within = absurd (omega (arith, within))
all_stay (b ∷ text) rest h zero within = no_escape b h.0
all_stay (b ∷ text) rest h (suc k) within = all_stay text rest h.1 k (omega (arith, within))

told_cut : (limit : ℕ) (text rest : List ℕ) → 0 < length text → AllByRecursion IsOther text → Cuts limit Mode.Text (text ++ rest) Kind.Text text rest Mode.Text
told_cut limit text rest some other =
    let within = length-append text rest in
    rw (take-append_seam text rest, drop-append_seam text rest)
    at (run_cut limit (length text) Mode.Text (text ++ rest) (all_stay text rest other) (omega arith) some)

-- a sequence is a span by itself
one_cut : (limit : ℕ) (bytes own rest : List ℕ) (k : Kind) (f : Answer) → IsSpan k own (part k own ∷ []) → ahead Mode.Text bytes ≡ f → bytes ≡ own ++ rest
    → Allows f limit bytes k own Mode.Text
    → Cuts limit Mode.Text bytes k own rest Mode.Text
one_cut limit bytes own rest k f span e split h = record {
  parts = part k own ∷ [];
  span = span;
  one = one_alone limit Mode.Text bytes [] (part k own);
  first = (rest, Mode.Text, (split, subst (λ (x : Answer). Allows x limit bytes k own Mode.Text) (sym e) h), (refl, refl));
}

escape_cut : (limit b c : ℕ) (more : List ℕ) → 32 ≤ b → b ≤ 47 → 48 ≤ c → c ≤ 126 → Cuts limit Mode.Text (27 ∷ b ∷ c ∷ more) Kind.Esc (27 ∷ b ∷ c ∷ []) more Mode.Text
escape_cut limit b c more from to low high =
    let ahead_is : ahead Mode.Text (27 ∷ b ∷ c ∷ more) ≡ Anew Kind.Esc 3 Mode.Text = said 18 _ Mode.Text (27 ∷ b ∷ c ∷ more) refl (grind (arith, nat_tests)) in
    one_cut limit (27 ∷ b ∷ c ∷ more) (27 ∷ b ∷ c ∷ []) more Kind.Esc (Anew Kind.Esc 3 Mode.Text) refl ahead_is refl (refl, refl, refl)

sequence_cut : (limit len : ℕ) (bytes : List ℕ) → IsSequence (take len bytes) → len ≤ limit → Cuts limit Mode.Text bytes Kind.Csi (take len bytes) (drop len bytes) Mode.Text
sequence_cut limit len bytes one short =
    let own = take len bytes in
    let long : length own ≤ limit = omega (arith, length-take len bytes, short) in
    let whole : bytes ≡ 27 ∷ 91 ∷ ((one.2.body ++ one.1 ∷ []) ++ drop len bytes) = sym (take-append-drop len bytes) ∙ ap (λ (t : List ℕ). t ++ drop len bytes) one.2.whole in
    let csi : ahead Mode.Text bytes ≡ Sequence = ap (ahead Mode.Text) whole ∙ opens Mode.Text ((one.2.body ++ one.1 ∷ []) ++ drop len bytes) in
    one_cut limit bytes own (drop len bytes) Kind.Csi Sequence refl csi (sym (take-append-drop len bytes)) (one, long, refl)

-- ---- from the bytes behind a sequence to its length

pub front_read : (len : ℕ) (bytes behind : List ℕ) (list : List CsiParam) (final : ℕ) → Reads bytes list final behind → len ≡ length bytes - length behind
    → Seq (take len bytes) list final
front_read len bytes behind list final (front, seq, split) is =
    let size : len ≡ length front = omega (arith, is, ap length split, length-append front behind) in
    let text : take len bytes ≡ front = ap (take len) split ∙ ap (λ (n : ℕ). take n (front ++ behind)) size ∙ take-append_seam front behind in
    subst (λ (t : List ℕ). Seq t list final) (sym text) seq

-- what is in the first bytes is in all of them
pub within_near : (limit len : ℕ) (bytes front : List ℕ) → front ≡ take limit bytes → len ≤ length front
    → ((len ≤ limit) × (len ≤ length bytes)) × (take len front ≡ take len bytes)
within_near limit len bytes front is within =
    let few : len ≤ limit = omega (arith, within, ap length is, length-take limit bytes) in
    ((few, omega (arith, within, ap length is, length-take limit bytes)), ap (take len) is ∙ take-take len limit bytes few)

pub sequence_read : (limit len : ℕ) (bytes behind : List ℕ) → ((list : List CsiParam) × (final : ℕ) × Reads (take limit bytes) list final behind) → len ≡ length (take limit bytes) - length behind
    → ((len ≤ limit) × (len ≤ length bytes)) × IsSequence (take len bytes)
sequence_read limit len bytes behind (list, final, read) is =
    let (fits, same) = within_near limit len bytes (take limit bytes) refl (omega (arith, is)) in
    (fits, (list, final, subst (λ (t : List ℕ). Seq t list final) same (front_read len (take limit bytes) behind list final read is)))

-- ---- the steps

-- some bytes, and others behind them
pub behind_both : (bytes front behind text rest : List ℕ) → bytes ≡ front ++ behind → behind ≡ text ++ rest → (before : List ℕ) × (bytes ≡ before ++ rest)
behind_both bytes front behind text rest e f = (front ++ text, e ∙ ap (λ t. front ++ t) f ∙ sym (append_assoc front text rest))

no_chars : (chars : List ℕ) → IsRead [] chars [] → chars ≡ []
no_chars chars read = sym (append-nil chars) ∙ ap (λ t. chars ++ t) (sym lossy_chars-nil) ∙ sym (read []) ∙ lossy_chars-nil

-- where no `!` stands third, no DECSTR stands
not_decstr : (len : ℕ) (bytes : List ℕ) → slice_index bytes 2 ≢ 33 → is_decstr (take len bytes) ≡ false
not_decstr zero bytes h = refl
not_decstr (suc n) [] h = refl
not_decstr (suc zero) (a ∷ bytes) h = refl
not_decstr (suc (suc n)) (a ∷ []) h = refl
not_decstr (suc (suc zero)) (a ∷ b ∷ bytes) h = refl
not_decstr (suc (suc (suc n))) (a ∷ b ∷ []) h = refl
not_decstr (suc (suc (suc n))) (a ∷ b ∷ c ∷ bytes) h = grind (arith, nat_tests)

-- behind what was taken less is left, or nothing was
pub smaller : (rest told : List ℕ) (len : ℕ) → length told ≤ length rest → len ≤ length told → length (drop len told) + cond (nat_lt 0 len) 1 0 < length rest + 1
smaller rest told len le within = cond_both (nat_lt 0 len) 1 0 (λ k. length (drop len told) + k < length rest + 1)
    (λ yes. let some : 0 < len = grind (arith, nat_tests) in omega (arith, some, le, within, length-drop len told)) (λ _. omega (arith, le, length-drop len told))

-- no title is open
abbrev untitled : Sets → Reading
untitled sets = record { titled = false; sets = sets }

pub untitled_is : (r : Reading) → r.titled ≡ false → r ≡ untitled r.sets
untitled_is r e = ap (λ (t : Bool). record { titled = t; sets = r.sets }) e

module _ {S : Type 0} (Gives : RuleOf S) (limit : ℕ) where
  pub to_none : (it : Between S) (out : List ℕ) → GoesTo Gives limit it it out out
  to_none it out = ([], sym (append-nil out), goes_none Gives limit it, [], refl)

  pub to_on : (old mid new : Between S) (before now after : List ℕ) → GoesTo Gives limit old mid before now → GoesTo Gives limit mid new now after → GoesTo Gives limit old new before after
  to_on old mid new before now after (one, out, goes, xs, e) (two, longer, further, ys, f) =
      let (front, both) = behind_both (old.held ++ old.bytes) xs (mid.held ++ mid.bytes) ys (new.held ++ new.bytes) e f in
      (one ++ two, longer ∙ ap (λ l. l ++ two) out ∙ append_assoc before one two, goes_then Gives limit old mid new one two goes further, front, both)

  -- a span that is no text is held no more
  ends_in : (k : Kind) (sets : Sets) (s : S) (held span text : List ℕ) (after : S) (left : List ℕ) → IsAppended Gives sets k s held span text after left → (front : List ℕ) × (held ++ span ≡ front ++ left)
  ends_in Kind.Text sets s held span text after left (chars, (read, front, split), e, same) = (front, split)
  ends_in Kind.Csi sets s held span text after left (own, gives, e, none) = (held ++ span, rw none (sym (append-nil (held ++ span))))
  ends_in Kind.Esc sets s held span text after left (own, gives, e, none) = (held ++ span, rw none (sym (append-nil (held ++ span))))
  ends_in Kind.Str sets s held span text after left (own, gives, e, none) = (held ++ span, rw none (sym (append-nil (held ++ span))))
  ends_in _ sets s held span text after left h = (held ++ span, rw h.2 (sym (append-nil (held ++ span))))

  pub to_span : (old new : Between S) (k : Kind) (span more before after : List ℕ) → Cuts limit old.mode old.bytes k span new.bytes new.mode
      → IsAppended Gives old.reading.sets (read_as k old.reading.titled) old.rule old.held span more new.rule new.held → new.reading ≡ passed old.reading k span → after ≡ before ++ more → GoesTo Gives limit old new before after
  to_span old new k span more before after cut h reads longer =
      let (front, e) = ends_in (read_as k old.reading.titled) old.reading.sets old.rule old.held span more new.rule new.held h in
      let split = cut_parts limit old.mode old.bytes k span new.bytes new.mode cut in (
        more,
        longer,
        goes_span Gives limit old new k span more cut h reads,
        front,
        ap (λ t. old.held ++ t) split ∙ sym (append_assoc old.held span new.bytes) ∙ ap (λ t. t ++ new.bytes) e ∙ append_assoc front new.held new.bytes,
      )

  -- the bytes behind are the last of them
  pub to_split : (old new : Between S) (before after : List ℕ) → GoesTo Gives limit old new before after → (front : List ℕ) × (old.bytes ≡ front ++ new.bytes)
  to_split old new before after (more, longer, goes, front, e) = goes_split Gives limit old new more goes

  pub over_told : (s : S) (sets : Sets) (bytes rest old new : List ℕ) → in_use sets ≡ Ascii → Tells Gives.writing bytes rest old new → GoesTo Gives limit (bare_at s sets bytes) (bare_at s sets rest) old new
  over_told s sets bytes rest old new is ([], chars, parts, (other, read), longer) = rw (longer, parts, no_chars chars read, written_none Gives.writing, append-nil old) (to_none (bare_at s sets rest) old)
  over_told s sets bytes rest old new is (b ∷ text, chars, parts, (still, read), longer) =
      let same = same_still sets (b ∷ text) is still in
      to_span (bare_at s sets bytes) (bare_at s sets rest) Kind.Text (b ∷ text) (chars_as Gives.writing chars) old new
      (rw parts (told_cut limit (b ∷ text) rest (omega arith) (all_weaker IsStill IsOther (λ b h. h.0) (b ∷ text) still)))
      (chars, draws_same sets [] (b ∷ text) [] chars same (read, b ∷ text, sym (append-nil (b ∷ text))), refl, refl) (ap (λ (x : Sets). untitled x) (sym same.1)) longer

  -- a byte of ASCII, as it is drawn
  pub over_one : (s : S) (sets : Sets) (b : ℕ) (rest old new : List ℕ) → b < 128 → IsOther b → new ≡ old ++ chars_as Gives.writing (char_in (in_use sets) b ∷ [])
      → GoesTo Gives limit (bare_at s sets (b ∷ rest)) (bare_at s (shifted sets b) rest) old new
  over_one s sets b rest old new low other longer =
      let c = char_in (in_use sets) b in
      let draws : Draws sets [] (b ∷ []) (c ∷ []) [] = rw lossy_chars-nil at (draws_one sets [] b low) in
      to_span (bare_at s sets (b ∷ rest)) (bare_at s (shifted sets b) rest) Kind.Text (b ∷ []) (chars_as Gives.writing (c ∷ [])) old new
      (told_cut limit (b ∷ []) rest (omega arith) (other, tt)) (c ∷ [], draws, refl, refl) refl longer

  -- one that shifts no set in
  pub over_drawn : (s : S) (sets : Sets) (bytes : List ℕ) (b : ℕ) (rest old new : List ℕ) → bytes ≡ b ∷ rest → is_drawn b ≡ true
      → new ≡ old ++ chars_as Gives.writing (char_in (in_use sets) b ∷ []) → GoesTo Gives limit (bare_at s sets bytes) (bare_at s sets rest) old new
  over_drawn s sets bytes b rest old new e drawn longer =
      let low : b < 128 = grind (arith, nat_tests) in
      let other : IsOther b = λ is. absurd (grind (arith, nat_tests)) in
      let still : shifted sets b ≡ sets = grind (arith, nat_tests) in
      rw e (subst (λ (x : Sets). GoesTo Gives limit (bare_at s sets (b ∷ rest)) (bare_at s x rest) old new) still (over_one s sets b rest old new low other longer))

  -- SO or SI
  pub over_shift : (s : S) (sets : Sets) (bytes : List ℕ) (b : ℕ) (rest out : List ℕ) → bytes ≡ b ∷ rest → not (unshifted b) ≡ true
      → GoesTo Gives limit (bare_at s sets bytes) (bare_at s (shifted sets b) (drop 1 bytes)) out out
  over_shift s sets bytes b rest out e shifts =
      let low : b < 32 = grind (arith, nat_tests) in
      let other : IsOther b = λ is. absurd (grind (arith, nat_tests)) in
      let hidden : shown b ≡ false = grind (arith, nat_tests) in
      rw e (over_one s sets b rest out out (omega (arith, low)) other (rw (set_control (in_use sets) b low, hidden, written_none Gives.writing) (sym (append-nil out))))

  -- SI where G0 is shifted in
  pub over_si : (s : S) (sets : Sets) (bytes out : List ℕ) → 0 < length bytes → slice_index bytes 0 ≡ 15 → sets.shifted ≡ false
      → GoesTo Gives limit (bare_at s sets bytes) (bare_at s sets (drop 1 bytes)) out out
  over_si s sets [] out some si none = absurd (omega (arith, some))
  over_si s sets (b ∷ rest) out some si none =
      let still : shifted sets 15 ≡ sets = ap (λ (t : Bool). record { g0 = sets.g0; g1 = sets.g1; shifted = t }) (sym none) in
      let gone : GoesTo Gives limit (bare_at s sets (15 ∷ rest)) (bare_at s (shifted sets 15) rest) out out = over_shift s sets (15 ∷ rest) 15 rest out refl refl in
      rw si (subst (λ (x : Sets). GoesTo Gives limit (bare_at s sets (15 ∷ rest)) (bare_at s x rest) out out) still gone)

  pub over_escape : (s after : S) (sets : Sets) (bytes old new : List ℕ) → BeginsWithEscape bytes → (text : List ℕ) × Gives.escape s (take 3 bytes) text after × (new ≡ old ++ text)
      → GoesTo Gives limit (bare_at s sets bytes) (bare_at after (behind_escape sets (take 3 bytes)) (drop 3 bytes)) old new
  over_escape s after sets [] old new h given = absurd (omega (arith, h.0))
  over_escape s after sets (a ∷ []) old new h given = absurd (omega (arith, h.0))
  over_escape s after sets (a ∷ b ∷ []) old new h given = absurd (omega (arith, h.0))
  over_escape s after sets (a ∷ b ∷ c ∷ more) old new (long, first, from, to, low, high) (text, gives, longer) =
      to_span (bare_at s sets (a ∷ b ∷ c ∷ more)) (bare_at after (behind_escape sets (a ∷ b ∷ c ∷ [])) more) Kind.Esc (27 ∷ b ∷ c ∷ []) text old new (rw first (escape_cut limit b c more from to low high))
      (text, rw first at gives, ap (λ t. t ++ text) (sym (shown_none Gives.writing)), refl) refl longer

  -- a sequence that a rule took at once, or none
  pub over_taken : (len : ℕ) (s after : S) (sets : Sets) (bytes old new : List ℕ) → len ≤ limit
      → (0 < len → (text : List ℕ) × IsSequence (take len bytes) × Gives.sequence s (take len bytes) text after × (new ≡ old ++ text))
      → (len ≡ 0 → (after ≡ s) × (new ≡ old)) → GoesTo Gives limit (bare_at s sets bytes) (bare_at after (behind sets Kind.Csi (take len bytes)) (drop len bytes)) old new
  over_taken zero s after sets bytes old new short taken none = let h = none refl in rw (h.0, h.1) (to_none (bare_at s sets bytes) old)
  over_taken (suc n) s after sets bytes old new short taken none =
      let (text, one, gives, longer) = taken (omega arith) in
      to_span (bare_at s sets bytes) (bare_at after (behind sets Kind.Csi (take (suc n) bytes)) (drop (suc n) bytes)) Kind.Csi (take (suc n) bytes) text old new (sequence_cut limit (suc n) bytes one short)
      (text, gives, ap (λ t. t ++ text) (sym (shown_none Gives.writing)), refl) refl longer

  -- one that isn't DECSTR changes no set
  pub over_sequence : (len : ℕ) (s after : S) (sets : Sets) (bytes old new : List ℕ) → slice_index bytes 2 ≢ 33 → len ≤ limit
      → (0 < len → (text : List ℕ) × IsSequence (take len bytes) × Gives.sequence s (take len bytes) text after × (new ≡ old ++ text))
      → (len ≡ 0 → (after ≡ s) × (new ≡ old)) → GoesTo Gives limit (bare_at s sets bytes) (bare_at after sets (drop len bytes)) old new
  over_sequence len s after sets bytes old new other short taken none = rw (not_decstr len bytes other) at (over_taken len s after sets bytes old new short taken none)
