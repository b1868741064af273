-- What steps write, one behind the other, and what comes of a stream.
use Rattle.csicodec_overwrite.proofs.Common.{◌≡◌, ℕ, List, [], ◌∷◌, ◌++◌, refl, sym, ap, subst, ◌∙◌, ⊎_elim, append_assoc, append-nil, false, Option, IfSome, concat, Appends, Consumes, IsAtEnd, Sends, Transforms, Line, Marking, Pen, Step, lossy_chars, Kind, Part, parts_more, longest, IsRead, as_read, as_read_on, first_reading, read_behind, IsBare, read_none, before, blank, do_all, does, fresh, pen_behind, pen_behind_all, texts_of, PassesFront, Shows, most, shown_by, AreOfParts, IsOfPart, Steps, columns, of_run, of_chars, of_sequence, Ending, Held, Now, Passes, Reads, begun_as, none_held, Goes, DoesAll, Action}
use Rattle.csicodec_overwrite.proofs.Read.{bare_first, reads_none, reads_on, whole_reads, run_read}
use Rattle.csicodec_looks.proofs.Texts.{texts_on}
use Rattle.csicodec_transform.specs.Transform.{Begins, GoesOn, Begins as BeginsWith}
use Rattle.csicodec_clean.specs.Stream.{AreTaken, IsFrontOf}
use Rattle.csicodec_clean.proofs.Chunks.{taken_on}
use Rattle.csicodec_terminal.proofs.Unique.{taken_once}
use Rattle.csicodec_spans.proofs.Once.{parts_front, parts_once}
use Rattle.csicodec_transform.proofs.Sent.{whole_front}
use Rattle.csicodec_spans.specs.declared.table.Mode.{Mode}

-- ---- steps, and then others

pub pen_on : (limit : ℕ) (xs ys : List Step) (pen : Pen) (l : Line) → pen_behind_all limit pen (xs ++ ys) l ≡ pen_behind_all limit (pen_behind_all limit pen xs l) ys (do_all limit pen xs l).line
pen_on limit [] ys pen l = refl
pen_on limit (x ∷ xs) ys pen l = pen_on limit xs ys (pen_behind pen x (columns l.left)) (does limit pen x l).line

pub all_on : (limit : ℕ) (xs ys : List Step) (pen : Pen) (l : Line)
    → do_all limit pen (xs ++ ys) l ≡ before (do_all limit pen xs l).lines (do_all limit (pen_behind_all limit pen xs l) ys (do_all limit pen xs l).line)
all_on limit [] ys pen l = refl
all_on limit (x ∷ xs) ys pen l = rw (all_on limit xs ys (pen_behind pen x (columns l.left)) (does limit pen x l).line) (simp append_assoc)

-- all that they show
pub shown_on : (marking : Marking) (limit : ℕ) (xs ys : List Step) (pen : Pen) (l : Line)
    → shown_by marking (do_all limit pen (xs ++ ys) l)
    ≡ texts_of marking (do_all limit pen xs l).lines ++ shown_by marking (do_all limit (pen_behind_all limit pen xs l) ys (do_all limit pen xs l).line)
shown_on marking limit xs ys pen l = rw (all_on limit xs ys pen l, texts_on marking, append_assoc)

-- ---- a stream

-- nothing comes, where nothing is held
pub passes_none : (now : Now) → IsBare now.reader → Passes now [] [] now
passes_none now bare = record { steps = []; reads = reads_none now.reader bare; pen = refl; marking = refl; line = refl; all = refl }

-- bytes more
pub passes_on : (old mid new : Now) (first second one two : List ℕ) → Passes old first one mid → Passes mid second two new → Passes old (first ++ second) (one ++ two) new
passes_on old mid new first second one two p q = record {
  steps = p.steps ++ q.steps;
  reads = reads_on old.reader mid.reader new.reader first second p.steps q.steps p.reads q.reads;
  pen = rw (q.pen, p.pen, p.line, pen_on most p.steps q.steps old.pen old.line);
  marking = q.marking ∙ p.marking;
  line = rw (q.line, p.pen, p.line, all_on most p.steps q.steps old.pen old.line);
  all = rw (p.all, q.all, p.marking, p.pen, p.line, all_on most p.steps q.steps old.pen old.line, texts_on old.marking);
}

pub goes : (old new : Now) (bytes text : List ℕ) → Passes old bytes text new → GoesOn Passes old bytes text new
goes old new bytes text q first read written p = passes_on first old new read bytes written text p q

-- nothing is taken, where nothing is held
pub none_taken : (now : Now) (bytes out : List ℕ) → IsBare now.reader → PassesFront now bytes bytes now out out
none_taken now bytes out bare = record { front = []; text = []; split = refl; passes = passes_none now bare; out = sym (append-nil out) }

-- what is taken in front, and then of the rest
pub front_on : {old mid new : Now} {bytes between rest before now after : List ℕ} → PassesFront old bytes between mid before now
    → PassesFront mid between rest new now after → PassesFront old bytes rest new before after
front_on {old} {mid} {new} {rest} {before} p q = record {
  front = p.front ++ q.front;
  text = p.text ++ q.text;
  split = p.split ∙ ap (λ (t : List ℕ). p.front ++ t) q.split ∙ sym (append_assoc p.front q.front rest);
  passes = passes_on old mid new p.front q.front p.text q.text p.passes q.passes;
  out = q.out ∙ ap (λ (t : List ℕ). t ++ q.text) p.out ∙ append_assoc before p.text q.text;
}

-- the end
pub shows : (marking : Marking) (bytes text rest : List ℕ) (last : Now) → Passes (begun_as marking) bytes text last → Ending last rest → Shows marking bytes (text ++ rest)
shows marking bytes text rest last p e = record {
  steps = p.steps ++ of_run last.reader.held;
  read = whole_reads bytes p.steps last.reader p.reads;
  all = rw (p.all, e, p.marking, p.pen, p.line, shown_on marking most p.steps (of_run last.reader.held) fresh blank);
}

pub transformed : (marking : Marking) (bytes text : List ℕ) → Transforms Passes Ending (begun_as marking) bytes text → Shows marking bytes text
transformed marking bytes text (last, sure, rest, passed, ending, split) = rw split (shows marking bytes sure rest last passed ending)

-- what went out is a front of a whole text
pub begins : (marking : Marking) (AreAll : Type 0) (bytes sent : List ℕ) → Begins (Sends Passes (begun_as marking)) (Transforms Passes Ending (begun_as marking)) AreAll bytes sent
    → (unsent : List ℕ) × Shows marking bytes (sent ++ unsent)
begins marking AreAll bytes sent (unsent, h) = ⊎_elim
    (λ (k : Sends Passes (begun_as marking) bytes (sent ++ unsent)).
    let (last, passed) = k in
    let rest = shown_by last.marking (do_all most last.pen (of_run last.reader.held) last.line) in
    (unsent ++ rest, subst (Shows marking bytes) (append_assoc sent unsent rest) (shows marking bytes (sent ++ unsent) rest last passed refl)))
    (λ (k : AreAll × Transforms Passes Ending (begun_as marking) bytes (sent ++ unsent)). (unsent, transformed marking bytes (sent ++ unsent) k.1))
    h

-- ---- what is appended

-- the steps of bytes in front are done
pub taken : {old : Now} {reader : Held} {pen : Pen} {line : Line} {steps : List Step} {bytes rest before after : List ℕ} (front : List ℕ)
    → bytes ≡ front ++ rest → Reads old.reader front steps reader → DoesAll old.marking steps old.pen pen old.line line before after
    → PassesFront old bytes rest (record { reader = reader; pen = pen; marking = old.marking; line = line }) before after
taken {old} {steps} front split reads does = record {
  front = front;
  text = texts_of old.marking (do_all most old.pen steps old.line).lines;
  split = split;
  passes = record { steps = steps; reads = reads; pen = does.pen; marking = refl; line = does.line; all = refl };
  out = does.text;
}

-- ---- chunks in turn

pub any_chunks : (marking : Marking) (chunks : List (List ℕ)) (text rest : List ℕ) (last : Now) → AreTaken (GoesOn Passes) (begun_as marking) chunks text last
    → Ending last rest → Shows marking (concat chunks) (text ++ rest)
any_chunks marking chunks text rest last taken ending =
    let first = begun_as marking in
    let passed = taken_on Passes (GoesOn Passes) first (λ bytes text old new chunk more p goes. goes first bytes text p) [] [] first last chunks text (passes_none first bare_first) taken in
    shows marking (concat chunks) text rest last passed ending

-- ---- A stream has one text, and what was written of its front begins that.

-- ---- one text

part_once : (k : Kind) (run bytes : List ℕ) (x y : List Step) (a b : List ℕ) → IsOfPart k run bytes x a → IsOfPart k run bytes y b → (x ≡ y) × (a ≡ b)
part_once Kind.Csi run bytes x y a b (own, of, e, none) (other, is, f, nil) =
    (e ∙ ap (λ (actions : List Action). of_run run ++ of_sequence actions) (taken_once bytes own other of is) ∙ sym f, none ∙ sym nil)
part_once _ run bytes x y a b h i = (h.0 ∙ sym i.0, h.1 ∙ sym i.1)

-- what is read of some parts, and then of others
parted : (run : List ℕ) (ps qs : List Part) (x y : List Step) (a b : List ℕ) → AreOfParts run ps x a → AreOfParts run (ps ++ qs) y b
    → (later : List Step) × AreOfParts a qs later b × (y ≡ x ++ later)
parted run [] qs x y a b h k = (y, rw h.1 k, rw h.0 refl)
parted run (p ∷ ps) qs x y a b (first, next, others, is, e, rest) (one, after, more, of, f, k) =
    let same = part_once p.kind run p.bytes first one next after is of in
    let (later, are, all) = parted next ps qs others more a b rest (rw same.1 k) in (
      later,
      are,
      f ∙ ap (λ (t : List Step). t ++ more) (sym same.0) ∙ ap (λ (t : List Step). first ++ t) all ∙ sym (append_assoc first others later)
          ∙ ap (λ (t : List Step). t ++ later) (sym e),
    )

pub one_reading : (bytes : List ℕ) (steps others : List Step) → Steps bytes steps → Steps bytes others → steps ≡ others
one_reading bytes steps others s t =
    let parts = (parts_once longest s.parts t.parts Mode.Text bytes s.rest t.rest s.after t.after s.first s.unsure t.first t.unsure).parts in
    let (later, (none, run), before) = parted [] (as_read first_reading s.parts) [] s.before t.before s.run t.run s.read (rw (append-nil, parts) t.read) in
    rw (s.all, t.all, before, none, run, append-nil) refl

pub one_text : (marking : Marking) (bytes text other : List ℕ) → Shows marking bytes text → Shows marking bytes other → text ≡ other
one_text marking bytes text other o p = o.all ∙ ap (λ (steps : List Step). shown_by marking (do_all most fresh steps blank)) (one_reading bytes o.steps p.steps o.read p.read) ∙ sym p.all

-- ---- fronts

-- the steps of a run begin with those of the characters that were read of it
abbrev GoesOnFrom : List Step → List Step → Type 0
GoesOnFrom whole front = (more : List Step) × (whole ≡ front ++ more)

read_longer : (run chars rest bytes : List ℕ) → IsRead run chars rest → IsRead (run ++ bytes) chars (rest ++ bytes)
read_longer run chars rest bytes h = λ more. ap lossy_chars (append_assoc run bytes more) ∙ h (bytes ++ more) ∙ ap (λ (t : List ℕ). chars ++ lossy_chars t) (sym (append_assoc rest bytes more))

ends_run : (run chars rest : List ℕ) (own first others more last : List Step) → IsRead run chars rest → first ≡ of_run run ++ own
    → others ≡ first ++ more → GoesOnFrom (others ++ last) (of_chars chars)
ends_run run chars rest own first others more last h e f = (of_run rest ++ (own ++ (more ++ last)), rw (f, e, run_read run chars rest h) (simp append_assoc))

part_begins : (k : Kind) (run bytes chars rest next : List ℕ) (first others more last : List Step) → IsRead run chars rest → IsOfPart k run bytes first next → others ≡ first ++ more
    → ((cs r : List ℕ) → IsRead next cs r → GoesOnFrom (more ++ last) (of_chars cs)) → GoesOnFrom (others ++ last) (of_chars chars)
part_begins Kind.Text run bytes chars rest next first others more last h (none, left) f later =
    rw (f, none) (later chars (rest ++ bytes) (rw left (read_longer run chars rest bytes h)))
part_begins Kind.Csi run bytes chars rest next first others more last h (actions, of, e, none) f later = ends_run run chars rest (of_sequence actions) first others more last h e f
part_begins _ run bytes chars rest next first others more last h i f later = ends_run run chars rest _ first others more last h i.0 f

parts_begin : (run chars rest : List ℕ) (qs : List Part) (later : List Step) (last : List ℕ) → IsRead run chars rest → AreOfParts run qs later last → GoesOnFrom (later ++ of_run last) (of_chars chars)
parts_begin run chars rest [] later last h (none, same) = rw (none, same) (of_run rest, run_read run chars rest h)
parts_begin run chars rest (q ∷ qs) later last h (first, next, others, is, e, k) =
    part_begins q.kind run q.bytes chars rest next first later others (of_run last) h is e (λ cs r i. parts_begin next cs r qs others last i k)

-- the steps that came for a front of some bytes begin those of all
goes_front : (read more : List ℕ) (steps all : List Step) (last : Held)
    → (g : Goes Mode.Text first_reading [] [] read steps last.bytes last.mode last.reading last.held) → Steps (read ++ more) all → GoesOnFrom all steps
goes_front read more steps all last g s =
    let (qs, parts) =
    parts_front longest g.parts s.parts Mode.Text (read ++ more) (last.bytes ++ more) s.rest last.mode s.after
    (parts_more longest g.parts Mode.Text read more last.bytes last.mode g.first) s.first s.unsure in
    let own = as_read (read_behind first_reading g.parts) qs in
    let (first, are, e) = parted [] (as_read first_reading g.parts) own g.before s.before g.left s.run g.are (rw (← as_read_on first_reading g.parts qs, ← parts) s.read) in
    let (later, f) = parts_begin g.left g.read last.held own first s.run g.is_read are in (
      later,
      s.all ∙ ap (λ (x : List Step). x ++ of_run s.run) e ∙ append_assoc g.before first (of_run s.run) ∙ ap (λ (x : List Step). g.before ++ x) f
          ∙ sym (append_assoc g.before (of_chars g.read) later) ∙ ap (λ (x : List Step). x ++ later) (sym g.same),
    )

passes_front : (marking : Marking) (read more text : List ℕ) (last : Now) → Passes (begun_as marking) read text last → IsFrontOf (Shows marking) (read ++ more) text
passes_front marking read more text last p whole o =
    let (later, e) = goes_front read more p.steps o.steps last.reader (p.reads.goes [] [] (read_none [])) o.read in
    let behind = shown_by marking (do_all most (pen_behind_all most fresh p.steps blank) later (do_all most fresh p.steps blank).line) in (
      behind,
      o.all ∙ ap (λ (steps : List Step). shown_by marking (do_all most fresh steps blank)) e ∙ shown_on marking most p.steps later fresh blank ∙ ap (λ (t : List ℕ). t ++ behind) (sym p.all),
    )

module _ (marking : Marking) where
  shorter : (bytes sent unsent : List ℕ) → IsFrontOf (Shows marking) bytes (sent ++ unsent) → IsFrontOf (Shows marking) bytes sent
  shorter bytes sent unsent h whole k = let (more, e) = h whole k in (unsent ++ more, e ∙ append_assoc sent unsent more)

  all_front : (bytes text : List ℕ) → Transforms Passes Ending (begun_as marking) bytes text → IsFrontOf (Shows marking) bytes text
  all_front bytes text h whole k = ([], one_text marking bytes whole text k (transformed marking bytes text h) ∙ sym (append-nil text))

  -- what went out of a run is a front of the text of the whole input
  pub shown_sent : (bytes more sent : List ℕ) (i k w y : Option (List ℕ)) → Consumes i k (bytes ++ more)
      → BeginsWith (Sends Passes (begun_as marking)) (Transforms Passes Ending (begun_as marking)) ((more ≡ []) × IsAtEnd k) bytes sent → Appends w y sent
      → IfSome i (λ all. (out : List ℕ) × IsFrontOf (Shows marking) all out × Appends w y out)
  shown_sent =
      whole_front (Sends Passes (begun_as marking)) (Transforms Passes Ending (begun_as marking)) (IsFrontOf (Shows marking)) shorter
      (λ read more text (last, p). passes_front marking read more text last p) all_front
