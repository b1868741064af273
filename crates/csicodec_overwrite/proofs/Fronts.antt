-- The front of a line that is written as it comes, and its end.
use Rattle.csicodec_overwrite.proofs.Common.{◌≡◌, ◌≤◌, ◌+◌, ◌-◌, ◌*◌, ℕ, zero, suc, Bool, true, false, List, [], ◌∷◌, ◌++◌, length, length-append, replicate, refl, sym, ap, subst, ◌∙◌, append_assoc, append-nil, arith, ◌/◌, ◌==◌, eqb-true, encode_utf8_all, AllByRecursion, IsPlainByte, Look, plain, Cell, Marking, Behind, Char, Glyph, Line, Page, Plain, Styled, Pen, Step, Done, before, behind_columns, blank, cells_of, do_all, does, done, line, pen_behind, pen_behind_all, put, IsFront, IsStyled, IsWritten, IsWrittenTo, drawn, last_look, last_of_run, run_text, AreFull, AreLines, IsLineByte, PutsPlain, closed, end_of, LineFront, Now, Passes, Reads, Held, IsAscii, IsBare, Ascii, in_use, AreLooks, IsLook, SetsLook, of_chars, most, columns, glyph, onto, width, ended, paint, shows_looks, text_of, texts_of, turn, written}
use Rattle.csicodec_overwrite.proofs.{LineTexts.line_text, LineTexts.no_newline, Stays.reads_end, Stays.reads_line, Read.reads_none, Read.reads_on}
use Rattle.csicodec_overwrite.proofs.{Written.all_on, Written.passes_on, Written.pen_on}
use Rattle.csicodec_overwrite.specs.Private.Front.{IsLed, IsLineChar, IsLineText}
use Rattle.csicodec_looks.proofs.Stays.{few_cells, cells, cells_full, cells_length, full_trimmed, put_cells, puts}
use Rattle.csicodec_looks.proofs.{Texts.blank_written, Texts.turn_same, Texts.written_none, Texts.written_on, Texts.text_painted, Rows.standing_settled}
use Rattle.std.specs.Prelude.{⊤}
use Rattle.std.proofs.lemmas.Str.{length-le-encodes}
use Rattle.csicodec_tokens.proofs.Walks.{All-push}

-- ---- what is written of cells

painted_drawn : (marking : Marking) (left right : List Cell)
    → paint marking plain (onto left right) ≡ drawn marking left ++ paint marking (last_look left) right
painted_drawn marking [] right = refl
painted_drawn marking (x ∷ left) right = rw (painted_drawn marking left (x ∷ right)) (simp append_assoc)

all_drawn : (marking : Marking) (left : List Cell)
    → text_of marking (onto left []) ≡ drawn marking left ++ turn marking (last_look left) plain
all_drawn marking left = text_painted marking (onto left []) ∙ painted_drawn marking left []

-- the cells of a character
module _ (marking : Marking) (g : Glyph) (left : List Cell) where
  char_look : (w : ℕ) → last_look (replicate w Behind ++ Char g ∷ left) ≡ g.look
  char_look zero = refl
  char_look (suc w) = char_look w

  char_drawn : (w : ℕ) → drawn marking (replicate w Behind ++ Char g ∷ left) ≡ drawn marking left
      ++ (turn marking (last_look left) g.look ++ written marking (g.char ∷ []))
  char_drawn zero = refl
  char_drawn (suc w) = rw (turn_same marking (last_look (replicate w Behind ++ Char g ∷ left)), written_none marking, append-nil) (char_drawn w)

  -- one that takes no column looks as what is before it
  cells_look : (w : ℕ) → (w ≡ 0 → last_look left ≡ g.look) → last_look (cells g w left) ≡ g.look
  cells_look zero same = same refl
  cells_look (suc w) same = char_look w

  cells_drawn : (w : ℕ) → (w ≡ 0 → last_look left ≡ g.look) → drawn marking (cells g w left) ≡ drawn marking left
      ++ (turn marking (last_look left) g.look ++ written marking (g.char ∷ []))
  cells_drawn zero same = ap (λ (l : Look). drawn marking left ++ (turn marking (last_look left) l ++ written marking (g.char ∷ []))) (same refl)
  cells_drawn (suc w) same = char_drawn w

-- ---- text

pub run_nothing : (marking : Marking) (last now : Look) (cs run old : List ℕ) → run ≡ encode_utf8_all cs → (length run == 0) ≡ true → old ≡ old ++ run_text marking last now cs
run_nothing marking last now [] run old own none = rw (turn_same marking last, written_none marking, append-nil) refl
run_nothing marking last now (c ∷ cs) run old own none = absurd (omega (arith, eqb-true (length run) 0 none, ap length own, length-le-encodes (c ∷ cs)))

pub run_some : (last now : Look) (cs run : List ℕ) → run ≡ encode_utf8_all cs → (length run == 0) ≡ false → last_of_run last now cs ≡ now
run_some last now [] run own some = let none : true ≡ false = sym (ap (λ (t : List ℕ). length t == 0) own) ∙ some in cc
run_some last now (c ∷ cs) run own some = refl

pub run_last : (last now : Look) (cs run : List ℕ) → run ≡ encode_utf8_all cs → last_of_run last now run ≡ last_of_run last now cs
run_last last now [] run own = ap (last_of_run last now) own
run_last last now (c ∷ cs) [] own = absurd (omega (arith, ap length own, length-le-encodes (c ∷ cs)))
run_last last now (c ∷ cs) (b ∷ run) own = refl

-- where the first of them takes no column, they look as what is before them
abbrev Follows : Look → Look → List ℕ → Type 0
Follows last now [] = ⊤
Follows last now (c ∷ cs) = (column : ℕ) → width c column ≡ 0 → last ≡ now

follows_same : (last now : Look) (cs : List ℕ) → last ≡ now → Follows last now cs
follows_same last now [] same = tt
follows_same last now (c ∷ cs) same = λ column none. same

follows_led : (last now : Look) (cs : List ℕ) → IsLed cs → Follows last now cs
follows_led last now [] led = tt
follows_led last now (c ∷ cs) led = λ column none. absurd (omega (arith, led column, none))

-- behind some cells, a run of it
record Runs (limit : ℕ) (marking : Marking) (pen : Pen) (cs : List ℕ) (left : List Cell) : Type 0 where
  more : List Cell
  full : AreFull more
  few : length more ≤ length left + 8 * length cs
  lines : (do_all limit pen (of_chars cs) (line left [])).lines ≡ []
  pens : closed (pen_behind_all limit pen (of_chars cs) (line left [])) ≡ closed pen
  line : (do_all limit pen (of_chars cs) (line left [])).line ≡ line more []
  look : last_look more ≡ last_of_run (last_look left) pen.look cs
  text : drawn marking more ≡ drawn marking left ++ run_text marking (last_look left) pen.look cs

run_look : (l : Look) (cs : List ℕ) → last_of_run l l cs ≡ l
run_look l [] = refl
run_look l (c ∷ cs) = refl

run_same : (marking : Marking) (l : Look) (cs : List ℕ) → run_text marking l l cs ≡ written marking cs
run_same marking l cs = ap (λ (x : Look). turn marking l x ++ written marking cs) (run_look l cs) ∙ ap (λ (t : List ℕ). t ++ written marking cs) (turn_same marking l)

runs : (limit : ℕ) (marking : Marking) (pen : Pen) (cs : List ℕ) (left : List Cell) → pen.inserts ≡ false → AllByRecursion IsLineChar cs
    → Follows (last_look left) pen.look cs → AreFull left → length left + 8 * length cs ≤ limit → Runs limit marking pen cs left
runs limit marking pen [] left over h follows full few = record {
  more = left;
  full = full;
  few = omega arith;
  lines = refl;
  line = refl;
  pens = refl;
  look = refl;
  text = rw (turn_same marking (last_look left), written_none marking, append-nil) refl;
}
runs limit marking pen (c ∷ cs) left over h follows full few =
    let (shown, inside) = no_newline c h.0 in
    let (s, of, kept, is_put) = puts pen c shown inside in
    let g = glyph c pen.look in
    let w = width c (columns left) in
    let next = cells g w left in
    let then = pen_behind pen s (columns left) in
    let look : then.look ≡ pen.look = ap (λ (p : Pen). p.look) (kept (columns left)) in
    let same : last_look next ≡ pen.look = cells_look marking g left w (follows (columns left)) in
    let told = cells_drawn marking g left w (follows (columns left)) in
    let longer : length next ≤ length left + 8 = omega (arith, cells_length g w left, few_cells c (columns left)) in
    let one : does limit pen s (line left []) ≡ done [] (line next []) =
    is_put limit left ∙ ap (λ (b : Bool). put limit b g (line left [])) over
    ∙ put_cells limit g left (omega (arith, few_cells c (columns left), few)) in
    let r = runs limit marking then cs next (ap (λ (p : Pen). p.inserts) (kept (columns left)) ∙ over) h.1
    (follows_same (last_look next) then.look cs (same ∙ sym look)) (cells_full g w left full) (omega (arith, longer, few)) in
    record {
      more = r.more;
      full = r.full;
      few = omega (arith, r.few, longer);
      lines = rw of (ap (λ (d : Done). (before d.lines (do_all limit then (of_chars cs) d.line)).lines) one ∙ r.lines);
      line = rw of (ap (λ (d : Done). (before d.lines (do_all limit then (of_chars cs) d.line)).line) one ∙ r.line);
      pens = rw of (ap (λ (d : Done). closed (pen_behind_all limit then (of_chars cs) d.line)) one ∙ r.pens ∙ kept (columns left));
      look = r.look ∙ rw (same, look) (run_look pen.look cs);
      text = r.text ∙ rw (same, look, run_same marking pen.look cs, told, written_on marking (c ∷ []) cs) (simp append_assoc);
    }

-- ---- sequences that set how it looks

record Still (limit : ℕ) (pen : Pen) (s : Step) (left : List Cell) (mid : Look) : Type 0 where
  same : does limit pen s (line left []) ≡ done [] (line left [])
  look : (pen_behind pen s (columns left)).look ≡ mid
  kept : (l : Look) → closed (record (pen_behind pen s (columns left)) { look = l }) ≡ closed (record pen { look = l })

still_one : (limit : ℕ) (pen : Pen) (s : Step) (left : List Cell) (mid : Look) → IsLook pen.look s mid → Still limit pen s left mid
still_one limit pen (Step.Attribute a) left mid h = record { same = refl; look = sym h; kept = λ l. refl }
still_one limit pen Step.EraseRight left mid h = record { same = refl; look = sym h; kept = λ l. refl }
still_one limit pen Step.Other left mid h = record { same = refl; look = sym h; kept = λ l. refl }
still_one limit pen _ left mid h = absurd h

still : (limit : ℕ) (steps : List Step) (after : Look) (pen : Pen) (left : List Cell) → AreLooks pen.look steps after
    → ((do_all limit pen steps (line left [])).lines ≡ []) × ((do_all limit pen steps (line left [])).line ≡ line left []) ×
    (closed (pen_behind_all limit pen steps (line left [])) ≡ closed (record pen { look = after }))
still limit [] after pen left h = (refl, refl, ap (λ (l : Look). closed (record pen { look = l })) (sym h))
still limit (s ∷ steps) after pen left (mid, one, others) =
    let k = still_one limit pen s left mid one in
    let then = pen_behind pen s (columns left) in
    let later = still limit steps after then left (subst (λ (l : Look). AreLooks l steps after) (sym k.look) others) in (
      ap (λ (d : Done). (before d.lines (do_all limit then steps d.line)).lines) k.same ∙ later.0,
      ap (λ (d : Done). (before d.lines (do_all limit then steps d.line)).line) k.same ∙ later.1,
      ap (λ (d : Done). closed (pen_behind_all limit then steps d.line)) k.same ∙ later.2 ∙ k.kept after,
    )

-- ---- the front

front_none : (h : Held) (marking : Marking) (pen : Pen) → IsBare h → IsFront h marking pen [] [] plain pen.look
front_none h marking pen bare = record {
  steps = [];
  cells = [];
  reads = reads_none h bare;
  lines = refl;
  line = refl;
  pens = refl;
  full = tt;
  few = omega arith;
  looks = refl;
  drawn = refl;
}

module _ (h : Held) (marking : Marking) (pen : Pen) (bytes text : List ℕ) (last now : Look) (ascii : IsAscii h) (f : IsFront h marking pen bytes text last now) where
  abbrev then : Pen
  then = pen_behind_all most pen f.steps blank

  on : (more : List ℕ) (steps : List Step) (cells : List Cell) (whole : List ℕ) (next after : Look) → Reads h more steps h
      → (do_all most then steps (line f.cells [])).lines ≡ [] → (do_all most then steps (line f.cells [])).line ≡ line cells []
      → closed (pen_behind_all most then steps (line f.cells [])) ≡ closed (record pen { look = after }) → AreFull cells
      → length cells ≤ length f.cells + 8 * length more → next ≡ last_look cells → whole ≡ drawn marking cells
      → IsFront h marking pen (bytes ++ more) whole next after
  on more steps cells whole next after reads lines is pens full few looks text = record {
    steps = f.steps ++ steps;
    cells = cells;
    reads = reads_on h h h bytes more f.steps steps f.reads reads;
    lines = rw (all_on most f.steps steps pen blank, f.lines, f.line) lines;
    line = rw (all_on most f.steps steps pen blank, f.line) is;
    pens = rw (pen_on most f.steps steps pen blank, f.line) pens;
    full = full;
    few = omega (arith, few, f.few, length-append bytes more);
    looks = looks;
    drawn = text;
  }

  look_is : then.look ≡ now
  look_is = ap (λ (p : Pen). p.look) f.pens

  run_on : (run cs : List ℕ) → pen.inserts ≡ false → IsLineText run cs → 8 * length (bytes ++ run) ≤ most
      → IsFront h marking pen (bytes ++ run) (text ++ run_text marking last now cs) (last_of_run last now cs) now
  run_on run cs over (valid, chars, own, led) few =
      let short : length cs ≤ length run = omega (arith, length-le-encodes cs, ap length own) in
      let r = runs most marking then cs f.cells (ap (λ (p : Pen). p.inserts) f.pens ∙ over) chars (follows_led (last_look f.cells) then.look cs led) f.full
      (omega (arith, few, f.few, short, length-append bytes run)) in
      on run (of_chars cs) r.more (text ++ run_text marking last now cs) (last_of_run last now cs) now (reads_line h run cs ascii (valid, chars, own, led)) r.lines
      r.line (r.pens ∙ f.pens) r.full (omega (arith, r.few, short)) (rw (f.looks, r.look, look_is) refl) (rw (f.drawn, f.looks, r.text, look_is) refl)

  sets_on : (sequence : List ℕ) (after : Look) → SetsLook h sequence now after → IsFront h marking pen (bytes ++ sequence) text last after
  sets_on sequence after (steps, reads, looks) =
      let (lines, is, pens) = still most steps after then f.cells (subst (λ (l : Look). AreLooks l steps after) (sym look_is) looks) in
      on sequence steps f.cells text last after reads lines is (pens ∙ ap (λ (p : Pen). record p { look = after }) f.pens) f.full
      (omega arith) f.looks f.drawn

module _ (h : Held) (marking : Marking) (pen : Pen) (bytes before : List ℕ) (ascii : IsAscii h) where
  -- nothing yet
  pub front_begins : IsWrittenTo h marking pen bytes before bytes plain pen.look before
  front_begins = ([], [], refl, front_none h marking pen ascii.0, sym (append-nil before))

  -- the text in front of the rest
  pub run_written : (rest run cs behind mid after : List ℕ) (last now next : Look) → pen.inserts ≡ false → IsWrittenTo h marking pen bytes before rest last now mid
      → rest ≡ run ++ behind → IsLineText run cs → length bytes - length behind ≤ most / 8
      → next ≡ last_of_run last now cs → after ≡ mid ++ run_text marking last now cs → IsWrittenTo h marking pen bytes before behind next now after
  run_written rest run cs behind mid after last now next over (front, text, split, f, out) parts plain few look longer =
      let told = run_text marking last now cs in
      let whole : bytes ≡ (front ++ run) ++ behind = split ∙ ap (λ (t : List ℕ). front ++ t) parts ∙ sym (append_assoc front run behind) in (
        front ++ run,
        text ++ told,
        whole,
        rw look (run_on h marking pen front text last now ascii f run cs over plain (omega (arith, few, ap length whole, length-append (front ++ run) behind))),
        longer ∙ ap (λ (t : List ℕ). t ++ told) out ∙ append_assoc before text told,
      )

  -- a sequence in front of it, and the text behind that
  pub styled_written : (mid after : List ℕ) (old new : LineFront) → pen.inserts ≡ false → new.least ≡ length bytes - most / 8
      → IsWritten h marking pen bytes before old mid → IsStyled h marking old mid new after → IsWritten h marking pen bytes before new after
  styled_written mid after old new over least (front, told, split, f, out) s =
      run_written (s.text ++ new.rest.now) s.text s.run new.rest.now mid after old.last new.now new.last over (
        front ++ s.sequence,
        told,
        split ∙ ap (λ (t : List ℕ). front ++ t) s.parts ∙ sym (append_assoc front s.sequence (s.text ++ new.rest.now)),
        sets_on h marking pen front told old.last old.now ascii f s.sequence new.now s.sets,
        out,
      ) refl s.plain (omega (arith, least, s.room)) s.looks s.longer

-- ---- the end of the line

-- where this is held, and so much is written
abbrev pub ready : Held → Marking → Pen → Line → Now
ready o marking pen l = record { reader = o; pen = pen; marking = marking; line = l }

module _ (o : Held) (bare : IsBare o) where
  -- behind a return or none
  pub end_passes : (marking : Marking) (pen : Pen) (l : Line) (returned : Bool)
      → Passes (ready o marking pen l) (end_of returned) (ended marking (cells_of l)) (ready o marking (closed pen) blank)
  end_passes marking pen l false = record {
    steps = of_chars (end_of false);
    reads = reads_end o false bare;
    pen = refl;
    marking = refl;
    line = refl;
    all = sym (append-nil (ended marking (cells_of l)));
  }
  end_passes marking pen l true = record {
    steps = of_chars (end_of true);
    reads = reads_end o true bare;
    pen = refl;
    marking = refl;
    line = refl;
    all = rw (← standing_settled most 0 l) (sym (append-nil (ended marking (cells_of (behind_columns most 0 l)))));
  }

  pub line_passes : (marking : Marking) (pen : Pen) (bytes text : List ℕ) (last now : Look) (returned : Bool) → IsFront o marking pen bytes text last now
      → Passes (ready o marking pen blank) (bytes ++ end_of returned) (text ++ (turn marking last plain ++ 10 ∷ [])) (ready o marking (closed
      (record pen { look = now })) blank)
  line_passes marking pen bytes text last now returned f =
      let then = pen_behind_all most pen f.steps blank in
      let mid = ready o marking then (line f.cells []) in
      let new = ready o marking (closed (record pen { look = now })) blank in
      let front : Passes (ready o marking pen blank) bytes [] mid = record {
        steps = f.steps;
        reads = f.reads;
        pen = refl;
        marking = refl;
        line = sym f.line;
        all = ap (texts_of marking) (sym f.lines);
      } in
      let whole : ended marking (cells_of (line f.cells [])) ≡ text ++ (turn marking last plain ++ 10 ∷ []) =
      rw (full_trimmed f.cells f.full, f.looks, f.drawn, all_drawn marking f.cells) (append_assoc (drawn marking f.cells) (turn marking
      (last_look f.cells) plain) (10 ∷ [])) in
      rw (← whole) (passes_on (ready o marking pen blank) mid new bytes (end_of returned) [] (ended marking (cells_of (line f.cells []))) front
      (rw (← f.pens) (end_passes marking then (line f.cells []) returned)))

  -- ---- lines of text alone

  plain_same : (m : Marking) (look : Look) (run : List ℕ) → look ≡ plain
      → run_text m plain look run ++ (turn m (last_of_run plain look run) plain ++ 10 ∷ []) ≡ written m (run ++ 10 ∷ [])
  plain_same m look run e = rw (written_on m run (10 ∷ []), (blank_written m).0, e, run_same m plain run, run_look plain run, turn_same m plain) refl

  plain_text : (m : Marking) (look : Look) (run : List ℕ) → (shows_looks m ≡ true → look ≡ plain)
      → run_text m plain look run ++ (turn m (last_of_run plain look run) plain ++ 10 ∷ []) ≡ written m (run ++ 10 ∷ [])
  plain_text Plain look run h = rw (written_on Plain run (10 ∷ []), (blank_written Plain).0) refl
  plain_text Styled look run h = plain_same Styled look run (h refl)
  plain_text (Page n) look run h = plain_same (Page n) look run (h refl)

  abbrev pub Stand : Marking → Pen → List ℕ → Type 0
  Stand marking pen text = Passes (ready o marking pen blank) text (written marking text) (ready o marking (closed pen) blank)

  module _ (is : in_use o.reading.sets ≡ Ascii) where
    abbrev ascii : IsAscii o
    ascii = (bare, is)

    stands : (marking : Marking) (pen : Pen) (run : List ℕ) → PutsPlain (shows_looks marking) pen → AllByRecursion IsLineByte run → 8 * length run ≤ most
        → Stand marking pen (run ++ 10 ∷ [])
    stands marking pen run (over, look) h few =
        subst (λ (t : List ℕ). Passes (ready o marking pen blank) (run ++ 10 ∷ []) t (ready o marking (closed pen) blank)) (plain_text marking pen.look run look)
        (line_passes marking pen run (run_text marking plain pen.look run) (last_of_run plain pen.look run) pen.look
        false (run_on o marking pen [] [] plain pen.look ascii (front_none o marking pen bare) run run over (line_text run h) few))

    stand : (marking : Marking) (pen : Pen) (run front : List ℕ) → PutsPlain (shows_looks marking) pen → AllByRecursion IsLineByte run → AllByRecursion IsPlainByte front
        → 8 * length (run ++ front) ≤ most → Stand marking pen (run ++ (front ++ 10 ∷ []))
    stand marking pen run [] puts h plains few = stands marking pen run puts h (omega (arith, few, length-append run []))
    stand marking pen run (c ∷ cs) puts h plains few =
        by (c == 10) refl (stand marking (closed pen) [] cs puts tt plains.1 (omega (arith, few, length-append run (c ∷ cs))))
        (λ (k : IsLineByte c). stand marking pen (run ++ c ∷ []) cs puts (All-push IsLineByte run c h k) plains.1
        (omega (arith, few, length-append run (c ∷ cs), length-append (run ++ c ∷ []) cs, length-append run (c ∷ []))))
      where
        by : (t : Bool) → (c == 10) ≡ t → Stand marking (closed pen) (cs ++ 10 ∷ []) → (IsLineByte c → Stand marking pen ((run ++ c ∷ []) ++ (cs ++ 10 ∷ [])))
            → Stand marking pen (run ++ (c ∷ cs ++ 10 ∷ []))
        by true e later same =
            let line = run ++ 10 ∷ [] in
            let rest = cs ++ 10 ∷ [] in
            let now = ready o marking (closed pen) blank in
            rw (eqb-true c 10 e, ← append_assoc run (10 ∷ []) rest, written_on marking line rest)
            (passes_on (ready o marking pen blank) now now line rest (written marking line) (written marking rest)
            (stands marking pen run puts h (omega (arith, few, length-append run (c ∷ cs)))) later)
        by false e later same = subst (Stand marking pen) (append_assoc run (c ∷ []) (cs ++ 10 ∷ [])) (same (rw e at plains.0))

    pub lines_pass : (marking : Marking) (pen : Pen) (bytes lines rest : List ℕ) → PutsPlain (shows_looks marking) pen → AreLines (most / 8) bytes lines rest
        → Stand marking pen lines
    lines_pass marking pen bytes lines rest puts (front, ends, split, plains, few) =
        rw ends (stand marking pen [] front puts tt plains (omega (arith, few, ap length ends, length-append front (10 ∷ []))))
