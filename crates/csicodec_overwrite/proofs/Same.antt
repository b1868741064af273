-- What is painted is, without its sequences, the plain text.
use Rattle.csicodec_overwrite.proofs.Common.{◌≡◌, ℕ, true, false, cond, List, [], ◌∷◌, ◌++◌, map, encode_utf8_all, refl, sym, ap, subst, ◌∙◌, append_assoc, append-nil, arith, filter, flat_map, Bool, and_from, map-append, cond_both, AllByRecursion, all_scalars, lossy_chars-encode, SgrInRange, Part, parts_more, none_unsure, singles, longest, IsShown, shown, title_open, with_titles, encoded_on, all_text, all_both, single_texts, titles_on, Look, plain, Cell, Step, Char, Empty, Plain, Styled, flat_map-append, Page, AreFirstParts, part, parts_on, Strips, stripped, shown_text, scalars_on, IsInRange, attributes, further, look_of, paint, same, turn, chars_of, Done, blank, do_all, fresh, Overwrites, Paints, Steps, most, shown_by, Pages, same_look, escaped, piece_texts}
use Rattle.csicodec_overwrite.proofs.Kept.{OfCell, OfCells, chars_kept, of_done, IsGood, kept, plain_kept, steps_good}
use Rattle.csicodec_overwrite.proofs.{Spelled.look_of_one, Spelled.look_short, Spelled.look_taken, Spelled.looks_back, Written.one_reading, Written.one_text}
use Rattle.csicodec_looks.proofs.Texts.{cells_by, shown_painted, shown_plain}
use Rattle.std.proofs.Common.{encode_utf8}
use lib.Utf8.{scalar}
use Rattle.csicodec_spans.specs.{Table.Answer, Parts.Allows, Parts.IsFirstPart, Parts.IsWhole, declared.table.Kind.Kind, declared.table.Mode.Mode}
use Rattle.csicodec_spans.proofs.Agrees.{opens}
use Rattle.csicodec_clean.specs.{Links.start, Saving.looks, declared.saving.Looks.Looks, Page.AreLeft, Page.PageWith, Page.Setting, Page.setting}
use Rattle.csicodec_clean.specs.{Page.shown_pieces, Sets.as_read, Sets.first_reading, Sets.first_sets, Sets.with_sets}
use Rattle.csicodec_clean.proofs.{Drawn.drawn_singles, Drawn.first_stays, Told.all_kept, Plain.one_char, Plain.still_char}
use Rattle.csicodec_looks.specs.{Paint.look_text, Pieces.Piece as Mark, Pieces.piece_text as mark_text, declared.markup.Markup.Markup}
use Rattle.csicodec_base.specs.declared.sgr.Sgr.{Sgr}
use Rattle.csicodec_actions.specs.Actions as action
use Rattle.csicodec_looks.specs.Pieces as html

-- ---- pieces

-- a character, or the sequence of a look
pub data Piece : Type 0 where
  One : ℕ → Piece
  Turn : Look → Piece

abbrev pub piece_text : Piece → List ℕ
piece_text (One c) = encode_utf8 c
piece_text (Turn l) = look_text l

abbrev pub pieces_text : List Piece → List ℕ
pieces_text ps = flat_map piece_text ps

abbrev chars_in : List Piece → List ℕ
chars_in [] = []
chars_in (One c ∷ ps) = c ∷ chars_in ps
chars_in (Turn l ∷ ps) = chars_in ps

abbrev pub IsSafe : Piece → Type 0
IsSafe (One c) = IsGood c
IsSafe (Turn l) = IsInRange l

abbrev pub AreSafe : List Piece → Type 0
AreSafe ps = AllByRecursion IsSafe ps

-- ---- their parts

abbrev pub parts_of : List Piece → List Part
parts_of [] = []
parts_of (One c ∷ ps) = singles Kind.Text (encode_utf8 c) ++ parts_of ps
parts_of (Turn l ∷ ps) = part Kind.Csi (look_text l) ∷ parts_of ps

look_first : (l : Look) (more : List ℕ) → IsInRange l → IsFirstPart longest Mode.Text (look_text l ++ more) (part Kind.Csi (look_text l)) more Mode.Text
unfolding look_text
look_first l more h =
    let t = look_text l in
    let o = look_of_one l h in (
      refl,
      subst (λ (f : Answer). Allows f longest (t ++ more) Kind.Csi t Mode.Text)
          (sym (opens Mode.Text (48 ∷ ((flat_map further (attributes l) ++ 109 ∷ []) ++ more)))) ((o.0, o.1, o.2), omega (arith, look_short l h), refl),
    )

first_parts : (ps : List Piece) → AreSafe ps → AreFirstParts longest Mode.Text (pieces_text ps) (parts_of ps) [] Mode.Text
first_parts [] h = (refl, refl)
first_parts (One c ∷ ps) h =
    let bs = encode_utf8 c in
    let more = pieces_text ps in
    parts_on longest (singles Kind.Text bs) (parts_of ps) Mode.Text (bs ++ more) more [] Mode.Text Mode.Text
    (parts_more longest (singles Kind.Text bs) Mode.Text bs more [] Mode.Text (all_text longest bs (one_char c h.0.0))) (first_parts ps h.1)
first_parts (Turn l ∷ ps) h = (pieces_text ps, Mode.Text, look_first l (pieces_text ps) h.0, first_parts ps h.1)

pub whole_pieces : (ps : List Piece) → AreSafe ps → IsWhole longest Mode.Text (pieces_text ps) (parts_of ps)
whole_pieces ps h = record {
  sure = parts_of ps;
  rest = [];
  after = Mode.Text;
  first = first_parts ps h;
  unsure = none_unsure longest Mode.Text;
  whole = sym (append-nil (parts_of ps));
}

pub not_titled : (bs : List ℕ) → title_open false (singles Kind.Text bs) ≡ false
not_titled [] = refl
not_titled (b ∷ bs) = not_titled bs

pub untitled : (ps : List Piece) → with_titles false (parts_of ps) ≡ parts_of ps
untitled [] = refl
untitled (One c ∷ ps) =
    let front = singles Kind.Text (encode_utf8 c) in
    rw (titles_on false front (parts_of ps), not_titled (encode_utf8 c), single_texts (encode_utf8 c), untitled ps)
untitled (Turn l ∷ ps) = ap (λ (x : List Part). part Kind.Csi (look_text l) ∷ x) (untitled ps)

-- nor do the sets change
undrawn : (ps : List Piece) → AreSafe ps → with_sets first_sets (parts_of ps) ≡ parts_of ps
undrawn [] h = refl
undrawn (One c ∷ ps) h = rw (drawn_singles (encode_utf8 c) (parts_of ps) (still_char c h.0.0), undrawn ps h.1) refl
undrawn (Turn l ∷ ps) h = rw (first_stays (look_text l), undrawn ps h.1) refl

pub as_is : (ps : List Piece) → AreSafe ps → as_read first_reading (parts_of ps) ≡ parts_of ps
as_is ps h = ap (with_sets first_sets) (untitled ps) ∙ undrawn ps h

-- ---- stripped

pub shown_back : (cs : List ℕ) → all_scalars cs ≡ true → AllByRecursion IsShown cs → shown_text (encode_utf8_all cs) ≡ encode_utf8_all cs
shown_back cs a h = ap encode_utf8_all (ap (filter shown) (lossy_chars-encode cs a) ∙ all_kept cs h)

pub more_scalars : (cs : List ℕ) (c : ℕ) → all_scalars cs ≡ true → scalar c ≡ true → all_scalars (cs ++ c ∷ []) ≡ true
more_scalars cs c a h = scalars_on cs (c ∷ []) a (and_from (scalar c) true h refl)

pub more_encoded : (cs : List ℕ) (c : ℕ) → encode_utf8_all (cs ++ c ∷ []) ≡ encode_utf8_all cs ++ encode_utf8 c
more_encoded cs c = encoded_on cs (c ∷ []) ∙ ap (λ (t : List ℕ). encode_utf8_all cs ++ t) (append-nil (encode_utf8 c))

stripped_on : (bs run : List ℕ) (ps : List Part) → stripped run (singles Kind.Text bs ++ ps) ≡ stripped (run ++ bs) ps
stripped_on [] run ps = ap (λ (r : List ℕ). stripped r ps) (sym (append-nil run))
stripped_on (b ∷ bs) run ps = stripped_on bs (run ++ b ∷ []) ps ∙ ap (λ (r : List ℕ). stripped r ps) (append_assoc run (b ∷ []) bs)

stripped_pieces : (ps : List Piece) (cs : List ℕ) → all_scalars cs ≡ true → AllByRecursion IsShown cs → AreSafe ps → stripped (encode_utf8_all cs) (parts_of ps) ≡ encode_utf8_all (cs ++ chars_in ps)
stripped_pieces [] cs a h safe = shown_back cs a h ∙ ap encode_utf8_all (sym (append-nil cs))
stripped_pieces (One c ∷ ps) cs a h safe =
    let (here, one) = safe.0 in
    rw (stripped_on (encode_utf8 c) (encode_utf8_all cs) (parts_of ps), ← more_encoded cs c, ← append_assoc cs (c ∷ []) (chars_in ps))
    (stripped_pieces ps (cs ++ c ∷ []) (more_scalars cs c a one) (all_both IsShown cs (c ∷ []) h (here, tt)) safe.1)
stripped_pieces (Turn l ∷ ps) cs a h safe =
    ap (λ (t : List ℕ). t ++ stripped [] (parts_of ps)) (shown_back cs a h) ∙ ap (λ (t : List ℕ). encode_utf8_all cs ++ t) (stripped_pieces ps [] refl tt safe.1) ∙ sym (encoded_on cs (chars_in ps))

-- ---- the pieces of cells

abbrev pub turned : Look → Look → List Piece
turned old new = cond (same old new) [] (Turn new ∷ [])

abbrev pub of_cells : Look → List Cell → List Piece
of_cells look [] = turned look plain ++ []
of_cells look (cell ∷ cells) = turned look (look_of look cell) ++ (map One (chars_of cell) ++ of_cells (look_of look cell) cells)

-- all that is shown
abbrev pub of_all : Done → List Piece
of_all d = of_cells plain (cells_by d)

-- ---- their text

turned_text : (old new : Look) (ps : List Piece) → pieces_text (turned old new ++ ps) ≡ turn Styled old new ++ pieces_text ps
turned_text old new ps = grind arith

ones_text : (cs : List ℕ) (ps : List Piece) → pieces_text (map One cs ++ ps) ≡ encode_utf8_all cs ++ pieces_text ps
ones_text [] ps = refl
ones_text (c ∷ cs) ps = rw (ones_text cs ps) (simp append_assoc)

cells_text : (cells : List Cell) (look : Look) → pieces_text (of_cells look cells) ≡ paint Styled look cells
cells_text [] look = turned_text look plain [] ∙ append-nil (turn Styled look plain)
cells_text (cell ∷ cells) look =
    let next = look_of look cell in
    turned_text look next (map One (chars_of cell) ++ of_cells next cells)
    ∙ ap (λ (t : List ℕ). turn Styled look next ++ t)
    (ones_text (chars_of cell) (of_cells next cells) ∙ ap (λ (t : List ℕ). encode_utf8_all (chars_of cell) ++ t) (cells_text cells next))

pub all_painted : (d : Done) → pieces_text (of_all d) ≡ shown_by Styled d
all_painted d = cells_text (cells_by d) plain ∙ sym (shown_painted Styled d)

-- ---- their characters

turned_chars : (old new : Look) (ps : List Piece) → chars_in (turned old new ++ ps) ≡ chars_in ps
turned_chars old new ps = cond_both (same old new) [] (Turn new ∷ []) (λ (front : List Piece). chars_in (front ++ ps) ≡ chars_in ps) (λ e. refl) (λ e. refl)

ones_chars : (cs : List ℕ) (ps : List Piece) → chars_in (map One cs ++ ps) ≡ cs ++ chars_in ps
ones_chars [] ps = refl
ones_chars (c ∷ cs) ps = ap (λ (t : List ℕ). c ∷ t) (ones_chars cs ps)

cells_chars : (cells : List Cell) (look : Look) → chars_in (of_cells look cells) ≡ flat_map chars_of cells
cells_chars [] look = turned_chars look plain []
cells_chars (cell ∷ cells) look =
    let next = look_of look cell in
    turned_chars look next (map One (chars_of cell) ++ of_cells next cells) ∙ ones_chars (chars_of cell) (of_cells next cells)
    ∙ ap (λ (t : List ℕ). chars_of cell ++ t) (cells_chars cells next)

-- ---- they are safe

turned_safe : (old new : Look) (ps : List Piece) → IsInRange new → AreSafe ps → AreSafe (turned old new ++ ps)
turned_safe old new ps q h = cond_both (same old new) [] (Turn new ∷ []) (λ (front : List Piece). AreSafe (front ++ ps)) (λ e. h) (λ e. (q, h))

ones_safe : (cs : List ℕ) (ps : List Piece) → AllByRecursion IsGood cs → AreSafe ps → AreSafe (map One cs ++ ps)
ones_safe [] ps h k = k
ones_safe (c ∷ cs) ps h k = (h.0, ones_safe cs ps h.1 k)

look_safe : (look : Look) (cell : Cell) → IsInRange look → OfCell IsGood IsInRange SgrInRange cell → IsInRange (look_of look cell)
look_safe look Empty q h = plain_kept
look_safe look (Char g) q h = h.1
look_safe look _ q h = q

cells_safe : (cells : List Cell) (look : Look) → IsInRange look → OfCells IsGood IsInRange SgrInRange cells → AreSafe (of_cells look cells)
cells_safe [] look q h = turned_safe look plain [] plain_kept tt
cells_safe (cell ∷ cells) look q h =
    let next = look_of look cell in
    let after = look_safe look cell q h.0 in
    turned_safe look next (map One (chars_of cell) ++ of_cells next cells) after
    (ones_safe (chars_of cell) (of_cells next cells) (chars_kept IsGood IsInRange SgrInRange (refl, refl) cell h.0) (cells_safe cells next after h.1))

-- ---- and so

pub all_safe : (bytes : List ℕ) (steps : List Step) → Steps bytes steps → AreSafe (of_all (do_all most fresh steps blank))
all_safe bytes steps s =
    cells_safe (cells_by (do_all most fresh steps blank)) plain plain_kept
    (of_done IsGood IsInRange SgrInRange (refl, refl) (refl, refl) plain_kept kept most steps (steps_good bytes steps s))

pub same_text : (bytes painted text : List ℕ) → Paints bytes painted → Overwrites bytes text → Strips longest painted text
same_text bytes painted text o p =
    let d = do_all most fresh o.steps blank in
    let ps = of_all d in
    let safe = all_safe bytes o.steps o.read in
    let left : text ≡ encode_utf8_all (chars_in ps) =
    p.all ∙ ap (λ (steps : List Step). shown_by Plain (do_all most fresh steps blank)) (one_reading bytes p.steps o.steps p.read o.read) ∙ shown_plain d
    ∙ ap encode_utf8_all (sym (cells_chars (cells_by d) plain)) in
    rw (o.all, ← all_painted d)
    (record { parts = parts_of ps; whole = whole_pieces ps safe; left = left ∙ sym (ap (stripped []) (as_is ps safe) ∙ stripped_pieces ps [] refl tt safe) })

-- ---- The page of lines is the page of what is painted of them: piece by piece, a character is itself, and the sequence of a look the tags between
-- it and the look before.

-- ---- what is left of them on a page

-- behind pieces, text looks so
abbrev look_behind : Look → List Piece → Look
look_behind l [] = l
look_behind l (One c ∷ ps) = look_behind l ps
look_behind l (Turn new ∷ ps) = look_behind new ps

module _ (m : Markup) where
  abbrev marks : Look → List Piece → List Mark
  marks l [] = []
  marks l (One c ∷ ps) = html.Char c ∷ marks l ps
  marks l (Turn new ∷ ps) = html.turn m true l new ++ marks new ps

  -- where text looks so, no link has come
  abbrev looking : Look → Setting
  looking l = setting m (looks l plain) [] start

  shown_chars : (cs : List ℕ) → all_scalars cs ≡ true → AllByRecursion IsShown cs → shown_pieces (encode_utf8_all cs) ≡ map html.Char cs
  shown_chars cs a h = ap (λ (t : List ℕ). map html.Char (filter shown t)) (lossy_chars-encode cs a) ∙ ap (map html.Char) (all_kept cs h)

  left_on : (bs run : List ℕ) (s : Setting) (ps : List Part) (pieces : List Mark) → AreLeft s (run ++ bs) ps pieces → AreLeft s run (singles Kind.Text bs ++ ps) pieces
  left_on [] run s ps pieces h = subst (λ (r : List ℕ). AreLeft s r ps pieces) (append-nil run) h
  left_on (b ∷ bs) run s ps pieces h =
      ([], s, pieces, (refl, refl), refl, left_on bs (run ++ b ∷ []) s ps pieces (subst (λ (r : List ℕ). AreLeft s r ps pieces) (sym (append_assoc run (b ∷ []) bs)) h))

  left : (ps : List Piece) (l : Look) (cs : List ℕ) → look_behind l ps ≡ plain → all_scalars cs ≡ true → AllByRecursion IsShown cs → AreSafe ps
      → AreLeft (looking l) (encode_utf8_all cs) (parts_of ps) (map html.Char cs ++ marks l ps)
  left [] l cs e a h safe = rw e (ap (λ (t : List Mark). t ++ []) (sym (shown_chars cs a h)))
  left (One c ∷ ps) l cs e a h safe =
      let (here, one) = safe.0 in
      left_on (encode_utf8 c) (encode_utf8_all cs) (looking l) (parts_of ps) (map html.Char cs ++ (html.Char c ∷ marks l ps))
      (rw (more_encoded cs c, map-append html.Char cs (c ∷ []), append_assoc) at
      (left ps l (cs ++ c ∷ []) e (more_scalars cs c a one) (all_both IsShown cs (c ∷ []) h (here, tt)) safe.1))
  left (Turn new ∷ ps) l cs e a h safe =
      let back = looks_back plain l new in (
        html.turn m true l new,
        looking new,
        marks new ps,
        (
          map action.Sgr (Sgr.Reset ∷ attributes new),
          look_taken new safe.0,
          ap (λ (x : Looks). setting m x [] start) (sym back),
          ap (λ (x : Looks). html.turn m true l x.look) (sym back),
        ),
        ap (λ (t : List Mark). t ++ (html.turn m true l new ++ marks new ps)) (sym (shown_chars cs a h)),
        left ps new [] e refl tt safe.1,
      )

  -- ---- of a turn, of characters and of cells

  turned_behind : (old new : Look) (ps : List Piece) → look_behind old (turned old new ++ ps) ≡ look_behind new ps
  turned_behind old new ps = cond_both (same old new) [] (Turn new ∷ []) (λ (front : List Piece). look_behind old (front ++ ps) ≡ look_behind new ps)
      (λ e. ap (λ (l : Look). look_behind l ps) (same_look old new e)) (λ e. refl)

  ones_behind : (cs : List ℕ) (ps : List Piece) (l : Look) → look_behind l (map One cs ++ ps) ≡ look_behind l ps
  ones_behind [] ps l = refl
  ones_behind (c ∷ cs) ps l = ones_behind cs ps l

  cells_behind : (cells : List Cell) (l : Look) → look_behind l (of_cells l cells) ≡ plain
  cells_behind [] l = turned_behind l plain []
  cells_behind (cell ∷ cells) l =
      let next = look_of l cell in
      turned_behind l next (map One (chars_of cell) ++ of_cells next cells) ∙ ones_behind (chars_of cell) (of_cells next cells) next ∙ cells_behind cells next

  turned_marks : (old new : Look) (ps : List Piece) → piece_texts (marks old (turned old new ++ ps)) ≡ turn (Page m) old new ++ piece_texts (marks new ps)
  turned_marks old new ps = by (same old new) refl
    where
      by : (t : Bool) → same old new ≡ t → piece_texts (marks old (cond t [] (Turn new ∷ []) ++ ps)) ≡ cond t [] (piece_texts (html.turn m true old new)) ++ piece_texts (marks new ps)
      by true e = ap (λ (l : Look). piece_texts (marks l ps)) (same_look old new e)
      by false e = flat_map-append mark_text (html.turn m true old new) (marks new ps)

  ones_marks : (cs : List ℕ) (ps : List Piece) (l : Look) → piece_texts (marks l (map One cs ++ ps)) ≡ flat_map escaped cs ++ piece_texts (marks l ps)
  ones_marks [] ps l = refl
  ones_marks (c ∷ cs) ps l = rw (ones_marks cs ps l) (simp append_assoc)

  cells_marks : (cells : List Cell) (l : Look) → piece_texts (marks l (of_cells l cells)) ≡ paint (Page m) l cells
  cells_marks [] l = turned_marks l plain [] ∙ append-nil (turn (Page m) l plain)
  cells_marks (cell ∷ cells) l =
      let next = look_of l cell in
      turned_marks l next (map One (chars_of cell) ++ of_cells next cells)
      ∙ ap (λ (t : List ℕ). turn (Page m) l next ++ t)
      (ones_marks (chars_of cell) (of_cells next cells) next ∙ ap (λ (t : List ℕ). flat_map escaped (chars_of cell) ++ t) (cells_marks cells next))

  page_of : (ps : List Piece) → AreSafe ps → look_behind plain ps ≡ plain → PageWith m (pieces_text ps) (piece_texts (marks plain ps))
  page_of ps safe e = record {
    parts = parts_of ps;
    whole = whole_pieces ps safe;
    pieces = marks plain ps;
    left = subst (λ (parts : List Part). AreLeft (looking plain) [] parts (marks plain ps)) (sym (as_is ps safe)) (left ps plain [] e refl tt safe);
    all = refl;
  }

  -- ---- and so

  -- what is painted of the same bytes, and has that page
  pub painted_page : (bytes page : List ℕ) → Pages m bytes page → (painted : List ℕ) × Paints bytes painted × PageWith m painted page
  painted_page bytes page p =
      let d = do_all most fresh p.steps blank in
      let made = page_of (of_all d) (all_safe bytes p.steps p.read) (cells_behind (cells_by d) plain) in (
        shown_by Styled d,
        record { steps = p.steps; read = p.read; all = refl },
        subst (λ (t : List ℕ). PageWith m t page) (all_painted d) (subst (PageWith m (pieces_text (of_all d))) (cells_marks (cells_by d) plain ∙ sym (shown_painted (Page m) d) ∙ sym p.all) made),
      )

  pub same_page : (bytes painted page : List ℕ) → Paints bytes painted → Pages m bytes page → PageWith m painted page
  same_page bytes painted page o p =
      let (other, paints, made) = painted_page bytes page p in
      subst (λ (t : List ℕ). PageWith m t page) (one_text Styled bytes other painted paints o) made
