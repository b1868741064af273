-- Plain text of which each line has room stays as it is.
use Rattle.csicodec_looks.proofs.Common.{◌≡◌, ◌≤◌, ℕ, ◌+◌, zero, suc, Bool, true, false, cond, List, [], ◌∷◌, ◌++◌, length, replicate, refl, sym, ap, subst, ◌∙◌, append_assoc, append-nil, arith, ◌==◌, max, flat_map, ◌<◌, unwrap_or, Option, Some, eqb-true, nat_tests, length-replicate, AllByRecursion, IsShown, shown, Cell, Behind, Char, Mark, Glyph, Pen, Step, cond_both, IsPlainByte, all_weaker, is_shown, Line, Done, HasRoom, before, blank, cells_of, do_all, does, done, line, pen_behind, placed, put, pen_behind_all, AreFull, closed, IsLineByte, IsUntabbed, PutsRun, glyphs, last_of, of_char, of_chars, chars_of, columns, glyph, onto, trimmed, width}
use Rattle.csicodec_looks.proofs.{Moved.columns_both, Moved.columns_same, Moved.narrow_few, Texts.chars_before, Texts.chars_by}
use Rattle.std.proofs.lemmas.List.{length-append}
use Rattle.unicode_width.specs.Width.{char_width}

-- ---- cells of which none is empty

-- their characters, where the last stands nearest
abbrev chars : List Cell → List ℕ
chars left = flat_map chars_of (onto left [])

chars_onto : (left right : List Cell) → flat_map chars_of (onto left right) ≡ chars left ++ flat_map chars_of right
chars_onto [] right = refl
chars_onto (x ∷ left) right = rw (chars_onto left (x ∷ right), chars_onto left (x ∷ [])) (simp (append_assoc, append-nil))

one_more : (x : Cell) (left : List Cell) → chars (x ∷ left) ≡ chars left ++ chars_of x
one_more x left = chars_onto left (x ∷ []) ∙ ap (λ (t : List ℕ). chars left ++ t) (append-nil (chars_of x))

pub full_trimmed : (left : List Cell) → AreFull left → trimmed left ≡ left
full_trimmed [] h = refl
full_trimmed (x ∷ left) h = ap (λ (t : Bool). cond t (trimmed left) (x ∷ left)) h.0

full_text : (left : List Cell) → AreFull left → flat_map chars_of (cells_of (line left [])) ≡ chars left
full_text left h = ap chars (full_trimmed left h)

-- ---- the cells of one character

abbrev pub cells : Glyph → ℕ → List Cell → List Cell
cells g zero left = Mark g.char ∷ left
cells g (suc w) left = replicate w Behind ++ Char g ∷ left

cells_chars : (g : Glyph) (w : ℕ) (left : List Cell) → chars (cells g w left) ≡ chars left ++ g.char ∷ []
cells_chars g zero left = one_more (Mark g.char) left
cells_chars g (suc w) left = behind w
  where
    behind : (n : ℕ) → chars (replicate n Behind ++ Char g ∷ left) ≡ chars left ++ g.char ∷ []
    behind zero = one_more (Char g) left
    behind (suc n) = one_more Behind (replicate n Behind ++ Char g ∷ left) ∙ append-nil (chars (replicate n Behind ++ Char g ∷ left)) ∙ behind n

pub cells_full : (g : Glyph) (w : ℕ) (left : List Cell) → AreFull left → AreFull (cells g w left)
cells_full g zero left h = (refl, h)
cells_full g (suc w) left h = behind w
  where
    behind : (n : ℕ) → AreFull (replicate n Behind ++ Char g ∷ left)
    behind zero = (refl, h)
    behind (suc n) = (refl, behind n)

cells_columns : (g : Glyph) (w : ℕ) (left : List Cell) → columns (cells g w left) ≡ columns left + w
cells_columns g zero left = omega arith
cells_columns g (suc w) left = omega (arith, columns_both (replicate w Behind) (Char g ∷ left), columns_same Behind refl w)

pub cells_length : (g : Glyph) (w : ℕ) (left : List Cell) → length (cells g w left) ≡ length left + max w 1
cells_length g zero left = omega arith
cells_length g (suc w) left = omega (arith, length-append (replicate w Behind) (Char g ∷ left), length-replicate w Behind)

placed_cells : (g : Glyph) (w : ℕ) (left : List Cell) → placed false g w (line left []) ≡ line (cells g w left) []
placed_cells g zero left = refl
placed_cells g (suc w) left = grind (arith, nat_tests)

pub put_cells : (limit : ℕ) (g : Glyph) (left : List Cell) → length left + max (width g.char (columns left)) 1 ≤ limit
    → put limit false g (line left []) ≡ done [] (line (cells g (width g.char (columns left)) left) [])
put_cells limit g left h = grind (arith, nat_tests, placed_cells g (width g.char (columns left)) left)

-- ---- the steps of plain text

-- a character that is shown, but for a newline, stands in the line
abbrev pub Puts : Pen → ℕ → Type 0
Puts pen c = (s : Step) × (of_char c ≡ s ∷ []) × ((column : ℕ) → closed (pen_behind pen s column) ≡ closed pen)
    × ((limit : ℕ) (left : List Cell) → does limit pen s (line left []) ≡ put limit pen.inserts (glyph c pen.look) (line left []))

pub not_shown : (c d : ℕ) → c ≡ d → shown d ≡ false → IsShown c → ⊥
not_shown c d e f h = let g : shown d ≡ true = subst (λ (x : ℕ). shown x ≡ true) e h in cc

pub put_of : (c : ℕ) → (c == 10) ≡ false → (c == 13) ≡ false → (c == 8) ≡ false → (c == 9) ≡ false → shown c ≡ true → of_char c ≡ Step.Put c ∷ []
put_of c e f g i k = grind arith

pub puts : (pen : Pen) (c : ℕ) → IsShown c → (c == 10) ≡ false → Puts pen c
puts pen c h e = by (c == 13) (c == 8) (c == 9) refl refl refl
  where
    by : (return back tab : Bool) → (c == 13) ≡ return → (c == 8) ≡ back → (c == 9) ≡ tab → Puts pen c
    by true back tab f g i = absurd (not_shown c 13 (eqb-true c 13 f) refl h)
    by false true tab f g i = absurd (not_shown c 8 (eqb-true c 8 g) refl h)
    by false false true f g i = (
      Step.Tab,
      rw (e, f, g, i) refl,
      λ column. refl,
      λ limit left. ap (λ (d : ℕ). put limit pen.inserts (glyph d pen.look) (line left [])) (sym
          (eqb-true c 9 i)),
    )
    by false false false f g i = (Step.Put c, put_of c e f g i h, λ column. refl, λ limit left. refl)

pub stays : (limit : ℕ) (pen : Pen) (cs : List ℕ) (left : List Cell) → pen.inserts ≡ false → AreFull left → AllByRecursion IsShown cs → HasRoom limit (columns left) (length left) cs
    → chars_by (do_all limit pen (of_chars cs) (line left [])) ≡ chars left ++ cs
stays limit pen [] left over full all room = full_text left full ∙ sym (append-nil (chars left))
stays limit pen (c ∷ cs) left over full all room = by (c == 10) refl (λ p next. stays limit p cs next)
  where
    by : (t : Bool) → (c == 10) ≡ t
        → ((p : Pen) (next : List Cell) → p.inserts ≡ false → AreFull next → AllByRecursion IsShown cs → HasRoom limit (columns next) (length next) cs
        → chars_by (do_all limit p (of_chars cs) (line next [])) ≡ chars next ++ cs)
        → chars_by (do_all limit pen (of_char c ++ of_chars cs) (line left [])) ≡ chars left ++ c ∷ cs
    by true e others =
        let later = others (pen_behind pen Step.NewLine (columns left)) [] over tt all.1 (rw e at room) in
        rw (eqb-true c 10 e) (chars_before (cells_of (line left [])) (do_all limit (pen_behind pen Step.NewLine (columns left)) (of_chars cs) blank)
        ∙ rw (full_text left full, later) (append_assoc (chars left) (10 ∷ []) cs))
    by false e others =
        let (s, of, same, is) = puts pen c all.0 e in
        let w = width c (columns left) in
        let g = glyph c pen.look in
        let more = rw e at room in
        let next = cells g w left in
        ap (λ (x : List Step). chars_by (do_all limit pen (x ++ of_chars cs) (line left []))) of
        ∙ ap (λ (d : Done). chars_by (before d.lines (do_all limit (pen_behind pen s (columns left)) (of_chars cs) d.line)))
        (is limit left ∙ ap (λ (b : Bool). put limit b g (line left [])) over ∙ put_cells limit g left more.0)
        ∙ others (pen_behind pen s (columns left)) next (ap (λ (p : Pen). p.inserts) (same (columns left)) ∙ over) (cells_full g w left full) all.1
        (rw (cells_columns g w left, cells_length g w left) more.1)
        ∙ ap (λ (t : List ℕ). t ++ cs) (cells_chars g w left)
        ∙ append_assoc (chars left) (c ∷ []) cs

-- ---- what its characters do

pub line_plain : (b : ℕ) → IsLineByte b → IsPlainByte b
line_plain b h = grind (arith, nat_tests)

pub lines_plain : (bs : List ℕ) → AllByRecursion IsLineByte bs → AllByRecursion IsPlainByte bs
lines_plain = all_weaker IsLineByte IsPlainByte line_plain

pub few_cells : (c column : ℕ) → max (width c column) 1 ≤ 8
few_cells c column = cond_both (c == 9) _ _ (λ (n : ℕ). max n 1 ≤ 8) (λ e. omega arith) (λ e. omega (arith, narrow_few (unwrap_or (char_width false c) 0)))

-- ---- a run of characters behind all others

pub narrow : (c column : ℕ) → 32 ≤ c → c < 127 → width c column ≡ 1
unfolding char_width
narrow c column low high = grind (arith, nat_tests)

pub none_run : (limit : ℕ) (pen : Pen) (l : Line) (text : List ℕ) → AllByRecursion IsLineByte text → PutsRun limit pen l text text pen l
none_run limit pen l text h = record { plain = h; fewer = omega arith; same = refl; pens = refl }

-- each that takes one cell is put where the line has room for it, and the rest comes
module _ (limit : ℕ) (first : Pen) (start : Line) (text rest : List ℕ) where
  pub run_all : (cs : List ℕ) (pen : Pen) (left : List Cell) → PutsRun limit first start text (cs ++ rest) pen (line left []) → AllByRecursion IsUntabbed cs
      → pen.inserts ≡ false → length left + length cs ≤ limit
      → PutsRun limit first start text rest (record pen { last = last_of pen.last cs }) (line (onto (glyphs pen.look cs) left) [])
  run_all [] pen left run h over few = run
  run_all (c ∷ cs) pen left run h over few =
      let is : IsLineByte c = run.plain.0 in
      let other : (c == 9) ≡ false = grind (arith, nat_tests, h.0) in
      let low : 32 ≤ c = grind (arith, nat_tests) in
      let high : c < 127 = grind (arith, nat_tests) in
      let g = glyph c pen.look in
      let next = pen_behind pen (Step.Put c) (columns left) in
      let later = of_chars (cs ++ rest) in
      let single = narrow c (columns left) low high in
      let of = put_of c (grind (arith, nat_tests)) (grind (arith, nat_tests)) (grind (arith, nat_tests)) other (is_shown c (line_plain c is)) in
      let one : does limit pen (Step.Put c) (line left []) ≡ done [] (line (Char g ∷ left) []) =
      ap (λ (b : Bool). put limit b g (line left [])) over ∙ put_cells limit g left (omega (arith, few, single))
      ∙ ap (λ (n : ℕ). done [] (line (cells g n left) [])) single in
      let pens : next ≡ record pen { last = Some c } = ap (λ (n : ℕ). record pen { last = cond (n == 0) pen.last (Some c) }) (narrow c 0 low high) in
      run_all cs (record pen { last = Some c }) (Char g ∷ left) (record {
        plain = run.plain.1;
        fewer = omega (arith, run.fewer);
        same = run.same ∙ ap (λ (s : List Step). do_all limit pen (s ++ later) (line left [])) of
            ∙ ap (λ (d : Done). before d.lines (do_all limit next later d.line)) one ∙ ap (λ (p : Pen). do_all limit p later (line (Char g ∷ left) [])) pens;
        pens = run.pens ∙ ap (λ (s : List Step). pen_behind_all limit pen (s ++ later) (line left [])) of
            ∙ ap (λ (d : Done). pen_behind_all limit next later d.line) one ∙ ap (λ (p : Pen). pen_behind_all limit p later (line (Char g ∷ left) [])) pens;
      }) h.1 over (omega (arith, few))

-- the last of some characters
pub last_is : (last : Option ℕ) (cs : List ℕ) (c : ℕ) → last_of last (cs ++ c ∷ []) ≡ Some c
last_is last [] c = refl
last_is last (d ∷ cs) c = last_is (Some d) cs c
