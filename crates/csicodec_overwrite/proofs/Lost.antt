-- Each character that comes stands in a line, or was taken out of its own: counted step by step.
use Rattle.csicodec_overwrite.proofs.Common.{◌≡◌, ◌≢◌, ◌≤◌, ℕ, ◌+◌, ◌-◌, zero, suc, Bool, true, false, cond, min, List, [], ◌∷◌, ◌++◌, length, replicate, refl, ap, ◌∙◌, arith, ◌==◌, Option, Some, None, flat_map, encode_utf8_all, sym, append_assoc, append-nil, filter, sum_by-append, nil_from_length, eqb-true, nat_tests, Cell, Glyph, Line, Step, Behind, Char, Empty, Mark, Pen, flat_map-append, all_scalars, lossy_chars, lossy_chars-encode, Kind, Part, longest, shown, as_read, as_read_on, first_reading, read_behind, Reading, encoded_on, Plain, chars_of, columns, emptied, erased, glyph, gone, onto, outside, shifted, takes, to_tab_stop, trimmed, width, without, Done, behind_columns, blank, cells_of, do_all, does, does_here, done, entered, fits, forward, from_stop, in_row, leaves_long, line, lines_of, over, parted, pen_behind, placed, put, repeat, repeated, size, standing, target, to_stop, widest, fresh, again, all_came, all_taken, belonging, came, covered, left_out, taken, taken_again, taken_here, taken_by, taken_by_all, tabs, times, touched, under, whole, within, NothingLost, NothingMade, of_char, of_chars, of_run, of_sequence, as_text, AreOfParts, IsOfPart, Shows, Steps, most, shown_by, lossy_chars-nil, Strips, stripped, shown_text, scalars_lossy, scalars_on}
use Rattle.csicodec_overwrite.proofs.{Kept.overwritten_plain, Kept.scalars, Kept.shown_good, Same.same_text}
use Rattle.csicodec_looks.proofs.Texts.{cells_by, chars_by, line_cells, shown_plain}
use Rattle.csicodec_overwrite.specs.Lost.{written}
use Rattle.csicodec_spans.specs.Parts.{left_over}
use Rattle.csicodec_clean.specs.{Cleaned.is_text, Shown.shown_chars}
use Rattle.csicodec_clean.proofs.{Plain.kept_shown, Told.one_text, Told.plain_stays}

module _ (c : ℕ) where
  -- how often the character stands in a cell
  abbrev in_cell : Cell → ℕ
  in_cell x = times c (written x)

  abbrev count : List Cell → ℕ
  count [] = 0
  count (x ∷ xs) = in_cell x + count xs

  abbrev in_line : Line → ℕ
  in_line l = count l.left + count l.right

  abbrev in_lines : List (List Cell) → ℕ
  in_lines [] = 0
  in_lines (x ∷ xs) = count x + in_lines xs

  abbrev in_all : Done → ℕ
  in_all d = in_lines d.lines + in_line d.line

  pub both : (xs ys : List ℕ) → times c (xs ++ ys) ≡ times c xs + times c ys
  both xs ys = sum_by-append (λ x. cond (x == c) 1 0) xs ys

  counted : (xs : List Cell) → times c (flat_map written xs) ≡ count xs
  counted [] = refl
  counted (x ∷ xs) = omega (arith, both (written x) (flat_map written xs), counted xs)

  -- ---- cells

  joined : (xs ys : List Cell) → count (xs ++ ys) ≡ count xs + count ys
  joined [] ys = omega arith
  joined (x ∷ xs) ys = omega (arith, joined xs ys)

  -- columns in which no character stands
  columns_of : (x : Cell) → in_cell x ≡ 0 → (n : ℕ) → count (replicate n x) ≡ 0
  columns_of x none zero = refl
  columns_of x none (suc n) = omega (arith, none, columns_of x none n)

  empties : (n : ℕ) (xs : List Cell) → count (replicate n Empty ++ xs) ≡ count xs
  empties n xs = omega (arith, joined (replicate n Empty) xs, columns_of Empty refl n)

  moved : (xs ys : List Cell) → count (onto xs ys) ≡ count xs + count ys
  moved [] ys = omega arith
  moved (x ∷ xs) ys = omega (arith, moved xs (x ∷ ys))

  of_within : (n : ℕ) (xs : List Cell) → count (within n xs) + count (without n xs) ≡ count xs
  of_within n [] = refl
  of_within n (x ∷ xs) = grind (arith, of_within (n - takes x) xs)

  of_belonging : (xs : List Cell) → count (belonging xs) + count (outside xs) ≡ count xs
  of_belonging [] = refl
  of_belonging (x ∷ xs) = grind (arith, of_belonging xs)

  of_trimmed : (xs : List Cell) → count (trimmed xs) ≡ count xs
  of_trimmed [] = refl
  of_trimmed (Empty ∷ xs) = omega (arith, of_trimmed xs)
  of_trimmed _ = refl

  of_emptied : (xs rest : List Cell) → count (emptied xs rest) ≡ count rest
  of_emptied xs rest = empties (columns xs - columns rest) rest

  of_whole : (n : ℕ) (xs : List Cell) → count (whole n xs) + count (gone n xs) ≡ count xs
  of_whole n xs = omega (arith, joined, of_emptied, of_belonging, of_within)

  of_shifted : (t : Bool) (xs : List Cell) → count (shifted t xs) + count (tabs xs) ≡ count xs
  of_shifted t [] = refl
  of_shifted t (Empty ∷ xs) = omega (arith, of_shifted false xs)
  of_shifted t (Char g ∷ xs) = grind (arith, of_shifted (g.char == 9) xs)
  of_shifted t (Behind ∷ xs) = grind (arith, of_shifted true xs, of_shifted false xs)
  of_shifted t (Mark d ∷ xs) = omega (arith, of_shifted t xs)

  of_erased : (n : ℕ) (xs : List Cell) → count (erased n xs) ≡ count (gone n xs)
  of_erased n xs = empties (min n (columns xs)) (gone n xs)

  -- ---- lines

  of_over : (n : ℕ) (left right : List Cell) → in_line (over n left right) ≡ count left + count right
  of_over n left [] = refl
  of_over n left (x ∷ right) = grind (arith, of_over (n - takes x) (x ∷ left) right)

  of_forward : (limit n : ℕ) (l : Line) → in_line (forward limit n l) ≡ in_line l
  of_forward limit n l =
      let m = over n l.left l.right in
      omega (arith, empties (min (n - columns l.right) (limit - size m)) m.left, of_over n l.left l.right)

  of_behind : (limit n : ℕ) (l : Line) → in_line (behind_columns limit n l) ≡ in_line l
  of_behind limit n l = omega (arith, of_forward limit n (line [] (onto l.left l.right)), moved l.left l.right)

  of_under : (l : Line) → count (under l) + in_line (parted l) ≡ in_line l
  of_under l =
      grind (arith, joined, of_belonging, of_within, of_emptied)

  of_touched : (n : ℕ) (l : Line) → count (touched n l) + (count (parted l).left + count (gone n (parted l).right)) ≡ in_line l
  of_touched n l = omega (arith, joined (under l) (whole n (parted l).right), of_whole n (parted l).right, of_under l)

  of_cells : (l : Line) → count (cells_of l) ≡ in_line l
  of_cells l = omega (arith, moved (standing l) [], of_trimmed (onto l.right l.left), moved l.right l.left)

  of_lines : (l : Line) → in_lines (lines_of l) + count (left_out l) ≡ in_line l
  of_lines l = grind (arith, of_cells l)

  lines_joined : (xs ys : List (List Cell)) → in_lines (xs ++ ys) ≡ in_lines xs + in_lines ys
  lines_joined [] ys = omega arith
  lines_joined (x ∷ xs) ys = omega (arith, lines_joined xs ys)

  -- ---- characters

  of_placed : (inserts : Bool) (g : Glyph) (n : ℕ) (l : Line) → in_line (placed inserts g n l) + count (covered inserts n l) ≡ in_line l + times c (g.char ∷ [])
  of_placed inserts g n l =
      let p = parted l in
      grind (
        arith,
        joined (replicate (n - 1) Behind) (Char g ∷ p.left),
        columns_of Behind refl (n - 1),
        of_under l,
        of_shifted false p.right,
        joined
            (under l) (tabs p.right),
        of_touched n l,
      )

  -- where nothing stands on the right, nothing is taken
  none_covered : (inserts : Bool) (n : ℕ) (left : List Cell) → count (covered inserts n (line left [])) ≡ 0
  none_covered inserts n left = grind arith

  of_put : (limit : ℕ) (inserts : Bool) (g : Glyph) (l : Line) → in_all (put limit inserts g l) + count (taken_by limit inserts g l) ≡ in_line l + times c (g.char ∷ [])
  of_put limit inserts g l =
      let w = width g.char (columns l.left) in
      let first = width g.char 0 in
      ways (fits limit w l) (done [] (placed inserts g w l)) (done (cells_of l ∷ []) (placed inserts g first blank)) (covered inserts w l) (in_line l + times c (g.char ∷ []))
      (omega (arith, of_placed inserts g w l)) (omega (arith, of_cells l, of_placed inserts g first blank, none_covered inserts first []))
    where
      ways : (t : Bool) (d e : Done) (a : List Cell) (n : ℕ) → in_all d + count a ≡ n → in_all e ≡ n → in_all (cond t d e) + count (cond t a []) ≡ n
      ways t d e a n h k = grind arith

  of_repeat : (limit : ℕ) (inserts : Bool) (g : Glyph) (n : ℕ) (l : Line) → in_all (repeat limit inserts g n l) + count (taken_by_all limit inserts g n l) ≡ in_line l + times c (replicate n g.char)
  of_repeat limit inserts g zero l = omega arith
  of_repeat limit inserts g (suc n) l =
      omega (
        arith,
        of_put limit inserts g l,
        of_repeat limit inserts g n (put limit inserts g l).line,
        lines_joined,
        joined,
        both (g.char ∷ [])
            (replicate n g.char),
      )

  of_repeated : (limit : ℕ) (pen : Pen) (last : Option ℕ) (n : ℕ) (l : Line) → in_all (repeated limit pen last n l) + count (taken_again limit pen last n l) ≡ in_line l + times c (again last n)
  of_repeated limit pen None n l = omega arith
  of_repeated limit pen (Some d) n l = of_repeat limit pen.inserts (glyph d pen.look) n l

  -- a tab takes nothing: nothing stands on its right
  of_tab : (limit : ℕ) (pen : Pen) (l : Line) → in_all (does_here limit pen Step.Tab l) ≡ in_line l + times c (came pen Step.Tab l)
  of_tab limit pen l = grind (arith, of_put limit pen.inserts (glyph 9 pen.look) l, none_taken, of_forward limit (to_tab_stop (columns l.left)) l)
    where
      none_taken : length l.right == 0 ≡ true → count (taken_by limit pen.inserts (glyph 9 pen.look) l) ≡ 0
      none_taken e = rw (nil_from_length l.right (eqb-true (length l.right) 0 e)) (grind (arith, none_covered pen.inserts (width 9 (columns l.left)) l.left))

  -- ---- steps

  of_in_row : (limit : ℕ) (to : Option ℕ) (l : Line) → in_line (in_row limit to l) ≡ in_line l
  of_in_row limit None l = refl
  of_in_row limit (Some n) l = of_behind limit (n - 1) l

  of_here : (limit : ℕ) (pen : Pen) (s : Step) (l : Line) → in_all (does_here limit pen s l) + count (taken_here limit pen s l) ≡ in_line l + times c (came pen s l)
  of_here limit pen (Step.Put d) l = of_put limit pen.inserts (glyph d pen.look) l
  of_here limit pen (Step.Repeat n) l = of_repeated limit pen pen.last n l
  of_here limit pen Step.Tab l = omega (arith, of_tab limit pen l)
  of_here limit pen (Step.Tabs n) l = omega (arith, of_forward limit (min (to_stop n (columns l.left)) (widest - 1 - columns l.left)) l)
  of_here limit pen (Step.TabsBack n) l = omega (arith, of_behind limit (columns l.left - from_stop n (columns l.left)) l)
  of_here limit pen Step.NewLine l = omega (arith, of_cells l)
  of_here limit pen (Step.Right n) l = omega (arith, of_forward limit (min n (widest - 1 - columns l.left)) l)
  of_here limit pen (Step.Left n) l = omega (arith, of_behind limit (columns l.left - n) l)
  of_here limit pen (Step.Column n) l = omega (arith, of_behind limit (n - 1) l)
  of_here limit pen Step.EraseRight l = omega (arith, of_under l, joined (under l) (parted l).right)
  of_here limit pen Step.EraseLeft l = omega (arith, columns_of Empty refl (columns l.left), of_erased 1 l.right, of_whole 1 l.right, joined l.left (whole 1 l.right))
  of_here limit pen Step.EraseAll l = omega (arith, columns_of Empty refl (columns l.left), joined l.left l.right)
  of_here limit pen (Step.Erase n) l = omega (arith, of_touched n l, of_erased n (parted l).right)
  of_here limit pen (Step.Delete n) l =
      let rest = gone n (parted l).right in
      omega (arith, of_touched n l, of_shifted false rest, joined (touched n l) (tabs rest))
  of_here limit pen (Step.Insert n) l =
      let right = (parted l).right in
      omega (arith, of_under l, empties (min n (limit - size (parted l))) (shifted false right), of_shifted false right, joined (under l) (tabs right))
  of_here limit pen Step.Restore l = grind (arith, of_behind limit pen.saved l, of_lines l, of_forward limit pen.saved blank)
  of_here limit pen (Step.Leave to) l = omega (arith, of_lines l, of_forward limit (target to l) blank)
  of_here limit pen (Step.Row row to) l = grind (arith, of_in_row limit to l, of_lines l, of_forward limit (target to l) blank)
  of_here limit pen _ l = omega arith

  of_entered : (limit : ℕ) (s : Step) (l : Line) → in_all (entered limit s l) + count (cond (leaves_long s l) (left_out l) []) ≡ in_line l
  of_entered limit s l = grind (arith, of_lines l, of_forward limit (target None l) blank)

  -- what comes is the same in the line that is entered
  came_there : (limit : ℕ) (pen : Pen) (s : Step) (l : Line) → came pen s (entered limit s l).line ≡ came pen s l
  came_there limit pen Step.Tab l = refl
  came_there limit pen _ l = refl

  of_does : (limit : ℕ) (pen : Pen) (s : Step) (l : Line) → in_all (does limit pen s l) + count (taken limit pen s l) ≡ in_line l + times c (came pen s l)
  of_does limit pen s l =
      omega (arith, of_entered limit s l, of_here limit pen s (entered limit s l).line, ap (times c) (came_there limit pen s l), lines_joined, joined)

  of_all : (limit : ℕ) (pen : Pen) (steps : List Step) (l : Line) → in_all (do_all limit pen steps l) + times c (all_taken limit pen steps l) ≡ in_line l + times c (all_came limit pen steps l)
  of_all limit pen [] l = omega arith
  of_all limit pen (s ∷ steps) l =
      omega (arith, of_does limit pen s l, of_all limit (pen_behind pen s (columns l.left)) steps (does limit pen s l).line, lines_joined, both, counted)

  pub balances : (limit : ℕ) (pen : Pen) (steps : List Step) → let d = do_all limit pen steps blank in
      in_lines d.lines + count (cells_of d.line) + times c (all_taken limit pen steps blank) ≡ times c (all_came limit pen steps blank)
  balances limit pen steps = omega (arith, of_all limit pen steps blank, of_cells (do_all limit pen steps blank).line)

  -- ---- the text of lines

  pub others : (k : ℕ) → c ≢ k → times c (k ∷ []) ≡ 0
  others k h = grind (arith, nat_tests)

  cell_has : (x : Cell) → (in_cell x ≤ times c (chars_of x)) × (c ≢ 32 → in_cell x ≡ times c (chars_of x))
  cell_has Empty = (omega arith, λ no_blank. omega (arith, others 32 no_blank))
  cell_has _ = (omega arith, λ no_blank. refl)

  cells_have : (xs : List Cell) → (count xs ≤ times c (flat_map chars_of xs)) × (c ≢ 32 → count xs ≡ times c (flat_map chars_of xs))
  cells_have [] = (omega arith, λ no_blank. refl)
  cells_have (x ∷ xs) =
      let (one, same) = cell_has x in
      let (more, alike) = cells_have xs in
      let parts = both (chars_of x) (flat_map chars_of xs) in
      (omega (arith, one, more, parts), λ no_blank. omega (arith, same no_blank, alike no_blank, parts))

  module _ (no_newline : c ≢ 10) where
    lines_have : (lines : List (List Cell)) (last : List Cell) → in_lines lines + count last ≡ count (flat_map line_cells lines ++ last)
    lines_have [] last = omega arith
    lines_have (x ∷ xs) last =
        omega (arith, lines_have xs last, joined, others 10 no_newline)

    pub text_has : (d : Done) → let all = in_lines d.lines + count (cells_of d.line) in
        (all ≤ times c (chars_by d)) × (c ≢ 32 → all ≡ times c (chars_by d))
    text_has d =
        let has = cells_have (cells_by d) in
        let same = lines_have d.lines (cells_of d.line) in
        (omega (arith, has.0, same), λ no_blank. same ∙ has.1 no_blank)

-- ---- What `strip` leaves of the bytes comes into lines, and the law.

-- ---- the characters that steps put by themselves

abbrev put_by : Step → List ℕ
put_by (Step.Put d) = d ∷ []
put_by s = []

abbrev puts : List Step → List ℕ
puts steps = flat_map put_by steps

module _ (c : ℕ) where
  puts_on : (xs ys : List Step) → times c (puts (xs ++ ys)) ≡ times c (puts xs) + times c (puts ys)
  puts_on xs ys = ap (times c) (flat_map-append put_by xs ys) ∙ both c (puts xs) (puts ys)

  -- ---- they come

  one_came : (pen : Pen) (s : Step) (l : Line) → times c (put_by s) ≤ times c (came pen s l)
  one_came pen (Step.Put d) l = omega arith
  one_came pen _ l = omega arith

  all_puts : (limit : ℕ) (pen : Pen) (steps : List Step) (l : Line) → times c (puts steps) ≤ times c (all_came limit pen steps l)
  all_puts limit pen [] l = omega arith
  all_puts limit pen (s ∷ steps) l =
      let next = pen_behind pen s (columns l.left) in
      let after = (does limit pen s l).line in
      omega (arith, one_came pen s l, all_puts limit next steps after, both c (put_by s) (puts steps), both c (came pen s l) (all_came limit next steps after))

  -- ---- what is shown is put

  module _ (no_tab : c ≢ 9) (no_newline : c ≢ 10) where
    char_put : (d : ℕ) → times c (cond (shown d) (d ∷ []) []) ≤ times c (puts (of_char d))
    char_put d = grind (arith, none_shown 10 no_newline, none_shown 9 no_tab, not_shown 13 refl, not_shown 8 refl)
      where
        none_shown : (k : ℕ) → c ≢ k → (d == k) ≡ true → times c (cond (shown d) (d ∷ []) []) ≡ 0
        none_shown k h e = let none = others c d (λ f. h (f ∙ eqb-true d k e)) in grind (arith, none)

        not_shown : (k : ℕ) → shown k ≡ false → (d == k) ≡ true → times c (cond (shown d) (d ∷ []) []) ≡ 0
        not_shown k f e = ap (λ (t : Bool). times c (cond t (d ∷ []) [])) (ap shown (eqb-true d k e) ∙ f)

    chars_put : (cs : List ℕ) → times c (filter shown cs) ≤ times c (puts (of_chars cs))
    chars_put [] = omega arith
    chars_put (d ∷ cs) = grind (arith, char_put d, chars_put cs, puts_on (of_char d) (of_chars cs), both c (d ∷ []) (filter shown cs))

    -- these characters are shown, and then what is shown of the last run, and these steps put them
    abbrev Keeps : List Step → (List Part → List ℕ) → List ℕ → Type 0
    Keeps steps all left = (chars : List ℕ) × (all_scalars chars ≡ true) × ((qs : List Part) → all qs ≡ encode_utf8_all chars ++ stripped left qs) × (times c chars ≤ times c (puts steps))

    module _ (ps : List Part) (run next left : List ℕ) (first later steps : List Step) (e : steps ≡ first ++ later) (others : Keeps later (λ qs. stripped next (ps ++ qs)) left) where
      -- a part that ends the run, in front of these
      ended : (own : List Step) → first ≡ of_run run ++ own → next ≡ [] → Keeps steps (λ qs. shown_text run ++ stripped [] (ps ++ qs)) left
      ended own f none =
          let (chars, scalars, same, put) = others in
          let here = filter shown (lossy_chars run) in (
            here ++ chars,
            scalars_on here chars (kept_shown (lossy_chars run) (scalars_lossy run)).0 scalars,
            λ qs. rw (rw none at (same qs), encoded_on here chars, append_assoc) refl,
            rw (e, f) (omega (arith, both c, chars_put (lossy_chars run), puts_on)),
          )

      one_part : (k : Kind) (bytes : List ℕ) → IsOfPart k run bytes first next
          → Keeps steps (λ qs. cond (is_text k) (stripped (run ++ bytes) (ps ++ qs)) (shown_text run ++ stripped [] (ps ++ qs))) left
      one_part Kind.Text bytes (none, on) =
          let (chars, scalars, same, put) = others in (
            chars,
            scalars,
            λ qs. ap (λ (r : List ℕ). stripped r (ps ++ qs)) (sym on) ∙ same qs,
            omega (arith, put, puts_on first later, ap (λ (x : List Step). times c (puts x)) e),
          )
      one_part Kind.Csi bytes (actions, of, f, none) = ended (of_sequence actions) f none
      one_part _ bytes h = ended _ h.0 h.1

    parts_put : (ps : List Part) (run : List ℕ) (steps : List Step) (left : List ℕ) → AreOfParts run ps steps left → Keeps steps (λ qs. stripped run (ps ++ qs)) left
    parts_put [] run steps left h = ([], refl, λ qs. ap (λ (r : List ℕ). stripped r qs) (sym h.1), omega arith)
    parts_put (p ∷ ps) run steps left (first, next, later, is, e, rest) = one_part ps run next left first later steps e (parts_put ps next later left rest) p.kind p.bytes is

    -- what isn't over at the end shows nothing
    none_over : (r : Reading) (run bytes : List ℕ) → stripped run (as_read r (left_over bytes)) ≡ shown_text run
    none_over r run [] = refl
    none_over r run (b ∷ bytes) = ap (λ (cs : List ℕ). shown_text run ++ shown_chars cs) lossy_chars-nil ∙ append-nil (shown_text run)

    pub kept_put : (bytes kept : List ℕ) (steps : List Step) → Steps bytes steps → Strips longest bytes kept → times c (lossy_chars kept) ≤ times c (puts steps)
    kept_put bytes kept steps s k =
        let parts = s.parts ++ left_over s.rest in
        let r = read_behind first_reading s.parts in
        let last = filter shown (lossy_chars s.run) in
        let (chars, scalars, same, put) = parts_put (as_read first_reading s.parts) [] s.before s.run s.read in
        let own : Strips longest bytes (stripped [] (as_read first_reading parts)) = record {
          parts = parts;
          whole = record { sure = s.parts; rest = s.rest; after = s.after; first = s.first; unsure = s.unsure; whole = refl };
          left = refl;
        } in
        let text : kept ≡ encode_utf8_all (chars ++ last) =
        one_text longest bytes kept (stripped [] (as_read first_reading parts)) k own ∙ ap (stripped []) (as_read_on first_reading s.parts (left_over s.rest)) ∙ same (as_read r (left_over s.rest))
        ∙ ap (λ (x : List ℕ). encode_utf8_all chars ++ x) (none_over r s.run s.rest) ∙ sym (encoded_on chars last) in
        let read : lossy_chars kept ≡ chars ++ last =
        ap lossy_chars text ∙ lossy_chars-encode (chars ++ last) (scalars_on chars last scalars (kept_shown (lossy_chars s.run) (scalars_lossy s.run)).0) in
        omega (arith, ap (times c) read, both c chars last, put, chars_put (lossy_chars s.run), puts_on s.before (of_run s.run), ap (λ (x : List Step). times c (puts x)) s.all)

-- ---- what is written

-- painted or not, what `strip` leaves of it is the plain text
left_plain : (painted : Bool) (bytes out text : List ℕ) (s : Shows (as_text painted) bytes out) → Strips longest out text → text ≡ shown_by Plain (do_all most fresh s.steps blank)
left_plain true bytes out text s k =
    let plain = shown_by Plain (do_all most fresh s.steps blank) in
    one_text longest out text plain k (same_text bytes out plain s (record { steps = s.steps; read = s.read; all = refl }))
left_plain false bytes out text s k = plain_stays longest out text (overwritten_plain bytes out s) k ∙ s.all

left_chars : (painted : Bool) (bytes out text : List ℕ) (s : Shows (as_text painted) bytes out) → Strips longest out text → lossy_chars text ≡ chars_by (do_all most fresh s.steps blank)
left_chars painted bytes out text s k =
    let d = do_all most fresh s.steps blank in
    ap lossy_chars (left_plain painted bytes out text s k ∙ shown_plain d) ∙ lossy_chars-encode (chars_by d) (scalars (chars_by d) (shown_good bytes s.steps s.read))

-- ---- the laws

pub nothing_lost : NothingLost
nothing_lost painted bytes kept out text s c k l no_tab no_newline =
    omega (
      arith,
      kept_put c no_tab no_newline bytes kept s.steps s.read k,
      all_puts c most fresh s.steps blank,
      balances c most fresh s.steps,
      (text_has c no_newline (do_all most fresh s.steps blank)).0,
      ap (times c) (left_chars painted bytes out text s l),
    )

pub nothing_made : NothingMade
nothing_made painted bytes out text s c l no_blank no_newline =
    omega (arith, balances c most fresh s.steps, (text_has c no_newline (do_all most fresh s.steps blank)).1 no_blank, ap (times c) (left_chars painted bytes out text s l))
