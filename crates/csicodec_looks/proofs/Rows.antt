-- Cells that are shifted, from the nearest on.
use Rattle.csicodec_looks.proofs.Common.{◌≡◌, ℕ, ◌+◌, ◌≤◌, Bool, true, false, cond, ◌==◌, List, [], ◌∷◌, ◌++◌, length, drop, reverse, take, refl, ap, ◌∙◌, arith, ◌-◌, zero, suc, min, length-append, replicate, rules, max, unwrap_or, Option, Some, None, nat_lt, Cell, Char, Empty, length-replicate, nat_tests, cond_both, Behind, Glyph, Line, Pen, Step, Marking, columns, of_tab, shifted, takes, untabbed, belongs, emptied, erased, glyph, gone, onto, outside, to_tab_stop, width, without, trimmed, behind_columns, blank, do_all, does, does_here, entered, forward, in_row, line, over, parted, pen_behind, placed, put, repeat, repeated, size, target, alters, leave, standing, widest, Does, StillDoes, most}
use Rattle.csicodec_looks.proofs.Moved.{narrow_few, takes_few, columns_both, columns_onto, columns_same, from_there, step_text}
use Rattle.csicodec_looks.specs.Row.{settled}
use Rattle.unicode_width.specs.Width.{char_width}

stays : (x : Cell) → untabbed false x ≡ x
stays Empty = refl
stays _ = refl

no_more : (t : Bool) (x : Cell) → of_tab false (untabbed (of_tab t x) x) ≡ false
no_more t Empty = refl
no_more t (Char g) = by (g.char == 9) refl
  where
    by : (u : Bool) → (g.char == 9) ≡ u → of_tab false (cond u Empty (Char g)) ≡ false
    by true e = refl
    by false e = e
no_more true _ = refl
no_more false _ = refl

-- those that were shifted stay
pub shifted_stays : (t : Bool) (xs : List Cell) → shifted false (shifted t xs) ≡ shifted t xs
shifted_stays t [] = refl
shifted_stays t (x ∷ xs) =
    let y = untabbed (of_tab t x) x in
    let ys = shifted (of_tab t x) xs in
    ap (λ (u : Bool). untabbed u y ∷ shifted u ys) (no_more t x) ∙ ap (λ (z : Cell). z ∷ shifted false ys) (stays y) ∙ ap (λ (zs : List Cell). y ∷ zs) (shifted_stays (of_tab t x) xs)

-- ---- the loop

-- up to here they are still to be shifted, and all others are
abbrev pub Shifts : List Cell → ℕ → Bool → List Cell → Type 0
Shifts old at tab cells = (at ≤ length cells) × (shifted false (reverse old) ≡ reverse (drop at cells) ++ shifted tab (reverse (take at cells)))

-- ---- what stays as it is

one_column : (t : Bool) (x : Cell) → takes (untabbed t x) ≡ takes x
one_column t Empty = refl
one_column true _ = refl
one_column false _ = refl

pub columns_shifted : (t : Bool) (xs : List Cell) → columns (shifted t xs) ≡ columns xs
columns_shifted t [] = refl
columns_shifted t (x ∷ xs) = omega (arith, one_column (of_tab t x) x, columns_shifted (of_tab t x) xs)

pub length_shifted : (t : Bool) (xs : List Cell) → length (shifted t xs) ≡ length xs
length_shifted t [] = refl
length_shifted t (x ∷ xs) = omega (arith, length_shifted (of_tab t x) xs)

-- ---- A line never holds more cells than the limit.

few_columns : (xs : List Cell) → columns xs ≤ length xs
few_columns [] = omega arith
few_columns (x ∷ xs) = omega (arith, takes_few x, few_columns xs)

pub joined : (n : ℕ) (x : Cell) (xs : List Cell) → length (replicate n x ++ xs) ≡ n + length xs
joined n x xs = omega (arith, length-append (replicate n x) xs, length-replicate n x)

pub moved : (xs ys : List Cell) → length (onto xs ys) ≡ length xs + length ys
moved [] ys = omega arith
moved (x ∷ xs) ys = omega (arith, moved xs (x ∷ ys))

-- ---- cells that are taken have no more columns than they are

-- the rest is a part of the cells
abbrev IsPart : List Cell → List Cell → Type 0
IsPart xs rest = (columns xs + length rest ≤ length xs + columns rest) × (length rest ≤ length xs) × (columns rest ≤ columns xs)

all_of : (xs : List Cell) → IsPart xs xs
all_of xs = (omega arith, omega arith, omega arith)

one_less : (x : Cell) (xs rest : List Cell) → IsPart xs rest → IsPart (x ∷ xs) rest
one_less x xs rest h = (omega (arith, takes_few x, h.0), omega (arith, h.1), omega (arith, h.2))

pub part_outside : (xs : List Cell) → IsPart xs (outside xs)
part_outside [] = all_of []
part_outside (x ∷ xs) = cond_both (belongs x) (outside xs) (x ∷ xs) (IsPart (x ∷ xs)) (λ e. one_less x xs (outside xs) (part_outside xs)) (λ e. all_of (x ∷ xs))

part_without : (n : ℕ) (xs : List Cell) → IsPart xs (without n xs)
part_without n [] = all_of []
part_without n (x ∷ xs) =
    cond_both (n == 0) (x ∷ xs) (without (n - takes x) xs) (IsPart (x ∷ xs)) (λ e. all_of (x ∷ xs)) (λ e. one_less x xs (without (n - takes x) xs) (part_without (n - takes x) xs))

part_on : (xs ys zs : List Cell) → IsPart xs ys → IsPart ys zs → IsPart xs zs
part_on xs ys zs h k = (omega (arith, h.0, k.0), omega (arith, h.1, k.1), omega (arith, h.2, k.2))

refilled : (xs rest : List Cell) → IsPart xs rest → length (emptied xs rest) ≤ length xs
refilled xs rest h = omega (arith, joined (columns xs - columns rest) Empty rest, h.0, h.1, h.2)

gone_less : (n : ℕ) (xs : List Cell) → length (gone n xs) ≤ length (without n xs)
gone_less n xs = refilled (without n xs) (outside (without n xs)) (part_outside (without n xs))

without_less : (n : ℕ) (xs : List Cell) → length (without n xs) + min n (columns xs) ≤ length xs
without_less n [] = omega arith
without_less n (x ∷ xs) = grind (arith, nat_tests, takes_few x, without_less (n - takes x) xs)

erased_less : (n : ℕ) (xs : List Cell) → length (erased n xs) ≤ length xs
erased_less n xs = omega (arith, joined (min n (columns xs)) Empty (gone n xs), gone_less n xs, without_less n xs)

-- ---- lines

parted_less : (l : Line) → size (parted l) ≤ size l
parted_less l =
    let left = refilled l.left (without 1 (outside l.left)) (part_on l.left (outside l.left) (without 1 (outside l.left)) (part_outside l.left) (part_without 1 (outside l.left))) in
    grind (arith, left, refilled l.right (outside l.right) (part_outside l.right))

pub over_size : (n : ℕ) (left right : List Cell) → size (over n left right) ≡ length left + length right
over_size n left [] = omega arith
over_size n left (x ∷ right) = grind (arith, nat_tests, over_size (n - takes x) (x ∷ left) right)

pub placed_size : (inserts : Bool) (g : Glyph) (n : ℕ) (l : Line) → size (placed inserts g n l) ≤ size l + max n 1
placed_size inserts g n l =
    let p = parted l in
    grind (arith, nat_tests, parted_less l, length_shifted false p.right, gone_less n p.right, without_less n p.right, joined (n - 1) Behind (Char g ∷ p.left))

module _ (limit : ℕ) (enough : 8 ≤ limit) where
  forward_size : (n : ℕ) (l : Line) → size l ≤ limit → size (forward limit n l) ≤ limit
  forward_size n l h =
      let m = over n l.left l.right in
      omega (arith, joined (min (n - columns l.right) (limit - size m)) Empty m.left, over_size n l.left l.right)

  put_size : (inserts : Bool) (g : Glyph) (l : Line) → size (put limit inserts g l).line ≤ limit
  put_size inserts g l =
      let w = width g.char (columns l.left) in
      grind (arith, nat_tests, placed_size inserts g w l, placed_size inserts g (width g.char 0) blank, narrow_few (unwrap_or (char_width false g.char) 0))

  repeat_size : (inserts : Bool) (g : Glyph) (n : ℕ) (l : Line) → size l ≤ limit → size (repeat limit inserts g n l).line ≤ limit
  repeat_size inserts g zero l h = h
  repeat_size inserts g (suc n) l h = repeat_size inserts g n (put limit inserts g l).line (put_size inserts g l)

  repeated_size : (pen : Pen) (last : Option ℕ) (n : ℕ) (l : Line) → size l ≤ limit → size (repeated limit pen last n l).line ≤ limit
  repeated_size pen None n l h = h
  repeated_size pen (Some c) n l h = repeat_size pen.inserts (glyph c pen.look) n l h

  behind_size : (n : ℕ) (l : Line) → size l ≤ limit → size (behind_columns limit n l) ≤ limit
  behind_size n l h = forward_size n (line [] (onto l.left l.right)) (omega (arith, moved l.left l.right, h))

  in_row_size : (to : Option ℕ) (l : Line) → size l ≤ limit → size (in_row limit to l) ≤ limit
  in_row_size None l h = h
  in_row_size (Some n) l h = behind_size (n - 1) l h

  ruleset sizes = (put_size, repeated_size, forward_size, behind_size)

  here_size : (pen : Pen) (s : Step) (l : Line) → size l ≤ limit → size (does_here limit pen s l).line ≤ limit
  here_size pen Step.Tab l h = grind (arith, put_size pen.inserts (glyph 9 pen.look) l, forward_size (to_tab_stop (columns l.left)) l h)
  here_size pen Step.EraseLeft l h = omega (arith, length-replicate (columns l.left) Empty, few_columns l.left, erased_less 1 l.right)
  here_size pen Step.EraseAll l h = omega (arith, length-replicate (columns l.left) Empty, few_columns l.left)
  here_size pen (Step.Erase n) l h = omega (arith, parted_less l, erased_less n (parted l).right)
  here_size pen (Step.Delete n) l h = omega (arith, parted_less l, gone_less n (parted l).right, without_less n (parted l).right, length_shifted false (gone n (parted l).right))
  here_size pen (Step.Insert n) l h =
      omega (arith, parted_less l, joined (min n (limit - size (parted l))) Empty (shifted false (parted l).right), length_shifted false (parted l).right)
  here_size pen Step.NewLine l h = omega arith
  here_size pen Step.EraseRight l h = omega (arith, parted_less l)
  here_size pen Step.Restore l h = grind (arith, behind_size pen.saved l h, forward_size pen.saved blank (omega arith))
  here_size pen (Step.Row row to) l h = grind (arith, in_row_size to l h, forward_size (target to l) blank (omega arith))
  here_size pen _ l h = search (rules, sizes)

  entered_size : (s : Step) (l : Line) → size l ≤ limit → size (entered limit s l).line ≤ limit
  entered_size s l h = grind (arith, forward_size (target None l) blank (omega arith))

  pub all_size : (pen : Pen) (steps : List Step) (l : Line) → size l ≤ limit → size (do_all limit pen steps l).line ≤ limit
  all_size pen [] l h = h
  all_size pen (s ∷ steps) l h = all_size (pen_behind pen s (columns l.left)) steps (does limit pen s l).line (here_size pen s (entered limit s l).line
      (entered_size s l h))

-- ---- A line whose cursor is still to go to its column.

-- ---- steps in turn

-- one more is done
pub does_on : {marking : Marking} {steps : List Step} {first pen next : Pen} {l m n : Line}
    {before now after : List ℕ} (s : Step) (rest : List Step)
    → StillDoes marking steps (s ∷ rest) first pen l m before now
    → Does marking (does most pen s m) n now after → next ≡ pen_behind pen s (columns m.left)
    → StillDoes marking steps rest first next l n before after
does_on {marking} {pen} {m} {now} {after} s rest still d e =
    let first = does most pen s m in
    let later = do_all most (pen_behind pen s (columns m.left)) rest first.line in
    record {
      line = rw (d.line, e) still.line;
      pen = rw (d.line, e) still.pen;
      text = rw (d.line, e) (step_text marking now after first.lines later.lines _ d.text still.text);
    }

-- ---- tests

-- a sum that is cut off far behind a row
pub long_same : (n k : ℕ) → n ≡ min k 18446744073709551615 → nat_lt 512 n ≡ nat_lt 512 k
long_same n k e = grind (arith, nat_tests)

-- ---- all that stands in a line stands there wherever the cursor is

onto_twice : (left right : List Cell) → onto (onto left right) [] ≡ onto right left
onto_twice [] right = refl
onto_twice (x ∷ left) right = onto_twice left (x ∷ right)

trimmed_more : (k : ℕ) (xs : List Cell) → trimmed (replicate k Empty ++ xs) ≡ trimmed xs
trimmed_more zero xs = refl
trimmed_more (suc k) xs = trimmed_more k xs

standing_over : (k n : ℕ) (left right : List Cell) → k ≤ n - columns right
    → standing (line (replicate k Empty ++ (over n left right).left) (over n left right).right)
    ≡ standing (line left right)
standing_over k n left [] h = trimmed_more k left
standing_over k n left (x ∷ right) h =
    grind (arith, nat_tests, takes_few x, standing_over k (n - takes x) (x ∷ left) right)

pub standing_settled : (limit n : ℕ) (l : Line) → standing (behind_columns limit n l) ≡ standing l
standing_settled limit n l =
    let all = onto l.left l.right in
    standing_over (min (n - columns all) (limit - size (over n [] all))) n [] all (omega arith)
    ∙ ap trimmed (onto_twice l.left l.right)

pub standing_row : (limit : ℕ) (to : Option ℕ) (l : Line)
    → standing (settled limit to l) ≡ standing l
standing_row limit None l = refl
standing_row limit (Some n) l = standing_settled limit n l

-- ---- to one column and then to another

over_keeps : (n : ℕ) (left right : List Cell)
    → onto (over n left right).left (over n left right).right ≡ onto left right
over_keeps n left [] = refl
over_keeps n left (x ∷ right) = grind (arith, over_keeps (n - takes x) (x ∷ left) right)

pub settled_again : (limit to n : ℕ) (l : Line) → n ≤ columns l.left + columns l.right
    → behind_columns limit to (behind_columns limit n l) ≡ behind_columns limit to l
settled_again limit to n l few =
    let all = onto l.left l.right in
    let none : min (n - columns all) (limit - size (over n [] all)) ≡ 0 = omega (arith, columns_onto l.left l.right) in
    rw (none, over_keeps n [] all) refl

-- ---- the columns left of the cursor then

columns_over : (n : ℕ) (left right : List Cell)
    → columns (over n left right).left ≡ columns left + min n (columns right)
columns_over n left [] = omega arith
columns_over n left (x ∷ right) = grind (arith, nat_tests, takes_few x, columns_over (n - takes x) (x ∷ left) right)

pub reached : (limit n : ℕ) (l : Line)
    → columns (behind_columns limit n l).left
    ≡ n - (n - columns l.left - columns l.right - (limit - size l))
reached limit n l =
    omega (arith, columns_both, columns_same Empty refl, columns_over, columns_onto, over_size, moved)

-- ---- so many columns to the right or to the left is to a column too

pub ahead : (limit k : ℕ) (l : Line)
    → forward limit k l ≡ behind_columns limit (columns l.left + k) l
ahead limit k l =
    let n = columns l.left + k in
    let more : k ≡ n - columns l.left = omega arith in
    ap (λ (m : ℕ). forward limit m l) more ∙ from_there limit n l l refl (omega arith)

-- ---- what stands right of the cursor then, and how many cells there are

over_right : (n : ℕ) (left right : List Cell)
    → nat_lt 0 (length (over n left right).right) ≡ nat_lt n (columns right)
over_right n left [] = grind (arith, nat_tests)
over_right n left (x ∷ right) = grind (arith, nat_tests, over_right (n - takes x) (x ∷ left) right)

pub settled_right : (limit n : ℕ) (l : Line)
    → nat_lt 0 (length (behind_columns limit n l).right) ≡ nat_lt n (columns l.left + columns l.right)
settled_right limit n l =
    over_right n [] (onto l.left l.right)
    ∙ ap (nat_lt n) (columns_onto l.left l.right)

pub settled_size : (limit n : ℕ) (l : Line)
    → size (behind_columns limit n l)
    ≡ length l.left + length l.right + min (n - columns l.left - columns l.right) (limit - size l)
settled_size limit n l =
    omega (arith, joined, columns_onto, over_size, moved)

-- ---- a line that is too long for a step

pub entered_long : (limit : ℕ) (s : Step) (l : Line) → alters s l ≡ true → nat_lt widest (size l) ≡ true
    → entered limit s l ≡ leave limit None l
entered_long limit s l e f = rw (e, f) refl
