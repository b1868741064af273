-- A character that comes many times at once.
use Rattle.csicodec_looks.proofs.Common.{◌≡◌, ◌≤◌, ◌<◌, ℕ, zero, suc, ◌+◌, ◌-◌, ◌*◌, Bool, true, false, cond, List, [], ◌∷◌, ◌++◌, length, replicate, refl, sym, ap, ◌∙◌, arith, ◌==◌, cond_both, nat_tests, Cell, Line, Behind, Char, Empty, Mark, Glyph, begins_behind, belongs, columns, emptied, gone, outside, shifted, takes, width, without, Done, before, blank, cells_of, done, fits, line, parted, placed, put, repeat, size, placed_many, put_many}
use Rattle.csicodec_looks.proofs.{Moved.some_left, Moved.takes_few, Moved.without_zero, Rows.part_outside, Rows.placed_size, Rows.shifted_stays}

-- ---- what is gone

-- so many columns, and then more
few : (x : Cell) (n m : ℕ) → 0 < n → n - takes x + m ≡ n + m - takes x
few x n m some = omega (arith, takes_few x)

without_on : (n m : ℕ) (xs : List Cell) → without m (without n xs) ≡ without (n + m) xs
without_on n m [] = refl
without_on n m (x ∷ xs) = grind (arith, nat_tests, few x n m, without_on (n - takes x) m xs)

outside_twice : (xs : List Cell) → outside (outside xs) ≡ outside xs
outside_twice [] = refl
outside_twice (x ∷ xs) = cond_both (belongs x) (outside xs) (x ∷ xs) (λ (ys : List Cell). outside ys ≡ ys) (λ e. outside_twice xs) (λ e. rw e refl)

-- nothing belongs to a character before the cells
abbrev Apart : List Cell → Type 0
Apart xs = outside xs ≡ xs

emptied_apart : (k : ℕ) (xs : List Cell) → Apart xs → Apart (replicate k Empty ++ xs)
emptied_apart zero xs h = h
emptied_apart (suc k) xs h = refl

whole : (xs : List Cell) → emptied xs xs ≡ xs
whole xs =
    let none : columns xs - columns xs ≡ 0 = omega arith in ap (λ (k : ℕ). replicate k Empty ++ xs) none

-- what is gone with a cell in front
gone_next : (x : Cell) (n m : ℕ) (xs : List Cell) → 0 < n → n - takes x ≡ m → gone n (x ∷ xs) ≡ gone m xs
gone_next x n m xs some less = rw (some_left n some, less) refl

-- what is gone from cells of which the front is emptied
gone_emptied : (n : ℕ) (xs : List Cell) → gone n (emptied xs (outside xs)) ≡ gone n xs
gone_emptied zero xs =
    let e = emptied xs (outside xs) in
    rw (without_zero 0 e refl, without_zero 0 xs refl) (ap (emptied e) (emptied_apart (columns xs - columns (outside xs)) (outside xs) (outside_twice xs))
    ∙ whole e)
gone_emptied (suc n) [] = refl
gone_emptied (suc n) (Empty ∷ xs) = ap (gone (suc n)) (whole (Empty ∷ xs))
gone_emptied (suc n) (Char g ∷ xs) = ap (gone (suc n)) (whole (Char g ∷ xs))
gone_emptied (suc n) (Behind ∷ xs) =
    let k = columns xs - columns (outside xs) in
    let more : 1 + columns xs - columns (outside xs) ≡ suc k = omega (arith, (part_outside xs).2) in
    ap (λ (m : ℕ). gone (suc n) (replicate m Empty ++ outside xs)) more
    ∙ gone_next Empty (suc n) n (replicate k Empty ++ outside xs) (omega arith) (omega arith)
    ∙ gone_emptied n xs ∙ sym (gone_next Behind (suc n) n xs (omega arith) (omega arith))
gone_emptied (suc n) (Mark c ∷ xs) =
    let same : columns (Mark c ∷ xs) ≡ columns xs = omega arith in
    ap (λ (m : ℕ). gone (suc n) (replicate (m - columns (outside xs)) Empty ++ outside xs)) same ∙ gone_emptied (suc n) xs
    ∙ sym (gone_next (Mark c) (suc n) (suc n) xs (omega arith) (omega arith))

gone_on : (n m : ℕ) (xs : List Cell) → gone m (gone n xs) ≡ gone (n + m) xs
gone_on n m xs = gone_emptied m (without n xs) ∙ ap (λ (ys : List Cell). emptied ys (outside ys)) (without_on n m xs)

-- ---- no character goes on behind the cursor

apart_begins : (xs : List Cell) → Apart xs → begins_behind xs ≡ false
apart_begins (Behind ∷ xs) h = absurd (omega (arith, ap length h, (part_outside xs).1))
apart_begins _ h = refl

gone_begins : (n : ℕ) (xs : List Cell) → begins_behind (gone n xs) ≡ false
gone_begins n xs =
    let rest = without n xs in
    apart_begins (gone n xs) (emptied_apart (columns rest - columns (outside rest)) (outside rest) (outside_twice rest))

shifted_begins : (xs : List Cell) → begins_behind xs ≡ false → begins_behind (shifted false xs) ≡ false
shifted_begins (Char g ∷ xs) h = grind arith
shifted_begins (Behind ∷ xs) h = h
shifted_begins _ h = refl

parted_begins : (l : Line) → begins_behind (parted l).right ≡ false
parted_begins l = cond_both (begins_behind l.right) (line (emptied l.left (without 1 (outside l.left))) (emptied l.right (outside l.right))) l
    (λ (k : Line). begins_behind k.right ≡ false)
    (λ e. apart_begins (emptied l.right (outside l.right)) (emptied_apart (columns l.right - columns (outside l.right)) (outside l.right) (outside_twice l.right))) (λ e. e)

-- ---- one and then others

many_on : (g : Glyph) (w n : ℕ) (left : List Cell) → put_many g w n (replicate (w - 1) Behind ++ (Char g ∷ left)) ≡ put_many g w (suc n) left
many_on g w zero left = refl
many_on g w (suc n) left = ap (λ (xs : List Cell). replicate (w - 1) Behind ++ (Char g ∷ xs)) (many_on g w n left)

pub many_single : (g : Glyph) (n : ℕ) (left : List Cell) → put_many g 1 n left ≡ replicate n (Char g) ++ left
many_single g zero left = refl
many_single g (suc n) left = ap (λ (xs : List Cell). Char g ∷ xs) (many_single g n left)

pub many_wide : (g : Glyph) (n : ℕ) (left : List Cell) → columns (put_many g 2 n left) ≡ columns left + n * 2
many_wide g zero left = omega arith
many_wide g (suc n) left = omega (arith, many_wide g n left)

module _ (inserts : Bool) (g : Glyph) (w : ℕ) (some : 0 < w) where
  -- right of the cursor
  abbrev then : ℕ → List Cell → List Cell
  then n xs = cond inserts (shifted false xs) (gone (n * w) xs)

  pub placed_once : (l : Line) → placed inserts g w l ≡ placed_many inserts g w 1 l
  placed_once l =
      let one : 1 * w ≡ w = omega arith in
      rw (some_left w some, one) refl

  then_begins : (l : Line) → begins_behind (then 1 (parted l).right) ≡ false
  then_begins l = cond_both inserts (shifted false (parted l).right) (gone (1 * w) (parted l).right) (λ (xs : List Cell). begins_behind xs ≡ false)
      (λ e. shifted_begins (parted l).right (parted_begins l)) (λ e. gone_begins (1 * w) (parted l).right)

  then_on : (n : ℕ) (xs : List Cell) → then n (then 1 xs) ≡ then (suc n) xs
  then_on n xs = by inserts
    where
      sum : 1 * w + n * w ≡ suc n * w
      sum = omega arith

      by : (t : Bool) → cond t (shifted false (cond t (shifted false xs) (gone (1 * w) xs))) (gone (n * w) (cond t (shifted false xs) (gone (1 * w) xs)))
          ≡ cond t (shifted false xs) (gone (suc n * w) xs)
      by true = shifted_stays false xs
      by false = gone_on (1 * w) (n * w) xs ∙ ap (λ (k : ℕ). gone k xs) sum

  many_placed : (n : ℕ) (l : Line) → placed_many inserts g w n (placed_many inserts g w 1 l) ≡ placed_many inserts g w (suc n) l
  many_placed n l =
      let p = parted l in
      let m = placed_many inserts g w 1 l in
      ap (λ (k : Line). line (put_many g w n k.left) (then n k.right)) (let same : parted m ≡ m = rw (then_begins l) refl in same)
      ∙ ap (λ (xs : List Cell). line xs (then n (then 1 p.right))) (many_on g w n p.left) ∙ ap (line (put_many g w (suc n) p.left)) (then_on n p.right)

  -- in a line that has room for all
  module _ (limit : ℕ) (wide : (column : ℕ) → width g.char column ≡ w) where
    put_once : (l : Line) → size l + w ≤ limit → put limit inserts g l ≡ done [] (placed inserts g w l)
    put_once l room =
        ap (λ (k : ℕ). cond (fits limit k l) (done [] (placed inserts g k l)) (done (cells_of l ∷ []) (placed inserts g (width g.char 0) blank))) (wide (columns l.left))
        ∙ rw (let yes : fits limit w l ≡ true = grind (arith, nat_tests) in yes) refl

    repeat_many : (n : ℕ) (l : Line) → size l + suc n * w ≤ limit → repeat limit inserts g (suc n) l ≡ done [] (placed_many inserts g w (suc n) l)
    repeat_many zero l room =
        ap (λ (d : Done). before d.lines (done [] d.line)) (put_once l (omega (arith, room))) ∙ ap (done []) (placed_once l)
    repeat_many (suc n) l room =
        let m = placed inserts g w l in
        let less : size m + suc n * w ≤ limit = omega (arith, room, some, placed_size inserts g w l) in
        ap (λ (d : Done). before d.lines (repeat limit inserts g (suc n) d.line)) (put_once l (omega (arith, room)))
        ∙ ap (before []) (repeat_many n m less) ∙ ap (λ (k : Line). done [] (placed_many inserts g w (suc n) k)) (placed_once l)
        ∙ ap (done []) (many_placed (suc n) l)

    pub repeat_some : (n : ℕ) (l : Line) → 0 < n → size l + n * w ≤ limit → repeat limit inserts g n l ≡ done [] (placed_many inserts g w n l)
    repeat_some zero l more room = absurd (omega (arith, more))
    repeat_some (suc n) l more room = repeat_many n l room

-- but for a tab, the columns of a character are the same everywhere
pub width_same : (c a b : ℕ) → (c == 9) ≡ false → width c a ≡ width c b
width_same c a b e = rw e refl
