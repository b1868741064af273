-- Cells that are moved or taken, one after the other.
use Rattle.csicodec_looks.proofs.Common.{◌≡◌, ℕ, zero, suc, ◌-◌, ◌+◌, ◌<◌, ◌≤◌, Bool, true, false, ◌==◌, nat_le, List, [], ◌∷◌, ◌++◌, length, drop, get_or, min, replicate, reverse, take, take-append-drop, refl, sym, ap, ◌∙◌, arith, append_assoc, append-nil, length-drop, length-reverse, replicate-append-replicate, drop_at, reverse-append, reverse-reverse, take_all, take_at, nat_tests, Look, Cell, Empty, Marking, Glyph, Line, passed, texts_of, glyphs, columns, is_blank, narrowed, onto, takes, without, before, behind_columns, forward, line, over, put, repeat, list_all}
use Rattle.csicodec_looks.proofs.Texts.{texts_on}

pub some_left : (n : ℕ) → 0 < n → (n == 0) ≡ false
some_left n h = grind (arith, nat_tests)

pub without_zero : (n : ℕ) (cells : List Cell) → n ≡ 0 → without n cells ≡ cells
without_zero n [] e = refl
without_zero n (cell ∷ cells) e = rw e refl

pub over_on : (n : ℕ) (cell : Cell) (left right : List Cell) → takes cell ≤ n → over n left (cell ∷ right) ≡ over (n - takes cell) (cell ∷ left) right
over_on n cell left right h = grind (arith, nat_tests)

-- ---- behind so many columns: back to them or forward, without the cells that stand before them

pub takes_few : (cell : Cell) → takes cell ≤ 1
takes_few Empty = omega arith
takes_few _ = omega arith

pub narrow_few : (n : ℕ) → narrowed n ≤ 2
narrow_few n = grind (arith, nat_tests)

pub columns_onto : (left right : List Cell) → columns (onto left right) ≡ columns left + columns right
columns_onto [] right = omega arith
columns_onto (cell ∷ left) right = columns_onto left (cell ∷ right) ∙ omega arith

over_onto : (n : ℕ) (left right : List Cell) → columns left ≤ n → over n [] (onto left right) ≡ over (n - columns left) left right
over_onto n [] right few = ap (λ (m : ℕ). over m [] right) (omega arith)
over_onto n (cell ∷ left) right few =
    over_onto n left (cell ∷ right) (omega (arith, few)) ∙ over_on (n - columns left) cell left right (omega (arith, few)) ∙ ap (λ (m : ℕ). over m (cell ∷ left) right) (omega arith)

-- where the cursor stands no further
pub from_there : (limit n : ℕ) (old l : Line) → onto l.left l.right ≡ onto old.left old.right → columns l.left ≡ columns old.left - (columns old.left - n)
    → forward limit (n - columns old.left) l ≡ behind_columns limit n old
from_there limit n old l same there =
    let all = onto l.left l.right in
    let more : n - columns old.left ≡ n - columns l.left = omega (arith, there) in
    let far : n - columns l.left - columns l.right ≡ n - columns all = omega (arith, columns_onto l.left l.right) in
    rw (more, far, ← over_onto n l.left l.right (omega (arith, there)), same) refl

-- ---- all of them, the farthest first

pub onto_is : (side cells : List Cell) → onto side cells ≡ reverse side ++ cells
onto_is [] cells = refl
onto_is (cell ∷ side) cells = rw (onto_is side (cell ∷ cells), reverse-append (cell ∷ []) side, append_assoc)

pub farthest : (cells : List Cell) → cells ≡ onto (reverse cells) []
farthest cells = sym (onto_is (reverse cells) [] ∙ append-nil (reverse (reverse cells)) ∙ reverse-reverse cells)

-- ---- cells of which the farthest are empty

pub columns_both : (xs ys : List Cell) → columns (xs ++ ys) ≡ columns xs + columns ys
columns_both [] ys = omega arith
columns_both (x ∷ xs) ys = omega (arith, columns_both xs ys)

pub columns_same : (x : Cell) → takes x ≡ 1 → (n : ℕ) → columns (replicate n x) ≡ n
columns_same x one zero = refl
columns_same x one (suc n) = omega (arith, one, columns_same x one n)

reverse_same : (x : Cell) (n : ℕ) → reverse (replicate n x) ≡ replicate n x
reverse_same x zero = refl
reverse_same x (suc n) =
    let more : n + 1 ≡ suc n = omega arith in
    rw (reverse-append (x ∷ []) (replicate n x), reverse_same x n) (replicate-append-replicate n 1 x ∙ ap (λ (m : ℕ). replicate m x) more)

-- so many of one kind behind others
module _ (x : Cell) (n m k : ℕ) (cells new : List Cell) (e : new ≡ take m cells ++ replicate k x) (few : length cells ≤ m) (some : k ≡ n) where
  pub reverse_more : reverse new ≡ replicate n x ++ reverse cells
  reverse_more = rw (e, take_all m cells few, some, reverse-append cells (replicate n x), reverse_same x n) refl

  pub columns_more : takes x ≡ 1 → columns (reverse new) ≡ columns (reverse cells) + n
  columns_more one = ap columns reverse_more ∙ columns_both (replicate n x) (reverse cells) ∙ omega (arith, columns_same x one n)

-- cells behind others, of which the last comes to stand nearest
module _ (items more new : List Cell) (e : new ≡ items ++ more) where
  pub side_more : reverse new ≡ onto more (reverse items)
  side_more = ap reverse e ∙ reverse-append items more ∙ sym (onto_is more (reverse items))

  pub side_columns : columns (reverse new) ≡ columns more + columns (reverse items)
  side_columns = ap columns side_more ∙ columns_onto more (reverse items)

-- ---- cells that are given from one side to the other

pub given_all : (n : ℕ) (side to : List Cell) → onto (drop n side) (onto (take n side) to) ≡ onto side to
given_all zero side to = refl
given_all (suc n) [] to = refl
given_all (suc n) (x ∷ side) to = given_all n side (x ∷ to)

pub columns_parts : (n : ℕ) (side : List Cell) → columns (take n side) + columns (drop n side) ≡ columns side
columns_parts n side = sym (columns_both (take n side) (drop n side)) ∙ ap columns (take-append-drop n side)

pub passed_few : (marks : Bool) (n : ℕ) (side : List Cell) → passed marks n side ≤ length side
passed_few marks n [] = omega arith
passed_few marks n (x ∷ side) = grind (arith, passed_few marks (n - takes x) side)

pub passed_columns : (marks : Bool) (n : ℕ) (side : List Cell) → columns (take (passed marks n side) side) ≡ min n (columns side)
passed_columns marks n [] = omega arith
passed_columns marks n (x ∷ side) = grind (arith, nat_tests, takes_few x, passed_columns marks (n - takes x) side)

-- the columns that stay
pub passed_left : (marks : Bool) (n : ℕ) (side : List Cell) → columns (drop (passed marks n side) side) ≡ columns side - n
passed_left marks n side = omega (arith, passed_columns marks n side, columns_parts (passed marks n side) side)

pub passed_over : (n : ℕ) (left right : List Cell) → let k = passed true n right in line (onto (take k right) left) (drop k right) ≡ over n left right
passed_over n left [] = refl
passed_over n left (x ∷ right) = grind (arith, passed_over (n - takes x) (x ∷ left) right)

-- so many of the nearest cells are given to another side
module _ (items side to new : List Cell) (n kept : ℕ) (is : reverse items ≡ side) (few : n ≤ length side) (k : kept ≡ length items - n) where
  parts_are : side ≡ reverse (drop kept items) ++ reverse (take kept items)
  parts_are = sym is ∙ ap reverse (sym (take-append-drop kept items)) ∙ reverse-append (take kept items) (drop kept items)

  many : length (reverse (drop kept items)) ≡ n
  many = omega (arith, length-reverse (drop kept items), length-drop kept items, k, few, ap length is, length-reverse items)

  pub far_is : reverse (take kept items) ≡ drop n side
  far_is = sym (ap (drop n) parts_are ∙ drop_at (reverse (drop kept items)) (reverse (take kept items)) n many)

  pub given_are : new ≡ to ++ reverse (drop kept items) → reverse new ≡ onto (take n side) (reverse to)
  given_are e =
      side_more to (reverse (drop kept items)) new e
      ∙ ap (λ (t : List Cell). onto t (reverse to)) (sym (ap (take n) parts_are ∙ take_at (reverse (drop kept items)) (reverse (take kept items)) n many))

-- four cells behind others, the last first
four_back : (xs : List Cell) (d : Cell) → length xs ≡ 4 → reverse xs ≡ get_or xs 3 d ∷ (get_or xs 2 d ∷ (get_or xs 1 d ∷ (get_or xs 0 d ∷ [])))
four_back (a ∷ (b ∷ (c ∷ (f ∷ [])))) d e = refl
four_back _ d e = absurd (omega (arith, e))

pub four_come : (cells one two three all front rest four whole : List Cell) (d : Cell)
    → one ≡ cells ++ (get_or four 3 d ∷ []) → two ≡ one ++ (get_or four 2 d ∷ []) → three ≡ two ++ (get_or four 1 d ∷ []) → all ≡ three ++ (get_or four 0 d ∷ [])
    → (front ≡ take (length rest - 4) rest) × (four ≡ drop (length rest - 4) rest) × (length front + 4 ≡ length rest)
    → cells ++ reverse rest ≡ whole → all ++ reverse front ≡ whole
four_come cells one two three all front rest four whole d e f g h parts before =
    let k = length rest - 4 in
    let some : length four ≡ 4 = omega (arith, ap length parts.1, length-drop k rest, parts.2) in
    let split : reverse rest ≡ reverse four ++ reverse front =
    ap reverse (sym (take-append-drop k rest)) ∙ reverse-append (take k rest) (drop k rest)
    ∙ ap (λ (t : List Cell). reverse t ++ reverse (take k rest)) (sym parts.1) ∙ ap (λ (t : List Cell). reverse four ++ reverse t) (sym parts.0) in
    let back = ap (λ (t : List Cell). cells ++ t) (sym (split ∙ ap (λ (t : List Cell). t ++ reverse front) (four_back four d some))) in
    rw (h, g, f, e) (simp append_assoc (back ∙ before))

pub columns_glyphs : (look : Look) (cs : List ℕ) → columns (glyphs look cs) ≡ length cs
columns_glyphs look [] = refl
columns_glyphs look (c ∷ cs) = omega (arith, columns_glyphs look cs)

-- ---- room

pub fits_within : (s k limit : ℕ) → 1 ≤ k → nat_le (s + k) limit ≡ nat_le k (limit - s)
fits_within s k limit some = grind (arith, nat_tests)

-- ---- what is written

-- a newline behind a text
pub line_ends : (old text now new : List ℕ) → now ≡ old ++ text → new ≡ now ++ 10 ∷ [] → new ≡ old ++ (text ++ 10 ∷ [])
line_ends old text now new e f = f ∙ ap (λ (t : List ℕ). t ++ 10 ∷ []) e ∙ append_assoc old text (10 ∷ [])

-- the lines of a step, and then of those behind it
pub step_text : (marking : Marking) (now new : List ℕ) (first later : List (List Cell)) (whole : List ℕ) → new ≡ now ++ texts_of marking first → now ++ texts_of marking (first ++ later) ≡ whole
    → new ++ texts_of marking later ≡ whole
step_text marking now new first later whole e f = rw (e, append_assoc, ← texts_on marking first later) f

-- ---- so many times

pub repeat_on : (limit : ℕ) (inserts : Bool) (g : Glyph) (n k : ℕ) (l : Line) → n ≡ suc k
    → repeat limit inserts g n l ≡ before (put limit inserts g l).lines (repeat limit inserts g k (put limit inserts g l).line)
repeat_on limit inserts g n k l e = rw e refl

-- what stands nearest is no blank
not_blank : (xs right : List Cell) → list_all is_blank right ≡ false → list_all is_blank (onto xs right) ≡ false
not_blank [] right h = h
not_blank (x ∷ xs) right h = not_blank xs (x ∷ right) (grind (arith, h))

pub nearest_shows : (all xs : List Cell) (x : Cell) → all ≡ x ∷ xs → is_blank x ≡ false → list_all is_blank (onto all []) ≡ false
nearest_shows all xs x e h = ap (λ (t : List Cell). list_all is_blank (onto t [])) e ∙ not_blank xs (x ∷ []) (rw h refl)
