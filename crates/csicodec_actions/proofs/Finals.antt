-- What the rows before each final character of the cursor read, by what one parameter, or two places, stand for.
use Rattle.std.specs.Prelude.{⊤, Option}
use Rattle.std.proofs.lemmas.Bool.{cases_Bool}
use Rattle.csicodec_tokens.specs.OneBased.{most}
use Rattle.csicodec_actions.specs.{Rows.Makes, Rows.row, Rows.Before, Rows.counted, Rows.halves, Rows.paired, Actions.Cursor, Table.Cursor.as_cursor}
use Rattle.csicodec_actions.specs.{Table.Cursor.as_move}
use Rattle.csicodec_actions.proofs.Common.{inl, inr, rows_before, ◌==◌, ◌∙◌, false, option_map, option_or, made, length, ◌<◌, Slot, One, mark, Row, gives, given, read_by, Count, ◌≡◌, ℕ, List, [], ◌∷◌, None, Some, refl, arith, ne_eqb, CsiParam, Integer, P}
use Rattle.csicodec_actions.proofs.AllFieldRows.{first-append}
use Rattle.csicodec_actions.specs.declared.cursor.Cursor as cursor_type
use Rattle.csicodec_actions.specs.declared.cursor.Cursor.TheVariants as cursor

-- ---- what is made of what rows give

abbrev after : {A B : Type 0} (f : A → B) (shape : List Slot) → Makes A shape → Makes B shape
after f [] whole = f whole
after f (One k ∷ shape) make = λ v. after f shape (make v)
after f (s ∷ shape) make = after f shape make

made-after : {A B : Type 0} (f : A → B) (shape : List Slot) (make : Makes A shape) (list : List CsiParam)
    → made false shape (after f shape make) list ≡ option_map f (made false shape make list)
made-after f (One k ∷ shape) make (P c ∷ ts) = refl
made-after f (One k ∷ shape) make (Integer z ∷ ts) = grind (arith, made-after f shape)
made-after f (s ∷ shape) make (t ∷ ts) = made-after f shape make ts
made-after f _ _ _ = refl

gives-after : {A B : Type 0} (f : A → B) (shape : List Slot) (make : Makes A shape) (list : List CsiParam)
    → gives (row shape (after f shape make)) list ≡ option_map f (gives (row shape make) list)
gives-after f shape make list = grind (arith, made-after f shape make list)

or-map : {A B : Type 0} (f : A → B) (o p : Option A) → option_or (option_map f o) (option_map f p) ≡ option_map f (option_or o p)
or-map f (Some a) p = refl
or-map f None p = refl

-- rows as pairs of a shape and what is made of its values
abbrev Pairs : Type 0 → Type 0
Pairs R = List ((shape : List Slot) × Makes R shape)

abbrev rows-of : {R : Type 0} → Pairs R → List (Row R)
rows-of [] = []
rows-of (r ∷ rows) = row r.0 r.1 ∷ rows-of rows

abbrev all-after : {A B : Type 0} (f : A → B) → Pairs A → Pairs B
all-after f [] = []
all-after f (r ∷ rows) = (r.0, after f r.0 r.1) ∷ all-after f rows

given-after : {A B : Type 0} (f : A → B) (rows : Pairs A) (list : List CsiParam) → given (rows-of (all-after f rows)) list ≡ option_map f (given (rows-of rows) list)
given-after f [] list = refl
given-after f (r ∷ rows) list = rw (gives-after f r.0 r.1 list, given-after f rows list) (or-map f (gives (row r.0 r.1) list) (given (rows-of rows) list))

one-count : {R : Type 0} (make : ℕ → R) (list : List CsiParam) → given (counted make) list ≡ option_map make (given (counted (λ n. n)) list)
one-count make list = given-after make (([], 1) ∷ (One Count ∷ [], λ n. n) ∷ []) list

-- two counts, of which the second is this one where it is left out
abbrev pub two-or : {R : Type 0} → ℕ → (ℕ → ℕ → R) → List (Row R)
two-or missing make = row [] (make 1 missing) ∷ halves Count missing make

two-given : {R : Type 0} (missing : ℕ) (make : ℕ → ℕ → R) (list : List CsiParam) → given (two-or missing make) list ≡ option_map (λ (p : ℕ × ℕ). make p.0 p.1) (given (two-or missing (λ a b. (a, b))) list)
two-given missing make list = given-after (λ (p : ℕ × ℕ). make p.0 p.1)
    (([], (1, missing)) ∷ (One Count ∷ [], λ a. (a, missing)) ∷ (One Count ∷ mark ";" ∷ One Count ∷ [], λ a b. (a, b)) ∷ (mark ";" ∷ One Count ∷ [], λ b. (1, b)) ∷ []) list

two-counts : {R : Type 0} (make : ℕ → ℕ → R) (list : List CsiParam) → given (paired make) list ≡ option_map (λ (p : ℕ × ℕ). make p.0 p.1) (given (paired (λ a b. (a, b))) list)
two-counts make list = two-given 1 make list

-- no row stands before a final that is none of the table's
abbrev pub Lacks : {R : Type 0} → List (Before R) → ℕ → Type 0
Lacks [] final = ⊤
Lacks (b ∷ others) final = (final ≡ b.final → ⊥) × Lacks others final

pub no-rows : {R : Type 0} (table : List (Before R)) (list : List CsiParam) (final : ℕ) → Lacks table final → read_by table list final ≡ None
no-rows [] list final none = refl
no-rows (b ∷ others) list final none = rw (ne_eqb final b.final none.0) (no-rows others list final none.1)

pub or-none : {A : Type 0} (o p : Option A) → p ≡ None → option_or o p ≡ o
or-none (Some a) p none = refl
or-none None p none = none

-- where no count stands, entries that take one read nothing
abbrev pub AllCounted : {R : Type 0} → List (Before R) → Type 0
AllCounted [] = ⊤
AllCounted {R} (b ∷ others) = ((make : ℕ → R) × (b.rows ≡ counted make)) × AllCounted others

pub no-count : {R : Type 0} (table : List (Before R)) (list : List CsiParam) (final : ℕ) → AllCounted table → given (counted (λ n. n)) list ≡ None → read_by table list final ≡ None
no-count [] list final counts none = refl
no-count (b ∷ others) list final counts none = elim (cases_Bool (final == b.final)) [
  | inl here ↦
      rw here (first-append (λ r. gives r list) b.rows (rows_before others final) ∙ rw (counts.0.1, one-count counts.0.0 list, none) (no-count others list final counts.1 none))
  | inr other ↦ rw other (no-count others list final counts.1 none)
]

-- ---- left and right margins

no-sides : (list : List CsiParam) → length list < 1 → as_cursor list 115 ≡ Some (Cursor cursor.SaveCursor)
unfolding as_cursor
no-sides [] none = refl
no-sides (t ∷ ts) none = grind arith

some-sides : (list : List CsiParam) → 0 < length list → as_cursor list 115 ≡ option_map (λ (p : ℕ × ℕ). Cursor (cursor.SetLeftAndRightMargins p.0 p.1)) (given (two-or most (λ a b. (a, b))) list)
unfolding as_cursor
some-sides [] some = grind arith
some-sides (t ∷ ts) some = two-given most (λ a b. Cursor (cursor.SetLeftAndRightMargins a b)) (t ∷ ts)

pub sides : ((list : List CsiParam) → length list < 1 → as_cursor list 115 ≡ Some (Cursor cursor.SaveCursor))
    × ((list : List CsiParam) → 0 < length list → as_cursor list 115 ≡ option_map (λ (p : ℕ × ℕ). Cursor (cursor.SetLeftAndRightMargins p.0 p.1)) (given (two-or most (λ a b. (a, b))) list))
sides = (no-sides, some-sides)

-- ---- the cursor, a line for each final character

abbrev pub Counts : ℕ → (ℕ → cursor_type.Cursor) → Type 0
Counts final make = (list : List CsiParam) → as_move list final ≡ option_map (λ n. Cursor (make n)) (given (counted (λ n. n)) list)

pub moves : Counts 65 cursor.Up × Counts 66 cursor.Down × Counts 67 cursor.Right × Counts 68 cursor.Left × Counts 69 cursor.NextLine
    × Counts 70 cursor.PrecedingLine × Counts 71 cursor.CharacterAbsolute × Counts 96 cursor.CharacterPositionAbsolute
    × Counts 73 cursor.ForwardTabulation × Counts 90 cursor.BackwardTabulation × Counts 89 cursor.LineTabulation
    × Counts 97 cursor.CharacterPositionForward × Counts 106 cursor.CharacterPositionBackward × Counts 100 cursor.LinePositionAbsolute
    × Counts 101 cursor.LinePositionForward × Counts 107 cursor.LinePositionBackward
unfolding as_move
moves = (one-count _, one-count _, one-count _, one-count _, one-count _, one-count _, one-count _, one-count _, one-count _, one-count _, one-count _, one-count _, one-count _, one-count _, one-count _, one-count _)

abbrev pub TwoCounts : ℕ → (ℕ → ℕ → cursor_type.Cursor) → Type 0
TwoCounts final make = (list : List CsiParam) → as_cursor list final ≡ option_map (λ (p : ℕ × ℕ). Cursor (make p.0 p.1)) (given (paired (λ a b. (a, b))) list)

pub pairs : TwoCounts 72 cursor.Position × TwoCounts 82 cursor.ActivePositionReport × TwoCounts 102 cursor.CharacterAndLinePosition
unfolding as_cursor
pairs = (two-counts _, two-counts _, two-counts _)
