-- What is written of a screen as text is UTF-8 of characters that are shown.
use Rattle.std.proofs.Common.{◌≡◌, ◌∙◌, ℕ, nat_le, Bool, true, false, cond, ◌&&◌, List, [], ◌∷◌, ◌++◌, take, reverse, refl, ap, sym, encode_utf8_all, flat_map, if◌then◌else◌}
use Rattle.std.proofs.{lemmas.Bool.and_from, lemmas.Bool.and_parts, lemmas.Str.encodes-append as encoded_on}
use Rattle.std.specs.{List.AllByRecursion, Str.all_scalars}
use lib.Utf8.{scalar}
use Rattle.csicodec_looks.proofs.{Fronts.all_both, Texts.blank_written}
use Rattle.csicodec_looks.specs.{Cells.chars_of, Cells.glyph, Look.is_default, Look.plain as plain_line, Paint.ended, Shown.IsShown, Shown.shown}
use Rattle.csicodec_looks.specs.{declared.cells.Cell.Cell as LineCell, declared.look.Look.Look as LineLook, declared.marking.Marking.TheVariants.Plain}
use Rattle.csicodec_screen.specs.Views.{IsText, cell_cells, char_cells, glyph_cells, is_bare, is_blank, is_nil, is_written, line_look, mark_cells, row_cells, rows_text, seen, trimmed, view}
use Rattle.csicodec_screen.specs.{declared.cell.Cell.Cell, declared.cell.Glyph.Glyph, declared.rows.Row.Row, declared.screen.Screen.Screen}
use Rattle.csicodec_screen.specs.declared.cell.Cell.TheVariants as cell
use Rattle.csicodec_looks.specs.declared.cells.Cell.TheVariants as line

when : {A : Type 0} (P : A → Type 0) (b : Bool) (x y : A) → (b ≡ true → P x) → P y → P (cond b x y)
when P true x y h k = h refl
when P false x y h k = k

-- ---- characters

abbrev AreFine : List ℕ → Type 0
AreFine chars = (all_scalars chars ≡ true) × AllByRecursion IsShown chars

scalars_on : (xs ys : List ℕ) → all_scalars xs ≡ true → all_scalars ys ≡ true → all_scalars (xs ++ ys) ≡ true
scalars_on [] ys h k = k
scalars_on (x ∷ xs) ys h k = let both = and_parts (scalar x) (all_scalars xs) h in and_from (scalar x) (all_scalars (xs ++ ys)) both.0 (scalars_on xs ys both.1 k)

fine_on : (xs ys : List ℕ) → AreFine xs → AreFine ys → AreFine (xs ++ ys)
fine_on xs ys (a, b) (c, d) = (scalars_on xs ys a c, all_both IsShown xs ys b d)

fine_one : (c : ℕ) → is_written c ≡ true → AreFine (c ∷ [])
fine_one c h =
    let a = and_parts (scalar c) (nat_le 32 c && shown c) h in
    let b = and_parts (nat_le 32 c) (shown c) a.1 in
    (and_from (scalar c) true a.0 refl, (b.1, tt))

-- ---- cells

abbrev IsFine : LineCell → Type 0
IsFine cell = AreFine (chars_of cell)

abbrev Fine : List LineCell → Type 0
Fine cells = AllByRecursion IsFine cells

fine_char : (look : LineLook) (c : ℕ) → Fine (char_cells look c)
fine_char look c = when Fine (is_written c) (line.Char (glyph c look) ∷ []) [] (λ h. (fine_one c h, tt)) tt

fine_mark : (c : ℕ) → Fine (mark_cells c)
fine_mark c = when Fine (is_written c) (line.Mark c ∷ []) [] (λ h. (fine_one c h, tt)) tt

fine_each : {X : Type 0} (f : X → List LineCell) → ((x : X) → Fine (f x)) → (xs : List X) → Fine (flat_map f xs)
fine_each f h [] = tt
fine_each f h (x ∷ xs) = all_both IsFine (f x) (flat_map f xs) (h x) (fine_each f h xs)

fine_glyph : (g : Glyph) → Fine (glyph_cells g)
fine_glyph g = all_both IsFine (char_cells (line_look g.pen.look) g.char) (flat_map mark_cells (take g.count g.marks))
    (fine_char (line_look g.pen.look) g.char) (fine_each mark_cells fine_mark (take g.count g.marks))

fine_cell : (x : Cell) → Fine (cell_cells x)
fine_cell (cell.Empty background) = when Fine (is_default background) (line.Empty ∷ []) (line.Char (glyph 32 (record plain_line { background = background })) ∷ [])
    (λ h. ((refl, (refl, tt)), tt)) ((refl, (refl, tt)), tt)
fine_cell (cell.Char g) = fine_glyph g
fine_cell (cell.Wide g) = fine_glyph g
fine_cell cell.Behind = tt

fine_trimmed : (p : LineCell → Bool) (cells : List LineCell) → Fine cells → Fine (trimmed p cells)
fine_trimmed p [] h = tt
fine_trimmed p (x ∷ cells) (a, b) = when Fine (is_nil (trimmed p cells) && p x) [] (x ∷ trimmed p cells) (λ e. tt) (a, fine_trimmed p cells b)

fine_row : (row : Row) → Fine (row_cells row)
fine_row row =
    let cells = seen row.size row.cells in
    fine_trimmed is_blank (flat_map cell_cells cells) (fine_each cell_cells fine_cell cells)

fine_chars : (cells : List LineCell) → Fine cells → AreFine (flat_map chars_of cells)
fine_chars [] h = (refl, tt)
fine_chars (x ∷ cells) (a, b) = fine_on (chars_of x) (flat_map chars_of cells) a (fine_chars cells b)

-- ---- text

text_on : (s t : List ℕ) → IsText s → IsText t → IsText (s ++ t)
text_on s t (xs, a, b, c) (ys, d, e, f) =
    (xs ++ ys, scalars_on xs ys a d, all_both IsShown xs ys b e, ap (λ u. u ++ t) c ∙ ap (λ u. encode_utf8_all xs ++ u) f ∙ sym (encoded_on xs ys))

row_text : (row : Row) → IsText (ended Plain (row_cells row))
row_text row =
    let chars = flat_map chars_of (row_cells row) in
    let fine = fine_chars (row_cells row) (fine_row row) in
    text_on (encode_utf8_all chars) (10 ∷ []) (chars, fine.0, fine.1, refl) (10 ∷ [], refl, (refl, tt), sym (blank_written Plain).0)

rows_shown : (rows : List Row) → IsText (rows_text Plain rows)
rows_shown [] = ([], refl, tt, refl)
rows_shown (row ∷ rows) = text_on (ended Plain (row_cells row)) (rows_text Plain rows) (row_text row) (rows_shown rows)

pub view_shown : (scrollback : Bool) (s : Screen) → IsText (view Plain scrollback s)
view_shown scrollback s = text_on (if scrollback then rows_text Plain (reverse s.back) else []) (rows_text Plain (trimmed is_bare s.grid))
    (when IsText scrollback (rows_text Plain (reverse s.back)) [] (λ h. rows_shown (reverse s.back)) (rows_shown [])) (rows_shown (trimmed is_bare s.grid))
