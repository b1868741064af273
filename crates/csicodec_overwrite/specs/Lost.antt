-- Which characters come, and which a step takes out of the line that it is done in. No step takes one out of another line, and one that
-- leaves the row takes none but blanks of a line in which nothing else stands. Of what a step shifts in the line it takes the tabs alone.
use Rattle.std.specs.Prelude.{ℕ, zero, suc, ◌≡◌, ◌≢◌, ◌≤◌, ◌-◌, ◌+◌, ◌==◌, Bool, false, filter, List, [], ◌∷◌, ◌++◌, length, replicate, Option, Some, None, if◌then◌else◌}
use Rattle.std.specs.List.{count_by, flat_map}
use Rattle.bstr.specs.Utf8.{lossy_chars}
use Rattle.csicodec_clean.specs.Cleaned.{Strips, longest}
use Rattle.csicodec_looks.specs.Cells.{begins_behind, belongs, chars_of, columns, glyph, gone, is_empty, of_tab, outside, takes, width, without}
use Rattle.csicodec_looks.specs.Line.{blank, cells_of, does, entered, fits, fresh, is_row, leaves_long, parted, pen_behind, put, shows_nothing, most}
use Rattle.csicodec_looks.specs.{declared.cells.Cell.Cell, declared.cells.Glyph.Glyph, declared.line.Line.Line, declared.pen.Pen.Pen, declared.step.Step.Step}
use Rattle.csicodec_looks.specs.{Paint.as_text}
use Rattle.csicodec_overwrite.specs.Reading.{Shows}

-- ---- parts of a line

-- the cells of so many columns
abbrev pub within : ℕ → List Cell → List Cell
within n [] = []
within n (cell ∷ cells) = if n == 0 then [] else cell ∷ within (n - takes cell) cells

-- those in front that belong to the character before them
abbrev pub belonging : List Cell → List Cell
belonging [] = []
belonging (cell ∷ cells) = if belongs cell then cell ∷ belonging cells else []

-- so many columns, and what belongs to the last character in them
abbrev pub whole : ℕ → List Cell → List Cell
whole n cells = within n cells ++ belonging (without n cells)

-- the character in whose columns the cursor stands
abbrev pub under : Line → List Cell
under l = if begins_behind l.right
    then belonging l.left ++ (within 1 (outside l.left) ++ belonging l.right) else []

-- each character that stands in one of so many columns from the cursor on
abbrev pub touched : ℕ → Line → List Cell
touched n l = under l ++ whole n (parted l).right

-- the tabs among cells that are shifted: empty columns come in place of each, as many as it had
abbrev pub tabs : List Cell → List Cell
tabs cells = filter (of_tab false) cells

-- ---- what a step takes

-- a character of so many columns takes those that stand there, in insert mode only the one that it parts and the tabs that it shifts, and a
-- mark takes none
abbrev pub covered : Bool → ℕ → Line → List Cell
covered inserts columns l = if columns == 0 then []
    else if inserts then under l ++ tabs (parted l).right else touched columns l

-- where the line has no room for it, it stands in a new one, and takes none
abbrev pub taken_by : ℕ → Bool → Glyph → Line → List Cell
taken_by limit inserts g l = if fits limit (width g.char (columns l.left)) l
    then covered inserts (width g.char (columns l.left)) l else []

-- so many times
abbrev pub taken_by_all : ℕ → Bool → Glyph → ℕ → Line → List Cell
taken_by_all limit inserts g zero l = []
taken_by_all limit inserts g (suc n) l =
    taken_by limit inserts g l ++ taken_by_all limit inserts g n (put limit inserts g l).line

abbrev pub taken_again : ℕ → Pen → Option ℕ → ℕ → Line → List Cell
taken_again limit pen None n l = []
taken_again limit pen (Some c) n l = taken_by_all limit pen.inserts (glyph c pen.look) n l

-- the blanks of a line that is left, if nothing else stands in it: it isn't written
abbrev pub left_out : Line → List Cell
left_out l = if shows_nothing l then cells_of l else []

-- in this line what is overwritten, erased, deleted, parted or left out, and each tab that is shifted: no other step takes anything
abbrev pub taken_here : ℕ → Pen → Step → Line → List Cell
taken_here limit pen (Step.Put c) l = taken_by limit pen.inserts (glyph c pen.look) l
taken_here limit pen (Step.Repeat n) l = taken_again limit pen pen.last n l
taken_here limit pen Step.EraseRight l = under l ++ (parted l).right
taken_here limit pen Step.EraseLeft l = l.left ++ whole 1 l.right
taken_here limit pen Step.EraseAll l = l.left ++ l.right
taken_here limit pen (Step.Erase n) l = touched n l
taken_here limit pen (Step.Delete n) l = touched n l ++ tabs (gone n (parted l).right)
taken_here limit pen (Step.Insert n) l = under l ++ tabs (parted l).right
taken_here limit pen Step.Restore l = if pen.here then [] else left_out l
taken_here limit pen (Step.Leave to) l = left_out l
taken_here limit pen (Step.Row row to) l = if is_row pen.row row then [] else left_out l
taken_here limit pen s l = []

-- and the blanks of a line that is longer than a row, where nothing else stands in it
abbrev pub taken : ℕ → Pen → Step → Line → List Cell
taken limit pen s l = (if leaves_long s l then left_out l else []) ++ taken_here limit pen s (entered limit s l).line

-- ---- what comes

abbrev pub again : Option ℕ → ℕ → List ℕ
again None n = []
again (Some c) n = replicate n c

-- a tab comes where nothing stands on its right
abbrev pub came : Pen → Step → Line → List ℕ
came pen (Step.Put c) l = c ∷ []
came pen (Step.Repeat n) l = again pen.last n
came pen Step.Tab l = if length l.right == 0 then 9 ∷ [] else []
came pen s l = []

-- ---- one step after the other

-- the characters of a cell: none of an empty one
abbrev pub written : Cell → List ℕ
written cell = if is_empty cell then [] else chars_of cell

abbrev pub all_taken : ℕ → Pen → List Step → Line → List ℕ
all_taken limit pen [] l = []
all_taken limit pen (s ∷ steps) l = flat_map written (taken limit pen s l)
    ++ all_taken limit (pen_behind pen s (columns l.left)) steps (does limit pen s l).line

abbrev pub all_came : ℕ → Pen → List Step → Line → List ℕ
all_came limit pen [] l = []
all_came limit pen (s ∷ steps) l = came pen s l
    ++ all_came limit (pen_behind pen s (columns l.left)) steps (does limit pen s l).line

-- ---- the laws, of all bytes, of what is written for them, painted or not, and of the text that `strip` leaves of that

-- how often a character is among these
abbrev pub times : ℕ → List ℕ → ℕ
times c chars = count_by (λ x. x == c) chars

-- each character that `strip` leaves of the bytes, but for tabs and newlines, is as often in that text or taken in its line
abbrev pub NothingLost : Type 0
NothingLost = (painted : Bool) (bytes kept out text : List ℕ) (s : Shows (as_text painted) bytes out) (c : ℕ)
    → Strips longest bytes kept → Strips longest out text → c ≢ 9 → c ≢ 10
    → times c (lossy_chars kept)
    ≤ times c (lossy_chars text) + times c (all_taken most fresh s.steps blank)

-- and no character, but for blanks and newlines, is more often there or taken than it came
abbrev pub NothingMade : Type 0
NothingMade = (painted : Bool) (bytes out text : List ℕ) (s : Shows (as_text painted) bytes out) (c : ℕ)
    → Strips longest out text → c ≢ 32 → c ≢ 10
    → times c (lossy_chars text) + times c (all_taken most fresh s.steps blank)
    ≡ times c (all_came most fresh s.steps blank)
