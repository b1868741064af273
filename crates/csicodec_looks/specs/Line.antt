-- A line of a terminal, its cursor, and what each step does to it.
use Rattle.std.specs.Prelude.{ℕ, zero, suc, ◌+◌, ◌-◌, ◌*◌, ◌%◌, ◌≤◌, ◌==◌, nat_le, nat_lt, min, max, Bool, true, false, List, [], ◌∷◌, ◌++◌, length, replicate, MatchBool, Option, Some, None, if◌then◌else◌, ◌&&◌}
use Rattle.std.specs.List.{list_all}
use Rattle.csicodec_looks.specs.Cells.{begins_behind, columns, emptied, erased, glyph, gone, is_blank, onto, outside, shifted, takes, to_tab_stop, trimmed, width, without}
use Rattle.csicodec_looks.specs.{Look.behind, Look.plain, declared.cells.Cell.Cell, declared.cells.Glyph.Glyph, declared.line.Line.Line}
use Rattle.csicodec_looks.specs.{declared.step.Step.Step, declared.cells.Cell.TheVariants.Behind, declared.cells.Cell.TheVariants.Char}
use Rattle.csicodec_looks.specs.{declared.cells.Cell.TheVariants.Empty, declared.cells.Cell.TheVariants.Mark, declared.pen.Pen.Pen}

-- the cells left of the cursor and those right of it, on either side the nearest first
abbrev pub line : List Cell → List Cell → Line
line left right = record { left = left; right = right }

abbrev pub blank : Line
blank = line [] []

-- how many cells a line holds
abbrev pub size : Line → ℕ
size l = length l.left + length l.right

-- ---- moving

-- the rows of terminals that people use have no more columns
abbrev pub widest : ℕ
widest = 512

-- so many columns to the right, as far as there are cells, and over what belongs to the last of them
abbrev pub over : ℕ → List Cell → List Cell → Line
over n left [] = line left []
over n left (cell ∷ right) = if nat_lt n (takes cell) then line left (cell ∷ right)
    else over (n - takes cell) (cell ∷ left) right

-- and further, over columns on which nothing stands, as far as the line has room
abbrev pub padded : ℕ → ℕ → Line → Line
padded limit n l = line (replicate (min n (limit - size l)) Empty ++ l.left) l.right

abbrev pub forward : ℕ → ℕ → Line → Line
forward limit n l = padded limit (n - columns l.right) (over n l.left l.right)

-- and no further than the last column of a row
abbrev pub rightward : ℕ → ℕ → Line → Line
rightward limit n l = forward limit (min n (widest - 1 - columns l.left)) l

-- behind so many columns
abbrev pub behind_columns : ℕ → ℕ → Line → Line
behind_columns limit n l = forward limit n (line [] (onto l.left l.right))

-- so many columns to the left, and no further than the first
abbrev pub backward : ℕ → ℕ → Line → Line
backward limit n l = behind_columns limit (columns l.left - n) l

-- the columns up to a tab stop on the right, one or more, of which there is one at every eighth column
abbrev pub to_stop : ℕ → ℕ → ℕ
to_stop n column = 8 * n - column % 8

-- and those back to one on the left
abbrev pub from_stop : ℕ → ℕ → ℕ
from_stop n column = (column - 1) % 8 + (8 * n - 7)

-- ---- erasing

-- a character in whose columns the cursor stands is gone: they are empty
abbrev pub parted : Line → Line
parted l = if begins_behind l.right then line (emptied l.left (without 1 (outside l.left))) (emptied l.right (outside l.right)) else l

abbrev pub erase : ℕ → Line → Line
erase n l = line (parted l).left (erased n (parted l).right)

abbrev pub delete : ℕ → Line → Line
delete n l = line (parted l).left (shifted false (gone n (parted l).right))

-- so many empty columns come, as far as the line has room
abbrev pub insert : ℕ → ℕ → Line → Line
insert limit n l = line (parted l).left
    (replicate (min n (limit - size (parted l))) Empty ++ shifted false (parted l).right)

-- ---- characters

-- a character of so many columns comes in place of what stands at the cursor, or in insert mode (IRM; ECMA-48, 7.2.10) in front of it;
-- one of none goes with the column before it
abbrev pub placed : Bool → Glyph → ℕ → Line → Line
placed inserts g columns l = if columns == 0 then line (Mark g.char ∷ l.left) l.right
    else line (replicate (columns - 1) Behind ++ (Char g ∷ (parted l).left))
    (if inserts then shifted false (parted l).right else gone columns (parted l).right)

-- what stands in the line, up to the last cell that isn't empty, from the last on
abbrev pub standing : Line → List Cell
standing l = trimmed (onto l.right l.left)

abbrev pub cells_of : Line → List Cell
cells_of l = onto (standing l) []

-- the lines that are over with a step, and the one behind it
pub record Done : Type 0 where
  pub lines : List (List Cell)
  pub line : Line

abbrev pub done : List (List Cell) → Line → Done
done lines l = record { lines = lines; line = l }

-- the line has room for a character of so many columns: of none it takes a cell too
abbrev pub fits : ℕ → ℕ → Line → Bool
fits limit columns l = nat_le (size l + max columns 1) limit

-- a character where the line has room for it, and else at the start of a new one
abbrev pub put : ℕ → Bool → Glyph → Line → Done
put limit inserts g l = if fits limit (width g.char (columns l.left)) l
    then done [] (placed inserts g (width g.char (columns l.left)) l)
    else done (cells_of l ∷ []) (placed inserts g (width g.char 0) blank)

abbrev pub before : List (List Cell) → Done → Done
before lines d = done (lines ++ d.lines) d.line

-- so many times
abbrev pub repeat : ℕ → Bool → Glyph → ℕ → Line → Done
repeat limit inserts g zero l = done [] l
repeat limit inserts g (suc n) l = before (put limit inserts g l).lines (repeat limit inserts g n (put limit inserts g l).line)

-- ---- another row

-- the columns left of a column, of which the first is 1, or of the cursor
abbrev pub target : Option ℕ → Line → ℕ
target None l = min (columns l.left) (widest - 1)
target (Some column) l = min (column - 1) (widest - 1)

-- whether no more than blanks stands in the line
abbrev pub shows_nothing : Line → Bool
shows_nothing l = list_all is_blank (cells_of l)

-- the line, if more than that stands in it
abbrev pub lines_of : Line → List (List Cell)
lines_of l = if shows_nothing l then [] else cells_of l ∷ []

-- to another row, or maybe so: the line is over, and a new one begins in that column
abbrev pub leave : ℕ → Option ℕ → Line → Done
leave limit to l = done (lines_of l) (forward limit (target to l) blank)

-- this is the row that was given last
abbrev pub is_row : Option ℕ → ℕ → Bool
is_row None row = false
is_row (Some own) row = own == row

-- to a column of the same row, or to the same column
abbrev pub in_row : ℕ → Option ℕ → Line → Line
in_row limit None l = l
in_row limit (Some column) l = behind_columns limit (column - 1) l

-- to a place in a row: where that was given last, and wasn't left since, the line goes on
abbrev pub placed_in : ℕ → Pen → ℕ → Option ℕ → Line → Done
placed_in limit pen row to l = if is_row pen.row row then done [] (in_row limit to l) else leave limit to l

-- behind so many columns and cells, each line of these characters has room in one
abbrev pub HasRoom : ℕ → ℕ → ℕ → List ℕ → Type 0
HasRoom limit columns cells [] = Unit {0}
HasRoom limit columns cells (c ∷ chars) = MatchBool (c == 10) (HasRoom limit 0 0 chars)
    ((cells + max (width c columns) 1 ≤ limit)
    × HasRoom limit (columns + width c columns) (cells + max (width c columns) 1) chars)

-- ---- what is set and saved

-- at the start
abbrev pub fresh : Pen
fresh = record { look = plain; inserts = false; last = None; saved = 0; saved_look = plain; here = false; row = None }

-- Behind a step that is done in this column: but for characters nothing is repeated, of a mark the character before it, and no column is
-- saved that no terminal's row has. With a place the look is saved, and comes back with it (DECSC and DECRC of the VT510, and xterm's
-- ctlseqs, also of SCOSC, SCORC, 1048 and 1049): it is plain where none was saved.
abbrev pub pen_behind : Pen → Step → ℕ → Pen
pen_behind pen (Step.Put c) column = record pen { last = if width c 0 == 0 then pen.last else Some c }
pen_behind pen (Step.Attribute s) column = record pen { look = behind pen.look s; last = None }
pen_behind pen (Step.Inserts inserts) column = record pen { inserts = inserts; last = None }
pen_behind pen Step.Save column = record pen {
  last = None;
  saved = if nat_lt column widest then column else 0;
  saved_look = pen.look;
  here = nat_lt column widest;
}
pen_behind pen Step.Restore column = record pen { look = pen.saved_look; last = None; here = true; row = None }
pen_behind pen Step.NewLine column = record pen { last = None; here = false; row = None }
pen_behind pen (Step.Leave to) column = record pen { last = None; here = false; row = None }
pen_behind pen (Step.Row row to) column = record pen { last = None; here = is_row pen.row row && pen.here; row = Some row }
pen_behind pen Step.Reset column = fresh
pen_behind pen s column = record pen { last = None }

-- ---- the steps

-- REP (ECMA-48, 8.3.103) repeats a character, if nothing stands between them
abbrev pub repeated : ℕ → Pen → Option ℕ → ℕ → Line → Done
repeated limit pen None n l = done [] l
repeated limit pen (Some c) n l = repeat limit pen.inserts (glyph c pen.look) n l

-- to the saved place, and where that isn't in this row, to a line of its own
abbrev pub restored : ℕ → Pen → Line → Done
restored limit pen l = if pen.here then done [] (behind_columns limit pen.saved l)
    else done (lines_of l) (forward limit pen.saved blank)

-- in this line
abbrev pub does_here : ℕ → Pen → Step → Line → Done
does_here limit pen (Step.Put c) l = put limit pen.inserts (glyph c pen.look) l
does_here limit pen (Step.Repeat n) l = repeated limit pen pen.last n l
does_here limit pen Step.Tab l = if length l.right == 0 then put limit pen.inserts (glyph 9 pen.look) l
    else done [] (forward limit (to_tab_stop (columns l.left)) l)
does_here limit pen (Step.Tabs n) l = done [] (rightward limit (to_stop n (columns l.left)) l)
does_here limit pen (Step.TabsBack n) l = done [] (backward limit (from_stop n (columns l.left)) l)
does_here limit pen Step.NewLine l = done (cells_of l ∷ []) blank
does_here limit pen (Step.Right n) l = done [] (rightward limit n l)
does_here limit pen (Step.Left n) l = done [] (backward limit n l)
does_here limit pen (Step.Column n) l = done [] (behind_columns limit (n - 1) l)
does_here limit pen Step.EraseRight l = done [] (line (parted l).left [])
does_here limit pen Step.EraseLeft l = done [] (line (replicate (columns l.left) Empty) (erased 1 l.right))
does_here limit pen Step.EraseAll l = done [] (line (replicate (columns l.left) Empty) [])
does_here limit pen (Step.Erase n) l = done [] (erase n l)
does_here limit pen (Step.Delete n) l = done [] (delete n l)
does_here limit pen (Step.Insert n) l = done [] (insert limit n l)
does_here limit pen Step.Restore l = restored limit pen l
does_here limit pen (Step.Leave to) l = leave limit to l
does_here limit pen (Step.Row row to) l = placed_in limit pen row to l
does_here limit pen s l = done [] l

-- what stands in the line is overwritten, erased or shifted with the step
abbrev pub alters : Step → Line → Bool
alters (Step.Put c) l = nat_lt 0 (length l.right)
alters (Step.Repeat n) l = nat_lt 0 (length l.right)
alters Step.EraseRight l = nat_lt 0 (length l.right)
alters Step.EraseLeft l = true
alters Step.EraseAll l = true
alters (Step.Erase n) l = nat_lt 0 (length l.right)
alters (Step.Delete n) l = nat_lt 0 (length l.right)
alters (Step.Insert n) l = nat_lt 0 (length l.right)
alters s l = false

-- in a line of more cells, marks among them, the cursor isn't in the row of all that stands there
abbrev pub leaves_long : Step → Line → Bool
leaves_long s l = alters s l && nat_lt widest (size l)

-- so a step that alters such a line is done in a new one
abbrev pub entered : ℕ → Step → Line → Done
entered limit s l = if leaves_long s l then leave limit None l else done [] l

abbrev pub does : ℕ → Pen → Step → Line → Done
does limit pen s l = before (entered limit s l).lines (does_here limit pen s (entered limit s l).line)

-- one after the other
abbrev pub do_all : ℕ → Pen → List Step → Line → Done
do_all limit pen [] l = done [] l
do_all limit pen (s ∷ steps) l = before (does limit pen s l).lines
    (do_all limit (pen_behind pen s (columns l.left)) steps (does limit pen s l).line)

abbrev pub pen_behind_all : ℕ → Pen → List Step → Line → Pen
pen_behind_all limit pen [] l = pen
pen_behind_all limit pen (s ∷ steps) l =
    pen_behind_all limit (pen_behind pen s (columns l.left)) steps (does limit pen s l).line

-- a line holds so many cells at most
abbrev pub most : ℕ
most = 65536
