-- What a character does to a screen, and each control.
use Rattle.std.specs.Prelude.{ℕ, zero, suc, min, max, Bool, true, false, List, take, drop, set, unwrap_or, Option, Some, None, nat_le, nat_lt, ◌+◌, ◌-◌, ◌/◌, ◌==◌, ◌∷◌, ◌&&◌, [], if◌then◌else◌}
use Rattle.csicodec_looks.specs.{Cells.narrowed, Sets.char_in, declared.sets.Set.Set}
use Rattle.csicodec_screen.specs.{Cells.bare, Cells.drawn, Cells.inserted, Cells.joined_by, Rows.in_line, Rows.index, Rows.is_beside, Rows.scrolled_down}
use Rattle.csicodec_screen.specs.{Screen.at, Screen.edge, Screen.background, declared.cell.Glyph.Glyph, declared.screen.Screen.Screen, declared.sets.Sets.Sets}
use Rattle.csicodec_screen.specs.{declared.sets.Slot.Slot}
use Rattle.unicode_width.specs.Width.{char_width}
use Rattle.csicodec_screen.specs.declared.sets.Slot.TheVariants as slot

-- ---- sets

abbrev pub set_of : Sets → Slot → Set
set_of sets slot.G0 = sets.g0
set_of sets slot.G1 = sets.g1
set_of sets slot.G2 = sets.g2
set_of sets slot.G3 = sets.g3

-- the set that the next character comes from
abbrev pub current : Sets → Set
current sets = set_of sets (unwrap_or sets.single sets.left)

-- ---- characters

abbrev pub columns_of : ℕ → ℕ
columns_of c = narrowed (unwrap_or (char_width false c) 0)

abbrev pub glyph : ℕ → Screen → Glyph
glyph c s = bare c s.pen

-- to the left margin of the next row, where the text goes on
abbrev pub wrap : Screen → Screen
wrap s = record (index (record s { wrapped = set s.wrapped s.row true })) { column = s.margins.left; pending = false }

-- a wrap that is pending is done with the next character (DECAWM, DEC VT510)
abbrev pub entered : Screen → Screen
entered s = if s.pending && s.modes.autowrap then wrap s else s

-- it doesn't fit ahead of the edge
abbrev pub is_beyond : ℕ → Screen → Bool
is_beyond w s = nat_lt (edge s + 1) (s.column + w)

-- and where a character doesn't fit
abbrev pub roomy : ℕ → Screen → Screen
roomy w s = if is_beyond w s && s.modes.autowrap then wrap s else s

-- in insert mode, within left and right margins, what stands from the cursor on moves right
abbrev pub made_room : ℕ → Screen → Screen
made_room w s = if s.modes.inserts && is_beside s then in_line (inserted (background s) w s.column (edge s + 1)) s else s

abbrev pub put_here : ℕ → ℕ → Screen → Screen
put_here w c s = in_line (drawn (w == 2) (glyph c s) s.column (s.column + w)) s

-- a character where there is room for it; behind the edge the cursor doesn't go, and the wrap is pending
abbrev pub passed_by : ℕ → ℕ → Screen → Screen
passed_by w c s = record s { column = min (s.column + w) (edge s); pending = nat_lt (edge s) (s.column + w); last = Some c }

abbrev pub placed : ℕ → ℕ → Screen → Screen
placed w c s = if is_beyond w s then s else passed_by w c (put_here w c (made_room w s))

abbrev pub put : ℕ → ℕ → Screen → Screen
put w c s = placed w c (roomy w (entered s))

-- a mark joins the character left of the cursor, or at it where the wrap is pending
abbrev pub mark : ℕ → Screen → Screen
mark c s = if s.pending then in_line (joined_by c s.column) s
    else if s.column == 0 then s else in_line (joined_by c (s.column - 1)) s

abbrev pub show : ℕ → Screen → Screen
show c s = if columns_of c == 0 then mark c s else put (columns_of c) c s

-- a character of the current set: only one of ASCII is another in a set
abbrev pub in_set : ℕ → Screen → ℕ
in_set c s = if nat_lt c 128 then char_in (current s.sets) c else c

-- ---- moving

-- the first and the last row and column to which the cursor moves from where it is: a margin that it isn't beyond, or else the screen's edge
abbrev pub highest : Screen → ℕ
highest s = if nat_le s.margins.top s.row then s.margins.top else 0

abbrev pub lowest : Screen → ℕ
lowest s = if nat_le s.row s.margins.bottom then s.margins.bottom else s.rows - 1

abbrev pub leftmost : Screen → ℕ
leftmost s = if nat_le s.margins.left s.column then s.margins.left else 0

abbrev pub up : ℕ → Screen → Screen
up n s = at (max (s.row - n) (highest s)) s.column s

abbrev pub down : ℕ → Screen → Screen
down n s = at (min (s.row + n) (lowest s)) s.column s

abbrev pub left : ℕ → Screen → Screen
left n s = at s.row (max (s.column - n) (leftmost s)) s

abbrev pub right : ℕ → Screen → Screen
right n s = at s.row (min (s.column + n) (edge s)) s

-- CR (ECMA-48, 8.3.15): to the left margin, or from ahead of it to column 0
abbrev pub return : Screen → Screen
return s = at s.row (if s.modes.origin then s.margins.left else leftmost s) s

-- RI (8.3.104): one row up, and at the top margin all move down
abbrev pub reverse_index : Screen → Screen
reverse_index s = if s.row == s.margins.top && is_beside s then record (scrolled_down 1 s) { pending = false } else up 1 s

-- ---- tab stops

-- the columns in front of the first stop, or all
abbrev pub to_stop : List Bool → ℕ
to_stop [] = 0
to_stop (true ∷ stops) = 0
to_stop (false ∷ stops) = suc (to_stop stops)

-- to the next stop, and no further than the edge; a pending wrap stays
abbrev pub tab : Screen → Screen
tab s = record s { column = min (s.column + 1 + to_stop (drop (s.column + 1) s.stops)) (edge s) }

-- the last stop among these, which begin at column i
abbrev pub last_stop : ℕ → ℕ → List Bool → ℕ
last_stop best i [] = best
last_stop best i (b ∷ stops) = last_stop (if b then i else best) (i + 1) stops

abbrev pub tab_back : Screen → Screen
tab_back s = at s.row (last_stop 0 0 (take s.column s.stops)) s

abbrev pub times : ℕ → (Screen → Screen) → Screen → Screen
times zero f s = s
times (suc n) f s = times n f (f s)

abbrev pub stop_at : Bool → Screen → Screen
stop_at b s = record s { stops = set s.stops s.column b }

-- ---- controls

-- LF, VT and FF (8.3.74, 8.3.161, 8.3.51): the next row, and with LNM its first column
abbrev pub line_feed : Screen → Screen
line_feed s = if s.modes.new_line then return (index s) else index s

abbrev pub next_line : Screen → Screen
next_line s = return (index s)

abbrev pub shift : Slot → Screen → Screen
shift n s = record s { sets = record s.sets { left = n } }

-- what the first row with this number does, and nothing where there is none
abbrev pub by_number : List (ℕ × (Screen → Screen)) → ℕ → Screen → Screen
by_number [] c s = s
by_number (row ∷ rows) c s = if c == row.0 then row.1 s else by_number rows c s

-- C0: BS, HT, LF, VT, FF, CR, SO and SI. BEL and ENQ are told, and the others do nothing (ECMA-48, 8.2.1).
abbrev pub controls : List (ℕ × (Screen → Screen))
controls = (8, left 1) ∷ (9, tab) ∷ (10, line_feed) ∷ (11, line_feed) ∷ (12, line_feed) ∷ (13, return) ∷ (14, shift slot.G1) ∷ (15, shift slot.G0) ∷ []

-- C1 as characters of Unicode: IND, NEL, HTS and RI. The others do nothing.
abbrev pub controls_1 : List (ℕ × (Screen → Screen))
controls_1 = (132, index) ∷ (133, next_line) ∷ (136, stop_at true) ∷ (141, reverse_index) ∷ []

-- a single shift is over with a character
abbrev pub show_in_set : ℕ → Screen → Screen
show_in_set c s = show (in_set c s) (record s { sets = record s.sets { single = None } })

abbrev pub print : ℕ → Screen → Screen
print c s = if c == 127 then s else if nat_le 128 c && nat_lt c 160 then record (by_number controls_1 c s) { last = None } else show_in_set c s

-- REP (8.3.103): the character in front so many times more, and no further than the edge; nothing where the wrap is pending
abbrev pub repeat : ℕ → ℕ → Screen → Screen
repeat n c s = if s.pending then s
    else times (min n ((edge s + 1 - s.column) / max 1 (columns_of c))) (placed (columns_of c) c) s

abbrev pub repeat_last : ℕ → Option ℕ → Screen → Screen
repeat_last n None s = s
repeat_last n (Some c) s = repeat n c s
