-- What is done to rectangular areas, and by the other sequences that have no action of their own.
use Rattle.std.specs.Prelude.{ℕ, ℤ, pos, negsuc, min, max, not, Bool, true, false, List, map, take, drop, slice_index_or, Option, Some, None, nat_le, nat_lt, ◌+◌, ◌-◌, ◌==◌, ◌∷◌, ◌&&◌, ◌||◌, [], if◌then◌else◌}
use Rattle.csicodec_names.specs.{declared.color.Blink.Blink, declared.color.Underline.Underline, declared.enums.EraseInDisplay.EraseInDisplay}
use Rattle.csicodec_names.specs.{declared.enums.EraseInLine.EraseInLine}
use Rattle.csicodec_screen.specs.{Acts.erase_display, Acts.erase_line, Acts.left_and_right, Acts.of_one, Cells.cell_with, Cells.emptied, Cells.flooded}
use Rattle.csicodec_screen.specs.{Draws.columns_of, Draws.glyph, Lists.within, Rows.columns_moved, Rows.is_inside, Rows.over, Rows.segment, Rows.with_segments}
use Rattle.csicodec_screen.specs.{Screen.background, declared.cell.Cell.Cell, declared.cell.Cell.TheVariants.Char, declared.look.Look.Look}
use Rattle.csicodec_screen.specs.{declared.rows.Area.Area, declared.screen.Screen.Screen}
use Rattle.csicodec_sequences.specs.Parts.{Parts, parts_of}
use Rattle.csicodec_tokens.specs.{Fields.fields_of, declared.param.CsiParam.CsiParam}
use Rattle.csicodec_names.specs.declared.color.Blink.TheVariants as blinking
use Rattle.csicodec_names.specs.declared.color.Underline.TheVariants as underline

-- ---- areas (DEC VT510, "Rectangular Area Operations")

-- a number of a list, where it is there and isn't 0
abbrev pub natural : Option ℤ → ℕ
natural None = 0
natural (Some (pos n)) = n
natural (Some (negsuc n)) = 0

abbrev pub nth : ℕ → List (Option ℤ) → ℕ
nth i fields = natural (slice_index_or fields i None)

-- with the origin on an area is counted from the margins' corner, and ends at their other one
abbrev pub first_row : Screen → ℕ
first_row s = if s.modes.origin then s.margins.top else 0

abbrev pub first_column : Screen → ℕ
first_column s = if s.modes.origin then s.margins.left else 0

abbrev pub behind_rows : Screen → ℕ
behind_rows s = if s.modes.origin then s.margins.bottom + 1 else s.rows

abbrev pub behind_columns : Screen → ℕ
behind_columns s = if s.modes.origin then s.margins.right + 1 else s.columns

-- the end of a side: a number that is left out or 0 is the last place
abbrev pub side : ℕ → ℕ → ℕ → ℕ
side n from last = if n == 0 then last else min (from + n) last

abbrev pub area_at : ℕ → List (Option ℤ) → Screen → Area
area_at i fields s = record {
  top = first_row s + of_one (nth i fields);
  first = first_column s + of_one (nth (i + 1) fields);
  bottom = side (nth (i + 2) fields) (first_row s) (behind_rows s);
  last = side (nth (i + 3) fields) (first_column s) (behind_columns s);
}

abbrev pub is_area : Area → Bool
is_area a = nat_lt a.top a.bottom && nat_lt a.first a.last

-- the cells of an area by a function of cells from a column to another
abbrev pub on_area : (ℕ → ℕ → List Cell → List Cell) → Area → Screen → Screen
on_area f a s = if is_area a then over a.top a.bottom (f a.first a.last) s else s

-- a character of Unicode that one can see
abbrev pub is_seen : ℕ → Bool
is_seen c = nat_le 32 c && nat_lt c 127 || nat_le 160 c && nat_lt c 55296 || nat_le 57344 c && nat_lt c 1114112

-- DECFRA: one of one column fills an area, drawn with the pen
abbrev pub filled : ℕ → Area → Screen → Screen
filled c a s = if is_seen c && columns_of c == 1 then on_area (flooded (Char (glyph c s))) a s else s

-- DECERA, and DECSERA, which spares what is protected
abbrev pub erased : Bool → Area → Screen → Screen
erased spares a s = on_area (emptied spares (background s)) a s

-- DECCRA: to a place, as far as the screen goes
abbrev pub copied_within : ℕ → ℕ → ℕ → ℕ → Area → Screen → Screen
copied_within row column height width a s = record s {
  grid = within row (row + height) (with_segments column (column + width)
      (map (segment a.first (a.first + width)) (take height (drop a.top s.grid)))) s.grid;
}

abbrev pub copied : ℕ → ℕ → Area → Screen → Screen
copied row column a s = if is_area a && (nat_lt row s.rows && nat_lt column s.columns) then copied_within row column
    (min (a.bottom - a.top) (s.rows - row)) (min (a.last - a.first) (s.columns - column)) a s else s

-- ---- looks of an area: DECCARA sets them, DECRARA turns them over

abbrev pub is_line : Underline → Bool
is_line underline.None = false
is_line u = true

abbrev pub has_line : Look → Bool
has_line l = is_line l.underline

abbrev pub is_blink : Blink → Bool
is_blink blinking.None = false
is_blink b = true

abbrev pub blinks : Look → Bool
blinks l = is_blink l.blink

abbrev pub with_line : Bool → Look → Look
with_line b l = record l { underline = if b then underline.Single else underline.None }

abbrev pub with_blink : Bool → Look → Look
with_blink b l = record l { blink = if b then blinking.Slow else blinking.None }

-- by a number of SGR: 0, 1, 4, 5, 7, 8, and 22, 24, 25, 27, 28
abbrev pub look_set : ℕ → Look → Look
look_set n l = if n == 0 then record (with_line false (with_blink false l)) { bold = false; inverse = false; concealed = false }
    else if n == 1 then record l { bold = true }
    else if n == 4 then with_line true l
    else if n == 5 then with_blink true l
    else if n == 7 then record l { inverse = true }
    else if n == 8 then record l { concealed = true }
    else if n == 22 then record l { bold = false }
    else if n == 24 then with_line false l
    else if n == 25 then with_blink false l
    else if n == 27 then record l { inverse = false }
    else if n == 28 then record l { concealed = false }
    else l

-- 0 turns over all of 1, 4, 5 and 7
abbrev pub look_turned : ℕ → Look → Look
look_turned n l = record l {
  bold = if n == 0 || n == 1 then not l.bold else l.bold;
  underline = if n == 0 || n == 4 then (with_line (not (has_line l)) l).underline else l.underline;
  blink = if n == 0 || n == 5 then (with_blink (not (blinks l)) l).blink else l.blink;
  inverse = if n == 0 || n == 7 then not l.inverse else l.inverse;
}

abbrev pub by_all : (ℕ → Look → Look) → List (Option ℤ) → Look → Look
by_all f [] l = l
by_all f (n ∷ fields) l = by_all f fields (f (natural n) l)

-- without a number it is 0
abbrev pub or_zero : List (Option ℤ) → List (Option ℤ)
or_zero [] = None ∷ []
or_zero (n ∷ fields) = n ∷ fields

-- from column c to d, of what was written
abbrev pub attributes_changed : (Look → Look) → ℕ → ℕ → List Cell → List Cell
attributes_changed f c d cells = within c d (map (cell_with f)) cells

-- as a stream of places an area goes from its first corner to its last, over whole rows between
abbrev pub streamed : (ℕ → ℕ → List Cell → List Cell) → Area → Screen → Screen
streamed f a s = if a.bottom == a.top + 1 then on_area f a s
    else over a.top (a.top + 1) (f a.first (behind_columns s))
    (over (a.top + 1) (a.bottom - 1) (f (first_column s) (behind_columns s))
    (over (a.bottom - 1) a.bottom (f (first_column s) a.last) s))

abbrev pub looked : (Look → Look) → Area → Screen → Screen
looked f a s = if s.modes.rectangles then on_area (attributes_changed f) a s
    else if nat_lt a.top a.bottom then streamed (attributes_changed f) a s else s

-- ---- the other sequences, by marker, intermediate and final byte

-- SL, SR (ECMA-48, 8.3.121 and 8.3.135), from the left margin; DECIC and DECDC (DEC VT510), from the cursor on: where the cursor is within all margins
abbrev pub of_columns : Bool → ℕ → ℕ → Screen → Screen
of_columns leftward n c s = if is_inside s then columns_moved leftward (max n 1) c s else s

-- DECSCA: what is drawn from here on is protected, or not
abbrev pub protect : ℕ → Screen → Screen
protect n s = if n == 1 then record s { pen = record s.pen { protected = true } }
    else if n == 0 || n == 2 then record s { pen = record s.pen { protected = false } } else s

-- DECSACE: 2 is rectangles
abbrev pub extent : ℕ → Screen → Screen
extent n s = record s { modes = record s.modes { rectangles = n == 2 } }

abbrev pub display_of : ℕ → Screen → Screen
display_of n s = if n == 0 then erase_display true EraseInDisplay.EraseToEndOfDisplay s
    else if n == 1 then erase_display true EraseInDisplay.EraseToStartOfDisplay s
    else if n == 2 then erase_display true EraseInDisplay.EraseDisplay s else s

abbrev pub line_of : ℕ → Screen → Screen
line_of n s = if n == 0 then erase_line true EraseInLine.EraseToEndOfLine s
    else if n == 1 then erase_line true EraseInLine.EraseToStartOfLine s
    else if n == 2 then erase_line true EraseInLine.EraseLine s else s

-- what a list's numbers do by its final byte, and nothing where that isn't here
abbrev pub by_final : List (ℕ × (List (Option ℤ) → Screen → Screen)) → ℕ → List (Option ℤ) → Screen → Screen
by_final [] final fields s = s
by_final (row ∷ rows) final fields s = if final == row.0 then row.1 fields s else by_final rows final fields s

-- DECSLRM `s`, where the last number is left out
abbrev pub bare_finals : List (ℕ × (List (Option ℤ) → Screen → Screen))
bare_finals = (115, (λ f s. left_and_right (nth 0 f) (nth 1 f) s)) ∷ []

-- DECSED `? J`, DECSEL `? K`
abbrev pub private_finals : List (ℕ × (List (Option ℤ) → Screen → Screen))
private_finals = (74, (λ f s. display_of (nth 0 f) s)) ∷ (75, (λ f s. line_of (nth 0 f) s)) ∷ []

-- SL ` @`, SR ` A`
abbrev pub space_finals : List (ℕ × (List (Option ℤ) → Screen → Screen))
space_finals = (64, (λ f s. of_columns true (nth 0 f) s.margins.left s)) ∷ (65, (λ f s. of_columns false (nth 0 f) s.margins.left s)) ∷ []

-- DECIC `' }`, DECDC `' ~`
abbrev pub apostrophe_finals : List (ℕ × (List (Option ℤ) → Screen → Screen))
apostrophe_finals = (125, (λ f s. of_columns false (nth 0 f) s.column s)) ∷ (126, (λ f s. of_columns true (nth 0 f) s.column s)) ∷ []

-- DECSCA `" q`
abbrev pub quote_finals : List (ℕ × (List (Option ℤ) → Screen → Screen))
quote_finals = (113, (λ f s. protect (nth 0 f) s)) ∷ []

-- DECSACE `* x`
abbrev pub star_finals : List (ℕ × (List (Option ℤ) → Screen → Screen))
star_finals = (120, (λ f s. extent (nth 0 f) s)) ∷ []

-- DECFRA, DECERA and DECSERA, DECCRA, DECCARA and DECRARA, by their numbers
abbrev pub fill_by : List (Option ℤ) → Screen → Screen
fill_by f s = filled (nth 0 f) (area_at 1 f s) s

abbrev pub erase_by : Bool → List (Option ℤ) → Screen → Screen
erase_by spares f s = erased spares (area_at 0 f s) s

abbrev pub copy_by : List (Option ℤ) → Screen → Screen
copy_by f s = copied (first_row s + of_one (nth 5 f)) (first_column s + of_one (nth 6 f)) (area_at 0 f s) s

abbrev pub look_by : (ℕ → Look → Look) → List (Option ℤ) → Screen → Screen
look_by change f s = looked (by_all change (or_zero (drop 4 f))) (area_at 0 f s) s

-- DECFRA `$ x`, DECERA `$ z`, DECSERA `$ {`, DECCRA `$ v`, DECCARA `$ r`, DECRARA `$ t`
abbrev pub dollar_finals : List (ℕ × (List (Option ℤ) → Screen → Screen))
dollar_finals = (120, fill_by) ∷ (122, erase_by false) ∷ (123, erase_by true) ∷ (118, copy_by) ∷ (114, look_by look_set) ∷ (116, look_by look_turned) ∷ []

-- by the marker, or the intermediate byte
abbrev pub by_byte : ℕ → ℕ → List (Option ℤ) → Screen → Screen
by_byte byte final fields s = if byte == 0 then by_final bare_finals final fields s
    else if byte == 63 then by_final private_finals final fields s
    else if byte == 32 then by_final space_finals final fields s
    else if byte == 39 then by_final apostrophe_finals final fields s
    else if byte == 34 then by_final quote_finals final fields s
    else if byte == 42 then by_final star_finals final fields s
    else if byte == 36 then by_final dollar_finals final fields s
    else s

-- a list has one such byte at most: the marker where there is one, else the intermediate
abbrev pub own_byte : Parts → ℕ
own_byte p = if p.marker == 0 then p.intermediate else if p.intermediate == 0 then p.marker else 0

-- a list whose numbers stand apart by `;`
abbrev pub by_fields : ℕ → ℕ → Option (List (Option ℤ)) → Screen → Screen
by_fields byte final None s = s
by_fields byte final (Some fields) s = by_byte byte final fields s

abbrev pub of_unknown : List CsiParam → ℕ → Screen → Screen
of_unknown params final s = by_fields (own_byte (parts_of params)) final (fields_of (parts_of params).body) s
