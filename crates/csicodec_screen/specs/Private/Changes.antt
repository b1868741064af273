-- What the code does to the cells of rows, as one value.
use Rattle.std.specs.Prelude.{ℕ, ℤ, Bool, List, map, take, drop, replicate, Option, ◌+◌, ◌-◌, if◌then◌else◌}
use Rattle.csicodec_screen.specs.{Areas.attributes_changed, Areas.by_all, Areas.look_set, Areas.look_turned, Areas.or_zero, Cells.deleted, Cells.drawn}
use Rattle.csicodec_screen.specs.{Cells.emptied, Cells.flooded, Cells.inserted, Cells.joined_by, Draws.tab, Draws.tab_back, Lists.moved, Lists.within}
use Rattle.csicodec_screen.specs.{Rows.in_line, Rows.is_beside, Rows.segment, Rows.with_segments, Screen.edge, declared.cell.Cell.Cell}
use Rattle.csicodec_screen.specs.{declared.cells.Change.Change, declared.look.Look.Look, declared.rows.Area.Area, declared.rows.Row.Row}
use Rattle.csicodec_screen.specs.{declared.rows.Size.TheVariants.Single, declared.rows.Uniform.Uniform, declared.screen.Screen.Screen}
use Rattle.csicodec_screen.specs.declared.cells.Change.TheVariants as change

-- by a number, that sets how characters look or turns it over
abbrev pub look_changed : Bool → ℕ → Look → Look
look_changed turns n l = if turns then look_turned n l else look_set n l

-- by the numbers behind an area
abbrev pub look_behind : Bool → List (Option ℤ) → Look → Look
look_behind turns fields l = by_all (look_changed turns) (or_zero (drop 4 fields)) l

-- to those from column c to d
abbrev pub changed : Change → ℕ → ℕ → List Cell → List Cell
changed (change.Empty spares background) c d cells = emptied spares background c d cells
changed (change.Insert background n) c d cells = inserted background n c d cells
changed (change.Delete background n) c d cells = deleted background n c d cells
changed (change.Flood x) c d cells = flooded x c d cells
changed (change.Draw wide g) c d cells = drawn wide g c d cells
changed (change.Join mark) c d cells = joined_by mark c cells
changed (change.Attributes turns fields) c d cells = attributes_changed (look_behind turns fields.now) c d cells

-- a row whose cells are all alike
abbrev pub row_of : Uniform → Row
row_of u = record { cells = replicate u.columns u.cell; size = Single }

-- to the next tab stop, or to the one in front
abbrev pub tab_once : Bool → Screen → Screen
tab_once back s = if back then tab_back s else tab s

-- ICH and DCH: within left and right margins
abbrev pub chars_moved : Change → Screen → Screen
chars_moved x s = if is_beside s then in_line (changed x s.column (edge s + 1)) s else s

-- the cells of rows between two columns move up or down
abbrev pub parts_moved : Bool → ℕ → Cell → ℕ → ℕ → List Row → List Row
parts_moved upward n x c d rows = with_segments c d (moved upward n (replicate (d - c) x) (map (segment c d) rows)) rows

-- cells of an area stand in another
abbrev pub area_copied : Area → Area → List Row → List Row
area_copied to a grid = within to.top to.bottom (with_segments to.first to.last (map (segment a.first a.last) (take (a.bottom - a.top) (drop a.top grid)))) grid

abbrev pub cells_copied : Area → Area → Screen → Screen
cells_copied to a s = record s { grid = area_copied to a s.grid }
