-- Written by tools/table from table/keys.toml: change that, and run python3 tools/table.
-- The rows of each table of keys, which stand in src/rows.rt, each table with its source.
use Rattle.std.specs.Prelude.{List}
use Rattle.csicodec_keys.specs.{declared.rows.Table.Table, declared.tables.Row.Row}
use Rattle.csicodec_keys.specs.declared.rows.TheConstants.{CONTROL, CSI, KITTY, LINUX, OTHER, RXVT, RXVT_SS3, SS3, SS3_CURSOR, WIN32}
use Rattle.csicodec_keys.specs.declared.rows.Table.TheVariants as table

unfoldable pub rows : Table → List Row
rows table.Control = CONTROL
rows table.Ss3 = SS3
rows table.Ss3Cursor = SS3_CURSOR
rows table.Csi = CSI
rows table.Kitty = KITTY
rows table.Other = OTHER
rows table.Rxvt = RXVT
rows table.RxvtSs3 = RXVT_SS3
rows table.Linux = LINUX
rows table.Win32 = WIN32
