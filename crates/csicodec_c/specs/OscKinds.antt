-- Written by tools/table from table/osc.toml: change that, and run python3 tools/table.
-- The numbers of `enum csicodec_osc_kind`, of what lists its commands: 16 are kept for each list.
use Rattle.std.specs.Prelude.{ℕ, ◌+◌}
use Rattle.csicodec_osc.specs.declared.command.{Title.Title, ColorTable.ColorTable, Dynamic.Dynamic, Folder.Folder, Mark.Mark, EditorMark.EditorMark, Progress.Progress}
use Rattle.csicodec_osc.specs.declared.command.Title.TheVariants as title
use Rattle.csicodec_osc.specs.declared.command.ColorTable.TheVariants as color_table
use Rattle.csicodec_osc.specs.declared.command.Dynamic.TheVariants as dynamic
use Rattle.csicodec_osc.specs.declared.command.Folder.TheVariants as folder
use Rattle.csicodec_osc.specs.declared.command.Mark.TheVariants as mark
use Rattle.csicodec_osc.specs.declared.command.EditorMark.TheVariants as editor_mark
use Rattle.csicodec_osc.specs.declared.command.Progress.TheVariants as progress

abbrev pub title_kind : Title → ℕ
title_kind title.Both = 16
title_kind title.Icon = 17
title_kind title.Window = 18

abbrev pub color_table_kind : ColorTable → ℕ
color_table_kind color_table.Indexed = 32
color_table_kind color_table.Special = 33

abbrev pub color_table_reset_kind : ColorTable → ℕ
color_table_reset_kind command = color_table_kind command + 16

abbrev pub dynamic_kind : Dynamic → ℕ
dynamic_kind dynamic.Foreground = 64
dynamic_kind dynamic.Background = 65
dynamic_kind dynamic.Cursor = 66
dynamic_kind dynamic.PointerForeground = 67
dynamic_kind dynamic.PointerBackground = 68
dynamic_kind dynamic.TektronixForeground = 69
dynamic_kind dynamic.TektronixBackground = 70
dynamic_kind dynamic.HighlightBackground = 71
dynamic_kind dynamic.TektronixCursor = 72
dynamic_kind dynamic.HighlightForeground = 73

abbrev pub dynamic_reset_kind : Dynamic → ℕ
dynamic_reset_kind command = dynamic_kind command + 16

abbrev pub folder_kind : Folder → ℕ
folder_kind folder.Address = 96
folder_kind folder.Path = 97

abbrev pub mark_kind : Mark → ℕ
mark_kind mark.Prompt = 112
mark_kind mark.Command = 113
mark_kind mark.Output = 114
mark_kind mark.End = 115
mark_kind mark.CommandLine = 116
mark_kind mark.FreshLine = 117
mark_kind mark.NextPrompt = 118
mark_kind mark.PromptPart = 119

abbrev pub editor_mark_kind : EditorMark → ℕ
editor_mark_kind editor_mark.Prompt = 128
editor_mark_kind editor_mark.Command = 129
editor_mark_kind editor_mark.Output = 130
editor_mark_kind editor_mark.End = 131
editor_mark_kind editor_mark.CommandText = 132
editor_mark_kind editor_mark.Continuation = 133
editor_mark_kind editor_mark.ContinuationEnd = 134
editor_mark_kind editor_mark.RightPrompt = 135
editor_mark_kind editor_mark.RightPromptEnd = 136
editor_mark_kind editor_mark.Property = 137

abbrev pub progress_kind : Progress → ℕ
progress_kind progress.Off = 144
progress_kind progress.Shown = 145
progress_kind progress.Failed = 146
progress_kind progress.Busy = 147
progress_kind progress.Paused = 148

abbrev pub link_kind : ℕ
link_kind = 160

abbrev pub clipboard_kind : ℕ
clipboard_kind = 161

abbrev pub pointer_kind : ℕ
pointer_kind = 162

abbrev pub kitty_notice_kind : ℕ
kitty_notice_kind = 163

abbrev pub titled_notice_kind : ℕ
titled_notice_kind = 164

abbrev pub notice_kind : ℕ
notice_kind = 165
