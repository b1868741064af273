-- Written by tools/table from table/osc.toml: change that, and run python3 tools/table.
-- The commands: the number of each, and the form of what stands behind it, each with its document.
use Rattle.std.specs.Prelude.{ℕ, List, codes}
use Rattle.csicodec_osc.specs.Forms.{Form, OneText, Message, Several, TwoTexts, TextAsked}
use Rattle.csicodec_osc.specs.declared.command.Command.{Command}
use Rattle.csicodec_osc.specs.declared.command.Command.TheVariants as command
use Rattle.csicodec_osc.specs.declared.command.Title.TheVariants as title
use Rattle.csicodec_osc.specs.declared.command.ColorTable.TheVariants as color_table
use Rattle.csicodec_osc.specs.declared.command.Dynamic.TheVariants as dynamic
use Rattle.csicodec_osc.specs.declared.command.Folder.TheVariants as folder
use Rattle.csicodec_osc.specs.declared.command.Mark.TheVariants as mark
use Rattle.csicodec_osc.specs.declared.command.EditorMark.TheVariants as editor_mark
use Rattle.csicodec_osc.specs.declared.command.Progress.TheVariants as progress

-- What a command begins with: its number, and a letter, a word or a further number where it has one.
abbrev pub number : Command → List ℕ
number (command.Title title.Both) = codes "0"  -- xterm ctlseqs, Operating System Commands
number (command.Title title.Icon) = codes "1"  -- xterm ctlseqs, Operating System Commands
number (command.Title title.Window) = codes "2"  -- xterm ctlseqs, Operating System Commands
number (command.Colors color_table.Indexed) = codes "4"  -- xterm ctlseqs, Operating System Commands
number (command.Colors color_table.Special) = codes "5"  -- xterm ctlseqs, Operating System Commands
number (command.ResetColors color_table.Indexed) = codes "104"  -- xterm ctlseqs, Operating System Commands
number (command.ResetColors color_table.Special) = codes "105"  -- xterm ctlseqs, Operating System Commands
number (command.Color dynamic.Foreground) = codes "10"  -- xterm ctlseqs, Operating System Commands
number (command.Color dynamic.Background) = codes "11"  -- xterm ctlseqs, Operating System Commands
number (command.Color dynamic.Cursor) = codes "12"  -- xterm ctlseqs, Operating System Commands
number (command.Color dynamic.PointerForeground) = codes "13"  -- xterm ctlseqs, Operating System Commands
number (command.Color dynamic.PointerBackground) = codes "14"  -- xterm ctlseqs, Operating System Commands
number (command.Color dynamic.TektronixForeground) = codes "15"  -- xterm ctlseqs, Operating System Commands
number (command.Color dynamic.TektronixBackground) = codes "16"  -- xterm ctlseqs, Operating System Commands
number (command.Color dynamic.HighlightBackground) = codes "17"  -- xterm ctlseqs, Operating System Commands
number (command.Color dynamic.TektronixCursor) = codes "18"  -- xterm ctlseqs, Operating System Commands
number (command.Color dynamic.HighlightForeground) = codes "19"  -- xterm ctlseqs, Operating System Commands
number (command.ResetColor dynamic.Foreground) = codes "110"  -- xterm ctlseqs, Operating System Commands
number (command.ResetColor dynamic.Background) = codes "111"  -- xterm ctlseqs, Operating System Commands
number (command.ResetColor dynamic.Cursor) = codes "112"  -- xterm ctlseqs, Operating System Commands
number (command.ResetColor dynamic.PointerForeground) = codes "113"  -- xterm ctlseqs, Operating System Commands
number (command.ResetColor dynamic.PointerBackground) = codes "114"  -- xterm ctlseqs, Operating System Commands
number (command.ResetColor dynamic.TektronixForeground) = codes "115"  -- xterm ctlseqs, Operating System Commands
number (command.ResetColor dynamic.TektronixBackground) = codes "116"  -- xterm ctlseqs, Operating System Commands
number (command.ResetColor dynamic.HighlightBackground) = codes "117"  -- xterm ctlseqs, Operating System Commands
number (command.ResetColor dynamic.TektronixCursor) = codes "118"  -- xterm ctlseqs, Operating System Commands
number (command.ResetColor dynamic.HighlightForeground) = codes "119"  -- xterm ctlseqs, Operating System Commands
number (command.Folder folder.Address) = codes "7"  -- VTE; Apple Terminal
number (command.Folder folder.Path) = codes "9;9"  -- ConEmu, ANSI and xterm codes; Windows Terminal
number (command.Prompt mark.Prompt) = codes "133;A"  -- FinalTerm; iTerm2, Shell Integration
number (command.Prompt mark.Command) = codes "133;B"  -- FinalTerm; iTerm2, Shell Integration
number (command.Prompt mark.Output) = codes "133;C"  -- FinalTerm; iTerm2, Shell Integration
number (command.Prompt mark.End) = codes "133;D"  -- FinalTerm; iTerm2, Shell Integration
number (command.Prompt mark.CommandLine) = codes "133;I"  -- Per Bothner, Semantic prompts
number (command.Prompt mark.FreshLine) = codes "133;L"  -- Per Bothner, Semantic prompts
number (command.Prompt mark.NextPrompt) = codes "133;N"  -- Per Bothner, Semantic prompts
number (command.Prompt mark.PromptPart) = codes "133;P"  -- Per Bothner, Semantic prompts
number (command.Editor editor_mark.Prompt) = codes "633;A"  -- VS Code, Shell Integration
number (command.Editor editor_mark.Command) = codes "633;B"  -- VS Code, Shell Integration
number (command.Editor editor_mark.Output) = codes "633;C"  -- VS Code, Shell Integration
number (command.Editor editor_mark.End) = codes "633;D"  -- VS Code, Shell Integration
number (command.Editor editor_mark.CommandText) = codes "633;E"  -- VS Code, Shell Integration
number (command.Editor editor_mark.Continuation) = codes "633;F"  -- VS Code, Shell Integration
number (command.Editor editor_mark.ContinuationEnd) = codes "633;G"  -- VS Code, Shell Integration
number (command.Editor editor_mark.RightPrompt) = codes "633;H"  -- VS Code, Shell Integration
number (command.Editor editor_mark.RightPromptEnd) = codes "633;I"  -- VS Code, Shell Integration
number (command.Editor editor_mark.Property) = codes "633;P"  -- VS Code, Shell Integration
number (command.Progress progress.Off) = codes "9;4;0"  -- ConEmu, ANSI and xterm codes
number (command.Progress progress.Shown) = codes "9;4;1"  -- ConEmu, ANSI and xterm codes
number (command.Progress progress.Failed) = codes "9;4;2"  -- ConEmu, ANSI and xterm codes
number (command.Progress progress.Busy) = codes "9;4;3"  -- ConEmu, ANSI and xterm codes
number (command.Progress progress.Paused) = codes "9;4;4"  -- ConEmu, ANSI and xterm codes
number command.Link = codes "8"  -- Hyperlinks in terminal emulators
number command.Clipboard = codes "52"  -- xterm ctlseqs, Operating System Commands
number command.Pointer = codes "22"  -- xterm ctlseqs, Operating System Commands; kitty, Mouse pointer shapes
number command.KittyNotice = codes "99"  -- kitty, Desktop notifications
number command.TitledNotice = codes "777;notify"  -- urxvt(7), urxvt-perls notify; VTE
number command.Notice = codes "9"  -- iTerm2, Proprietary Escape Codes

-- The form of what stands behind it.
abbrev pub form : Command → Form
form (command.Title v) = OneText
form (command.Folder v) = OneText
form command.Link = TwoTexts
form command.Clipboard = TextAsked
form command.Pointer = OneText
form command.KittyNotice = TwoTexts
form command.TitledNotice = TwoTexts
form command.Notice = Message
form _ = Several
