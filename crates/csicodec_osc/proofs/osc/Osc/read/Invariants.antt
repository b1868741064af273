use Rattle.std.proofs.Common.{◌≡◌, drop}
use Rattle.csicodec_osc.specs.{declared.command.TheConstants.COMMANDS, Private.Reading.first_read}
use Rattle.csicodec_osc.proofs.osc.Osc.read.Given as goal

-- no command that is passed reads the content
abbrev pub invariant-loop-command : goal.invariant-loop-command
invariant-loop-command l = first_read COMMANDS l.content ≡ first_read (drop l.command-index COMMANDS) l.content
