use Rattle.std.proofs.Common.{◌∙◌, arith}
use Rattle.csicodec_osc.specs.declared.command.TheConstants.{COMMANDS}
use Rattle.csicodec_osc.proofs.Reading.{next-read, none-left, none-says, says}
use Rattle.csicodec_osc.proofs.osc.Osc.read.Goals as goal

pub returns-in-Some : goal.returns-in-Some
returns-in-Some c = says _ c.args.content.now _ c.in-Some.ensures

pub loop-command-preserved : goal.loop-command-preserved
loop-command-preserved c = c.loop-command.invariant ∙ next-read COMMANDS c.loop-command.command-index _ c.args.content.now (omega arith) c.in_default.ensures

pub returns : goal.returns
returns c = none-says c.args.content.now (c.loop-command.invariant ∙ none-left c.loop-command.command-index c.args.content.now (omega arith))
