use Rattle.std.specs.Fmt.{HasWritten, IsPlainFormatter}
use Rattle.csicodec_parser.proofs.Common.{take, spells}
use Rattle.csicodec_parser.proofs.actions.UnspecifiedDisplay.fmt.Given as goal

abbrev pub invariant-loop-param : goal.invariant-loop-param
invariant-loop-param g l =
    IsPlainFormatter l.initial.f → HasWritten g.W.Write.write_str_gives l.initial.f (spells (take l.param-index l.param-items)) l.f
