use Rattle.std.specs.Fmt.{HasWritten, IsPlainFormatter}
use Rattle.csicodec_actions.proofs.Common.{take, listed_text}
use Rattle.csicodec_actions.proofs.device.write_listed.Given as goal

abbrev pub invariant-loop-item : goal.invariant-loop-item
invariant-loop-item g l =
    IsPlainFormatter l.initial.f → HasWritten g.W.Write.write_str_gives l.initial.f (listed_text g.T.Listed.token_of (take l.item-index l.items)) l.f
