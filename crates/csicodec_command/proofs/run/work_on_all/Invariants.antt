use Rattle.csicodec_command.proofs.Turns.{TurnsTo}
use Rattle.csicodec_command.proofs.run.work_on_all.Given as goal

-- these had their turns, and what is left goes on behind them
abbrev pub invariant-loop-name : goal.invariant-loop-name
invariant-loop-name g l = TurnsTo g.T.Worker.steps (g.I.Inputs.holds l.inputs) l.names (l.initial.work, g.W.Write.contents l.initial.output.out)
    l.name-index l.first (l.work, g.W.Write.contents l.output.out)
