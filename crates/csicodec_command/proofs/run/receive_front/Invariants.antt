use Rattle.csicodec_command.proofs.Common.{Consumes}
use Rattle.csicodec_command.proofs.run.receive_front.Given as goal

-- what is there was read, and is all that was
abbrev pub invariant-loop : goal.invariant-loop
invariant-loop g l = record { read : Consumes (g.R.Read.remaining l.initial.input) (g.R.Read.remaining l.input) l.front.items }
