use Rattle.csicodec_command.proofs.Common.{Keeps, left}
use Rattle.csicodec_command.proofs.recorded.Recorded.fill.Given as goal

-- nothing was lost
abbrev pub invariant-loop : goal.invariant-loop
invariant-loop g l = Keeps (left g.R.Read.remaining l.initial.self) (left g.R.Read.remaining l.self)
