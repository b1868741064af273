use Rattle.std.specs.Io.KnownBytes.{Keeps}
use Rattle.csicodec_transform.proofs.io.receive.Given as goal

-- nothing was read
abbrev pub invariant-loop : goal.invariant-loop
invariant-loop g l = Keeps (g.R.Read.remaining l.initial.input) (g.R.Read.remaining l.input)
