use Rattle.std.proofs.Common.{◌≡◌, length}
use Rattle.csicodec_looks.specs.Bytes.{behind}
use Rattle.csicodec_looks.proofs.bytes.behind.Given as goal

-- some were passed
abbrev pub invariant-loop-rest : goal.invariant-loop-rest
invariant-loop-rest g l = record { same : behind g.C.ByteClass.class l.rest ≡ behind g.C.ByteClass.class l.bytes }

abbrev pub decreases-loop-rest : goal.decreases-loop-rest
decreases-loop-rest g l = length l.rest
