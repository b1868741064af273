use Rattle.std.proofs.Common.{◌≡◌, length}
use Rattle.csicodec_looks.specs.Bytes.{behind}
use Rattle.csicodec_looks.proofs.bytes.behind_few.Given as goal

-- some were passed
abbrev pub invariant-loop-byte : goal.invariant-loop-byte
invariant-loop-byte g l = record { same : behind g.C.ByteClass.class l.rest ≡ behind g.C.ByteClass.class l.bytes }

abbrev pub decreases-loop-byte : goal.decreases-loop-byte
decreases-loop-byte g l = length l.rest
