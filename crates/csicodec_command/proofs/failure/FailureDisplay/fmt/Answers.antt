use Rattle.csicodec_command.proofs.Common.{append_assoc, has_written_of_eq}
use Rattle.csicodec_command.proofs.failure.FailureDisplay.fmt.Goals as goal

pub returns-in-NotPlain-clause-writes : goal.returns-in-NotPlain-clause-writes
returns-in-NotPlain-clause-writes g c =
    rw c.in-NotPlain.is (λ plain ok. has_written_of_eq _ _ _ _ _ (simp append_assoc) (c.write-in-NotPlain.ensures.writes plain ok))
