use Rattle.std.proofs.{Common.◌++◌, KnownBytes.Consumes-trans}
use Rattle.csicodec_streams.proofs.OneReading.{refused_end}
use Rattle.csicodec_transform.specs.declared.error.DecodeError.{DecodeError}
use Rattle.csicodec_streams.proofs.stream.refused.Goals as goal

pub returns-in-Ok-clause-refused : goal.returns-in-Ok-clause-refused
returns-in-Ok-clause-refused g c = λ given read whole all.
    let (bytes, consumed, end) = c.in-Ok.ensures.end in
    let refuses = rw c.in-Read.is at (all bytes) in
    rw c.in-Read.is (refused_end given _ (read ++ bytes) (DecodeError.Read c.in-Read.start c.in-Read.error) (Consumes-trans _ _ _ read bytes whole consumed) end refuses)
