use Rattle.std.proofs.lemmas.Result.{MatchResult-weaker}
use Rattle.csicodec_tokens.proofs.Reading.{one_reading, refused_for_memory}
use Rattle.csicodec_tokens.proofs.reader.read_csi_into.Goals as goal

pub returns-clause-only : goal.returns-clause-only
returns-clause-only c = λ list final rest s.
    MatchResult-weaker c.fill.result c.fill.ensures.read
    (λ r h. one_reading c.args.bytes.now rest _ list _ final _ s h)
    (λ r h. refused_for_memory c.args.bytes.now rest list final _ r s h)
