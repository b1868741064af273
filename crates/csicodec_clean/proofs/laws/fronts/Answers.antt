use Rattle.csicodec_clean.proofs.{Common.concat, Common.drops, Common.first_kept, Common.keeps, Chunks.taken, Again.clean_front, Again.strip_front}
use Rattle.csicodec_clean.proofs.laws.fronts.Goals as goal

pub returns-clause-dropped : goal.returns-clause-dropped
returns-clause-dropped c = λ s chunks more text last h. strip_front s (concat chunks) more text last (taken drops s chunks text last h)

pub returns-clause-kept : goal.returns-clause-kept
returns-clause-kept c =
    λ d chunks more text last h. clean_front d (concat chunks) more text last (taken keeps (first_kept d) chunks text last h)
