use Rattle.csicodec_looks.proofs.Common.{front_in, untabbed_byte}
use Rattle.csicodec_looks.proofs.ascii.split_run.Goals as goal

pub returns-clause-untabbed : goal.returns-clause-untabbed
returns-clause-untabbed c = rw c.split_front.ensures.front (front_in untabbed_byte c.split_at.result.0.now)
