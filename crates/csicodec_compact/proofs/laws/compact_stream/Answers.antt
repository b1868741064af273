use Rattle.csicodec_compact.proofs.Told.{again_alone, again_whole, no_longer}
use Rattle.csicodec_compact.proofs.laws.compact_stream.Goals as goal

pub returns : goal.returns
returns c = record { short = no_longer; whole = again_whole; alone = again_alone }
