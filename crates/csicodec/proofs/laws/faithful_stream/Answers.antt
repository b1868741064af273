use Rattle.csicodec.proofs.{Taken.faithful_taken, Rewritten.faithful_again, Rewritten.faithful_alone, Rewritten.faithful_means, Rewritten.faithful_whole}
use Rattle.csicodec.proofs.laws.faithful_stream.Goals as goal

pub returns : goal.returns
returns c = record { means = faithful_means; taken = faithful_taken; again = faithful_again; alone = faithful_alone; whole = faithful_whole }
