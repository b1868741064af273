use Rattle.csicodec_sequences.proofs.Table.{sequence}
use Rattle.csicodec_sequences.proofs.laws.sequence.Goals as goal

pub returns : goal.returns
returns c = λ i row values at fits. sequence i row values at fits
