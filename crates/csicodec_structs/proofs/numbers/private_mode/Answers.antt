use Rattle.csicodec_structs.proofs.ModeNumbers.{dec_read}
use Rattle.csicodec_structs.proofs.numbers.private_mode.Goals as goal

pub returns-clause-named : goal.returns-clause-named
returns-clause-named c = (dec_read c.word.result c.from.result c.from.ensures).2
