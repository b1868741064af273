use Rattle.csicodec_structs.proofs.ModeNumbers.{terminal_read}
use Rattle.csicodec_structs.proofs.numbers.terminal_mode.Goals as goal

pub returns-clause-named : goal.returns-clause-named
returns-clause-named c = (terminal_read c.word.result c.from.result c.from.ensures).2
