use Rattle.csicodec_clean.proofs.Told.{wide_front}
use Rattle.csicodec_clean.proofs.wide.front_len.Goals as goal

pub returns-clause-shown : goal.returns-clause-shown
returns-clause-shown c = (wide_front c.args.bytes.now _ c.if-bytes-lt4.false c.char_len.ensures).1
