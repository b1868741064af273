use Rattle.std.proofs.Common.{inl, inr, arith}
use Rattle.csicodec_tokens.proofs.Reading.{wrong_at_byte, wrong_at_end}
use Rattle.csicodec_tokens.proofs.reader.part_front.Goals as goal

pub returns-in-empty : goal.returns-in-empty
returns-in-empty c = wrong_at_end c.args.bytes.now c.in-empty.len_below

pub returns-in-0-to-31 : goal.returns-in-0-to-31
returns-in-0-to-31 c = wrong_at_byte c.args.bytes.now c.in-0-to-31.len_at_least (inl (omega arith))

pub returns-in-127-to-255 : goal.returns-in-127-to-255
returns-in-127-to-255 c = wrong_at_byte c.args.bytes.now c.in-127-to-255.len_at_least (inr (omega arith))
