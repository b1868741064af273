use Rattle.std.proofs.Common.{arith}
use Rattle.csicodec_streams.proofs.OneReading.{number_front}
use Rattle.csicodec_streams.proofs.position.number_len.Goals as goal

pub returns-clause-number : goal.returns-clause-number
returns-clause-number c = λ some.
    number_front c.args.bytes.now c.digits_len-behind.result c.in-len1-up.len_at_least (omega arith) (omega arith) c.digits_len-behind.ensures.few c.digits_len-behind.ensures.digits
