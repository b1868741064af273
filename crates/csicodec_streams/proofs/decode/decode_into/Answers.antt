use Rattle.csicodec_streams.proofs.OneReading.{refuses_at}
use Rattle.csicodec_streams.proofs.decode.decode_into.Goals as goal

pub returns-clause-refused : goal.returns-clause-refused
returns-clause-refused g c =
    let (xs, d, put) = c.in_ok-behind.ensures.front in
    let stop = rw c.in-Some.is at c.in_ok-behind.ensures.behind in
    let rest = c.in_ok-behind.behind.rest.now in
    rw c.refusal_at.ensures (refuses_at c.args.bytes.now rest c.args.parameters_truncated xs stop.1.0 c.in-Some.error d stop.0 stop.1.1)
