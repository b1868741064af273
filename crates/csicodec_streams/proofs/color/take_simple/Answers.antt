use Rattle.std.proofs.Common.{take}
use Rattle.csicodec_streams.proofs.color.take_simple.Goals as goal

pub returns-then-moved-gt0-clause-normal : goal.returns-then-moved-gt0-clause-normal
returns-then-moved-gt0-clause-normal c = λ some.
    let (normal, out) = c.take_position-moved.ensures.own some in
    (take c.take_position-moved.result c.args.bytes.now, normal, out)
