use Rattle.std.proofs.Common.{arith}
use Rattle.csicodec_tokens.proofs.Walks.{stopped_behind, walked_whole, stopped_byte}
use Rattle.csicodec_tokens.proofs.body.walk_some.Goals as goal

pub returns-then-len-lt-LANES-clause-walked : goal.returns-then-len-lt-LANES-clause-walked
returns-then-len-lt-LANES-clause-walked c =
    rw (c.if-number-eq0.true, c.split_at.ensures.back)
    (stopped_behind c.args.bytes.now c.body_len-len.result (omega (arith, c.if-bytes-ge-LANES.true)) c.body_len-len.ensures (omega (arith, c.if-len-lt-LANES.true)))

pub returns-then-len-gt0-clause-walked : goal.returns-then-len-gt0-clause-walked
returns-then-len-gt0-clause-walked c =
    rw (c.if-number-eq0.true, c.split_at-then-len-gt0.ensures.back)
    (walked_whole c.args.bytes.now c.body_len-len.result (omega (arith, c.if-bytes-ge-LANES.true)) c.body_len-len.ensures c.whole_len-len.result (omega (arith, c.if-len-gt0.true))
    (omega (arith, c.whole_len-len.ensures.within, c.if-len-lt-LANES.false)) (c.whole_len-len.ensures.last (omega (arith, c.if-len-gt0.true))))

pub returns-in-None-clause-walked : goal.returns-in-None-clause-walked
returns-in-None-clause-walked c = stopped_byte c.args.number c.args.byte c.args.bytes.now c.args.others.now c.requires c.in-None.ensures
