use Rattle.std.proofs.Common.{arith}
use Rattle.csicodec_streams.proofs.OneReading.{two_cut}
use Rattle.csicodec_structs.proofs.ShortLaid.{short_answer}
use Rattle.csicodec_structs.proofs.front.lay_front.Goals as goal

pub returns : goal.returns
returns c =
    let bytes = c.args.bytes.now in
    short_answer bytes _ c.args.actions.now c.lay_short.new.actions c.args.params.now c.in-Some.count c.in-Some.after.now c.done.result
    (two_cut bytes 27 91 c.in-27.len_at_least (omega arith) (omega arith)) c.in-Some.ensures.some c.done.ensures
