use Rattle.std.proofs.Common.{ap, ◌∙◌, length, length-append, arith}
use Rattle.csicodec_explain.proofs.input.tell_all.Goals as goal

pub loop-sent-preserved : goal.loop-sent-preserved
loop-sent-preserved c =
    let i = c.loop-sent.invariant in
    let sent = c.in-Some.sent in
    let parts = ap length (rw c.in-Some.is at c.in_ok-sent.ensures.parts) ∙ length-append sent.bytes.now sent.rest.now in
    record {
      limit = omega (arith, i.limit, c.in_ok-sent.ensures.limit);
      met = rw c.in-Some.is at c.in_ok-sent.ensures.again;
      within = omega (arith, i.within, parts);
    }
