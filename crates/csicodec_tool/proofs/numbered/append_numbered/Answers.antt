use Rattle.std.proofs.Common.{◌∙◌, append_assoc}
use Rattle.csicodec_tool.proofs.numbered.append_numbered.Goals as goal

pub loop-byte-preserved : goal.loop-byte-preserved
loop-byte-preserved c =
    let l = c.loop-byte in
    let all = rw c.in-Some.ensures.cases.0 at l.invariant in
    record {
      text = rw (c.in_ok-push.ensures.items, c.in_ok-append_front.ensures, c.further-now.ensures) (simp append_assoc) ∙ all.text;
      place = rw c.further-now.ensures all.place;
    }
