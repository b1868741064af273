use Rattle.std.proofs.Common.{take, arith}
use Rattle.csicodec_transform.proofs.Slots.{has_front}
use Rattle.csicodec_transform.proofs.memo.Memo.recall.Goals as goal

pub returns-in-Ok : goal.returns-in-Ok
returns-in-Ok g c =
    let slot = c.index-slot.result.now in
    let f = has_front g.N.Note.notes c.args.bytes.now _ _ slot c.seek.ensures.known c.in-Some.ensures.found c.index-slot.ensures in
    record {
      within = rw c.from-len.ensures f.within;
      short = rw c.from-len.ensures f.short;
      noted = λ _. (take slot.text_len slot.text, rw c.from-len.ensures f.noted, rw c.from.ensures at c.in-Ok.ensures.ok);
      none = λ zero. absurd (omega (arith, zero, c.from-len.ensures, f.some));
      known = rw c.hit.ensures c.seek.ensures.known;
    }
