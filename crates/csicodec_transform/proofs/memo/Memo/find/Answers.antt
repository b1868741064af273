use Rattle.csicodec_transform.proofs.Slots.{has_front}
use Rattle.csicodec_transform.proofs.memo.Memo.find.Goals as goal

pub invariant_of-out : goal.invariant_of-out
invariant_of-out g c = rw c.from.ensures (has_front g.N.Note.notes c.args.bytes.now _ _ c.index-slot.result.now c.seek.ensures.known c.in-Some.ensures.found c.index-slot.ensures).text

pub returns : goal.returns
returns g c =
    let f = has_front g.N.Note.notes c.args.bytes.now _ _ c.index-slot.result.now c.seek.ensures.known c.in-Some.ensures.found c.index-slot.ensures in
    rw (c.from-len.ensures, c.from.ensures, c.hit.ensures) (record { within = f.within; short = f.short; noted = λ _. f.noted; known = c.seek.ensures.known })
