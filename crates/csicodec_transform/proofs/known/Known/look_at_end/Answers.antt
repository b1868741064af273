use Rattle.std.proofs.Common.{subst}
use Rattle.csicodec_transform.proofs.Slots.{front_copied}
use Rattle.csicodec_transform.proofs.known.Known.look_at_end.Goals as goal

pub returns-clause-noted : goal.returns-clause-noted
returns-clause-noted g c = λ some.
    subst (λ l. g.N.Note.notes l c.find-len.new.out)
    (front_copied c.args.bytes.now c.near-front.result.now c.copy_from_slice.new.self _ _ c.find-len.result c.near-front.ensures c.copy_from_slice.ensures.after c.if-len-front.false)
    (c.find-len.ensures.noted some)
