use Rattle.csicodec_transform.proofs.Slots.{slot_known}
use Rattle.csicodec_transform.proofs.memo.Memo.keep.Goals as goal

pub put-requires-clause-own : goal.put-requires-clause-own
put-requires-clause-own g c =
    slot_known g.N.Note.notes c.args.bytes.now c.in-Some.front.now c.args.text.now
    c.copy_from_slice.new.self _ c.args.len c.in-Some.ensures.cases.same
    c.copy_from_slice.ensures.after c.if-len-le-WIDE.true c.if-text-le-WIDE.true c.requires.noted
