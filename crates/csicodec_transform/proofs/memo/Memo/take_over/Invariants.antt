use Rattle.csicodec_transform.specs.Known.{AreKnown}
use Rattle.csicodec_transform.proofs.memo.Memo.take_over.Given as goal

abbrev pub invariant-loop-slot : goal.invariant-loop-slot
invariant-loop-slot g l = AreKnown g.N.Note.notes l.self.slots.items
