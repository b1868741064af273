use Rattle.std.proofs.Common.{refl}
use Rattle.csicodec_clean.proofs.{Coded.color_taken, Chunks.front_read}
use Rattle.csicodec_clean.proofs.notes.SequenceNotes.read.Goals as goal

pub returns-in-Some-clause-read : goal.returns-in-Some-clause-read
returns-in-Some-clause-read c = λ some.
    let (list, reads, are) = c.in-Some.ensures.read in
    rw (c.in_ok-push.ensures.items, c.clear.ensures.items) (color_taken _ c.args.bytes.now c.in-Some.rest.now _ list c.in-Some.ensures.spelled reads are refl)

pub returns-in_ok-terminal_actions_into-in-Ok-clause-read : goal.returns-in_ok-terminal_actions_into-in-Ok-clause-read
returns-in_ok-terminal_actions_into-in-Ok-clause-read c = λ some.
    let list = c.read_csi_into.new.params.items in
    let seq = front_read _ c.args.bytes.now c.in-Ok.tail.rest.now list c.in-Ok.tail.control c.in-Ok.ensures.found refl in
    (list, c.in-Ok.tail.control, seq, rw c.deref.ensures.value at c.in_ok-terminal_actions_into-in-Ok.ensures)
