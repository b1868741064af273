use Rattle.std.proofs.Common.{[], append-nil, sym}
use Rattle.csicodec_compact.proofs.Beside.{csi_writes, note_long}
use Rattle.csicodec_compact.proofs.shortener.MemoryVisitShortener.csi_dispatch.Goals as goal

pub find-requires : goal.find-requires
find-requires c = rw c.split_at.ensures.front c.requires.seq

pub take-requires-clause-long : goal.take-requires-clause-long
take-requires-clause-long c = note_long c.split_at.result.0.now c.note-note.result.now (rw (← c.note-note.ensures) at c.in_ok-find.ensures)

pub take-requires-clause-wide : goal.take-requires-clause-wide
take-requires-clause-wide c = record { more = []; whole = sym (append-nil c.note-note.result.now) }

pub keep-requires-clause-noted : goal.keep-requires-clause-noted
keep-requires-clause-noted c = rw (c.split_at.ensures.front) at (rw (← c.note.ensures) at c.in_ok-find.ensures)

pub returns : goal.returns
returns c =
    rw c.split_at.ensures.front at
    (csi_writes c.args.visitor.now (record { notes = c.find.new.self; written = c.take.new.self }) c.split_at.result.0.now c.args.out.now c.take.new.out
    (c.in_ok-take.ensures c.split_at.result.0.now (rw (← c.note-note.ensures) at c.in_ok-find.ensures)))
