use Rattle.csicodec_command.proofs.{Common.ap, Common.sym, Common.◌∙◌, Common.is_over, Left.line_next, Left.line_read}
use Rattle.csicodec_command.proofs.recorded.Recorded.read_line.Goals as goal

pub returns-in-Ok-clause-same : goal.returns-in-Ok-clause-same
returns-in-Ok-clause-same g c =
    let read = c.read_until.ensures in
    line_read _ c.args.self.now.line.items c.read_until.new.buf.items _ _ _
    (ap is_over (sym c.deref.ensures.value) ∙ sym c.is_over.ensures ∙ c.if-is_over.false) read.appends read.stops read.none_lost

pub returns-in-Ok-clause-next : goal.returns-in-Ok-clause-next
returns-in-Ok-clause-next g c =
    let read = c.in-Ok.ensures in
    rw (c.is_empty.ensures, c.as_slice.ensures.value)
    (line_next c.args.self.now.line.items c.read_until.new.buf.items _ _
    (ap is_over (sym c.deref.ensures.value) ∙ sym c.is_over.ensures ∙ c.if-is_over.false) read.bytes read.rest)

pub returns-in-Err-clause-same : goal.returns-in-Err-clause-same
returns-in-Err-clause-same g c =
    let read = c.read_until.ensures in
    line_read _ c.args.self.now.line.items c.read_until.new.buf.items _ _ _
    (ap is_over (sym c.deref.ensures.value) ∙ sym c.is_over.ensures ∙ c.if-is_over.false) read.appends read.stops read.none_lost
