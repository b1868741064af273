use Rattle.std.proofs.Common.{◌≡◌, ◌-◌, length, inl, inr, arith}
use Rattle.csicodec_events.proofs.Stops.{no_csi, span_told, text_told, text_waits}
use Rattle.csicodec_spans.specs.declared.table.Kind.{Kind}
use Rattle.csicodec_events.specs.declared.event.Event.{Event}
use Rattle.csicodec_events.proofs.event.Events.span.Goals as goal

pub returns-then-len-eq0 : goal.returns-then-len-eq0
returns-then-len-eq0 c =
    let cut = c.in_ok-cut.cut in
    text_waits c.args.self.now c.args.bytes.now cut.mode (length cut.span.bytes.now - c.held_len.result) cut.span.bytes.now cut.rest.now c.requires.limit c.requires.looked c.requires.other (rw c.in-Text.is at c.in_ok-cut.ensures.cut)
    c.if-len-eq0.true c.held_len.ensures.holds

pub returns-else-len-eq0 : goal.returns-else-len-eq0
returns-else-len-eq0 c =
    let cut = c.in_ok-cut.cut in
    rw c.found.ensures.event (text_told c.args.self.now c.args.bytes.now c.args._params.now.items c.found.new.self cut.mode (length cut.span.bytes.now - c.held_len.result) cut.span.bytes.now cut.rest.now
    c.requires.looked c.found.ensures.onward (rw c.in-Text.is at c.in_ok-cut.ensures.cut) (rw c.in-Text.is at c.in_ok-cut.ensures.maximal) (omega arith) (omega (arith, c.if-len-eq0.false)) c.held_len.ensures.holds)

pub returns-in-Esc : goal.returns-in-Esc
returns-in-Esc c =
    let cut = c.in_ok-cut.cut in
    rw c.found-in-Esc.ensures.event (span_told c.args.self.now c.args.bytes.now c.args._params.now.items c.found-in-Esc.new.self cut.mode Kind.Esc Event.Esc cut.span.bytes.now cut.rest.now c.requires.limit c.requires.looked
    c.found-in-Esc.ensures.onward (rw c.in-Esc.is at c.in_ok-cut.ensures.cut) (rw c.in-Esc.is at c.in_ok-cut.ensures.maximal) (λ s. s))

pub returns-in-Csi : goal.returns-in-Csi
returns-in-Csi c =
    let cut = c.in_ok-cut.cut in
    let other : cut.span.kind ≡ Kind.Other = elim c.in-Csi.is [
      | inl csi ↦ absurd (no_csi c.args.bytes.now cut.span.bytes.now cut.rest.now c.requires.other c.in_ok-cut.ensures.parts (c.in_ok-cut.ensures.sequence csi))
      | inr same ↦ same
    ] in
    rw c.found-in-Csi.ensures.event (span_told c.args.self.now c.args.bytes.now c.args._params.now.items c.found-in-Csi.new.self cut.mode Kind.Other Event.Other cut.span.bytes.now cut.rest.now c.requires.limit c.requires.looked
    c.found-in-Csi.ensures.onward (rw other at c.in_ok-cut.ensures.cut) (rw other at c.in_ok-cut.ensures.maximal) (λ s. inl (c.requires.other, s)))
