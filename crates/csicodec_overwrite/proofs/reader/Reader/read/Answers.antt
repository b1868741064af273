use Rattle.csicodec_overwrite.proofs.{Common.◌≡◌, Common.[], Common.◌∙◌, Common.sym, Common.append-nil, Common.arith, Common.common_steps, Read.reads_from}
use Rattle.csicodec_overwrite.proofs.{Read.reads_nothing}
use Rattle.csicodec_spans.proofs.Missed.{rest_is}
use Rattle.csicodec_overwrite.proofs.reader.Reader.read.Goals as goal

pub returns-in_default-clause-reads : goal.returns-in_default-clause-reads
returns-in_default-clause-reads c =
    let (same, unsure) = rw c.in_default.is at c.in_ok-all.ensures.all in
    let now = c.self.inside in (
      [],
      rw (← c.self.view_is, same)
          (reads_nothing (record { mode = now.waiting.mode; reading = now.reading; bytes = now.waiting.bytes; held = now.held.items }) c.args.bytes.now (rw c.self.invariant.0 at unsure)),
      sym (append-nil c.args.steps.now.items),
    )

pub returns-clause-reads : goal.returns-clause-reads
returns-clause-reads c =
    let (taken, all) = rw c.in-Some.is at c.in_ok-all.ensures.all in
    let rest = c.in_ok-rest.rest.now in
    let kept = rest_is c.deref.result.now c.in_ok-rest.ensures.parts.0 rest c.in_ok-rest.ensures.parts.1 in
    let same : c.keep.new.self.bytes ≡ rest = grind (arith, common_steps, c.keep.ensures, c.deref.ensures.value, c.len.ensures, kept) in
    let now = c.self.inside in
    rw (← c.self.view_is)
    (reads_from (record { mode = now.waiting.mode; reading = now.reading; bytes = now.waiting.bytes; held = now.held.items })
    (record { mode = c.keep.new.self.mode; reading = c.append_steps.new.reading; bytes = c.keep.new.self.bytes; held = c.append_steps.new.held.items })
    c.args.bytes.now c.deref.result.now rest c.args.steps.now.items
    c.append_steps.new.steps.items (c.deref.ensures.value ∙ all) same (rw c.keep.ensures c.in_ok-rest.ensures.unsure) (rw c.keep.ensures (rw (c.mode.ensures.is, taken) at c.in_ok-rest.ensures.goes)))
