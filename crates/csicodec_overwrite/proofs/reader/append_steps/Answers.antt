use Rattle.csicodec_overwrite.proofs.{Common.[], Common.refl, Read.to_none, Read.to_span}
use Rattle.csicodec_clean.proofs.Chunks.{behind_both}
use Rattle.csicodec_overwrite.proofs.reader.append_steps.Goals as goal

pub loop-span-init : goal.loop-span-init
loop-span-init c = record { parts = ([], refl); goes = to_none c.args.mode c.args.reading.now c.args.held.now.items c.args.bytes.now c.args.steps.now.items; short = λ h. h }

pub loop-span-preserved : goal.loop-span-preserved
loop-span-preserved c =
    let l = c.loop-span in
    let behind = l.cutter.rest.now in
    let span = c.in-Some.span in
    let left = c.next.new.self in
    let found = rw c.in-Some.is at c.in_ok-span.ensures.cut in
    let split = rw c.in-Some.is at c.in_ok-span.ensures.parts in
    let (more, given, longer) = c.in_ok-append_span.ensures.given in
    rw (c.title_behind-reading.ensures, c.in_ok-append_span.ensures.sets, c.read_as-kind.ensures) (record {
      parts = behind_both c.args.bytes.now l.invariant.parts.0 behind span.bytes.now left.rest.now l.invariant.parts.1 split;
      goes =
          to_span c.args.mode l.cutter.mode left.mode c.args.reading.now l.reading span.kind c.args.held.now.items l.held.items
          c.append_span.new.held.items c.args.bytes.now behind span.bytes.now left.rest.now c.args.steps.now.items
          l.steps.items c.append_span.new.steps.items more l.invariant.goes found (rw c.read_as-kind.ensures at given) longer;
      short = λ h. c.in_ok-append_span.ensures.short (l.invariant.short h);
    })
