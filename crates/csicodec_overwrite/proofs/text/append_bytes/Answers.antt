use Rattle.csicodec_overwrite.proofs.Common.{◌≡◌, arith, common_steps}
use Rattle.csicodec_clean.specs.Private.Steps.{ReadsTo}
use Rattle.csicodec_spans.proofs.Missed.{rest_is}
use Rattle.csicodec_overwrite.proofs.text.append_bytes.Goals as goal

pub returns-clause-chars : goal.returns-clause-chars
returns-clause-chars c =
    let (chars, reads, out) = c.in_ok-sure.ensures.chars in
    let (front, split) = c.in_ok-sure.ensures.parts in
    let rest = c.in_ok-sure.field-0.now in
    let behind = rest_is c.deref.result.now front rest split in
    let kept : c.keep_from.new.bytes.items ≡ rest = grind (arith, common_steps, c.keep_from.ensures, c.deref.ensures.value, c.len.ensures, behind) in
    let to : ReadsTo c.deref.result.now chars rest = (reads, front, split) in
    (chars, rw kept (rw (c.deref.ensures.value, c.in_ok-extend_from_slice.ensures.items) at to), out)
