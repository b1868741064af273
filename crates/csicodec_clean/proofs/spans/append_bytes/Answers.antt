use Rattle.std.proofs.Common.{◌≡◌, length, arith, rules}
use Rattle.csicodec_clean.proofs.{Common.common_steps, Common.rest_is, Told.none_held}
use Rattle.csicodec_clean.proofs.spans.append_bytes.Goals as goal

pub returns-then-is_empty-clause-chars : goal.returns-then-is_empty-clause-chars
returns-then-is_empty-clause-chars g c =
    let (chars, reads, out) = c.in_ok-rest.ensures.chars in
    let none : length c.args.held.now.items ≡ 0 = search rules in
    (chars, none_held c.args.held.now.items c.args.bytes.now chars c.in_ok-rest.rest.now c.extend_from_slice.new.self.items none reads c.in_ok-extend_from_slice.ensures.items, out)

pub returns-clause-chars : goal.returns-clause-chars
returns-clause-chars g c =
    let (chars, reads, out) = c.in_ok-sure.ensures.chars in
    let rest = c.in_ok-sure.field-0.now in
    let behind = rest_is c.deref.result.now reads.1 rest reads.2 in
    let kept : c.keep_from.new.bytes.items ≡ rest = grind (arith, common_steps, c.keep_from.ensures, c.deref.ensures.value, c.len.ensures, behind) in
    (chars, rw kept (rw (c.deref.ensures.value, c.in_ok-extend_from_slice-2.ensures.items) at reads), out)
