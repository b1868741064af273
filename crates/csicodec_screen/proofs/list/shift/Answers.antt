use Rattle.std.proofs.Common.{◌≡◌, ◌-◌, min, length, arith, rules}
use Rattle.csicodec_screen.proofs.Parts.{shifted_down, shifted_up}
use Rattle.csicodec_screen.proofs.list.shift.Goals as goal

pub returns-then-upward : goal.returns-then-upward
returns-then-upward g c =
    let many : c.len.result ≡ length c.args.list.now.items = omega (arith, c.len.ensures, c.args.list.now.ok.0) in
    let some : c.min-free.result ≡ min c.args.count (c.part-start.result.1 - c.part-start.result.0) = search rules in
    λ blank. rw c.if-upward.true (shifted_up blank c.args.list.now.items c.turn.new.list.items c.args.from c.args.to c.len.result c.part-start.result.0 c.part-start.result.1 c.min-free.result c.args.count
    many c.part-start.ensures.start c.part-start.ensures.end some c.turn.ensures)

pub returns : goal.returns
returns g c =
    let many : c.len.result ≡ length c.args.list.now.items = omega (arith, c.len.ensures, c.args.list.now.ok.0) in
    let some : c.min-free.result ≡ min c.args.count (c.part-start.result.1 - c.part-start.result.0) = search rules in
    λ blank. rw c.if-upward.false (shifted_down blank c.args.list.now.items c.turn-2.new.list.items c.args.from c.args.to c.len.result c.part-start.result.0 c.part-start.result.1 c.min-free.result c.args.count
    many c.part-start.ensures.start c.part-start.ensures.end some c.turn-2.ensures)
