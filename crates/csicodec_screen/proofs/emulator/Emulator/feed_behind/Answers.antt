use Rattle.std.proofs.Common.{◌≡◌, ◌∙◌, ◌++◌, ◌-◌, ap, sym, arith, drop, length, rules}
use Rattle.csicodec_screen.proofs.Fed.{feeds, left_is}
use Rattle.csicodec_screen.proofs.emulator.Emulator.feed_behind.Goals as goal

pub returns : goal.returns
returns c =
    let now = c.self.inside in
    let rest = c.in_ok-left.field-0.now in
    let all = c.deref.result.now in
    let n = c.len.result - length rest in
    let (waiting, goes, waits) = c.in_ok-left.ensures.reads in
    let (front, joined) = c.in_ok-left.ensures.parts in
    let held : c.extend_from_slice.new.self.items ≡ now.held.items ++ c.args.bytes.now = search rules in
    let many : n ≡ length all - length rest = omega (arith, c.len.ensures, ap length c.deref.ensures.value, c.extend_from_slice.new.self.ok.0) in
    let same = c.keep_from.ensures ∙ ap (drop n) (sym c.deref.ensures.value) ∙ left_is all front rest n joined many in
    rw (← c.self.view_is)
    (feeds now.events now.receiver.string.items now.held.items c.args.bytes.now all now.receiver.screen c.read.new.self.screen waiting c.read.new.events
    c.read.new.self.string.items rest c.keep_from.new.bytes.items (c.deref.ensures.value ∙ held) same goes waits)
