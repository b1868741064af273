use Rattle.std.proofs.Common.{◌≡◌, ◌∙◌, ◌++◌, [], ℕ, List, ap, sym, rules}
use Rattle.csicodec_screen.proofs.Fed.{feeds}
use Rattle.csicodec_screen.proofs.emulator.Emulator.feed_anew.Goals as goal

pub returns : goal.returns
returns c =
    let now = c.self.inside in
    let rest = c.in_ok-rest.rest.now in
    let (waiting, goes, waits) = c.in_ok-rest.ensures.reads in
    let none : now.held.items ≡ [] = rw (← c.self.view_is) at c.requires in
    let held : c.extend_from_slice.new.self.items ≡ now.held.items ++ rest = search rules in
    rw (← c.self.view_is)
    (feeds now.events now.receiver.string.items now.held.items c.args.bytes.now c.args.bytes.now now.receiver.screen c.read.new.self.screen waiting c.read.new.events
    c.read.new.self.string.items rest c.extend_from_slice.new.self.items (ap (λ (xs : List ℕ). xs ++ c.args.bytes.now) (sym none)) (held ∙ ap (λ (xs : List ℕ). xs ++ rest) none) goes waits)
