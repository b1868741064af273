use Rattle.std.proofs.Common.{◌≡◌, ◌∙◌, [], sym}
use Rattle.csicodec_spans.specs.Machine.{Open, collected, walk}
use Rattle.csicodec_spans.proofs.{Driven.pushes_told, Told.held_is}
use Rattle.csicodec_spans.proofs.driver.Driver.push_anew.Goals as goal

pub returns : goal.returns
returns g c =
    let now = c.self.inside.waiting in
    let some = rw c.limit-limit.ensures.is at c.limit-limit.ensures.some in
    let held : collected (walk now.limit (Open now.mode) now.bytes).to ≡ [] = rw (← c.self.view_is) at c.requires in
    let none : now.bytes ≡ [] = sym (held_is now.limit now.mode now.bytes some c.mode.ensures.unsure).0 ∙ held in
    let unsure = rw (c.limit-limit.ensures.is, ← c.split_at.ensures.back) at c.in_ok-used.ensures.unsure in
    let tells = rw (c.limit-limit.ensures.is, c.mode.ensures.is, ← c.split_at.ensures.back) at c.in_ok-used.ensures.tells in
    rw (← c.self.view_is, c.in_ok-hold.ensures)
    (pushes_told g.M.Visit.does now.limit c.self.inside.visitor c.append_sure.new.visitor now.mode c.in_ok-used.behind now.bytes c.args.bytes.now c.split_at.result.1.now
    c.args.out.now.items c.append_sure.new.out.items some c.mode.ensures.unsure unsure (rw none tells))
