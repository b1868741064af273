use Rattle.csicodec_spans.proofs.Driven.{pushes_held, pushes_told}
use Rattle.csicodec_spans.proofs.driver.Driver.push_behind.Goals as goal

pub returns-in_default : goal.returns-in_default
returns-in_default g c =
    let (same, unsure) = rw c.in_default.is at c.in_ok-all.ensures.all in
    let now = c.self.inside in
    rw (← c.self.view_is, same)
    (pushes_held g.M.Visit.does now.waiting.limit now.visitor now.waiting.mode now.waiting.bytes c.args.bytes.now c.args.out.now.items
    (rw c.limit-limit.ensures.is at c.limit-limit.ensures.some) c.mode-mode.ensures.unsure unsure)

pub keep-requires-clause-unsure : goal.keep-requires-clause-unsure
keep-requires-clause-unsure g c = rw (← c.deref.ensures.value, c.in_ok-all.ensures.limit, ← c.limit-limit.ensures.is) c.in_ok-used.ensures.unsure

pub returns : goal.returns
returns g c =
    let (taken, whole) = rw c.in-Some.is at c.in_ok-all.ensures.all in
    let now = c.self.inside in
    let unsure = rw (c.limit-limit.ensures.is, c.deref.ensures.value, whole) at c.in_ok-used.ensures.unsure in
    let tells = rw (c.limit-limit.ensures.is, c.mode-mode.ensures.is, c.deref.ensures.value, whole) at c.in_ok-used.ensures.tells in
    rw (← c.self.view_is, c.keep.ensures, taken, whole)
    (pushes_told g.M.Visit.does now.waiting.limit now.visitor c.append_sure.new.visitor now.waiting.mode _ now.waiting.bytes c.args.bytes.now _ c.args.out.now.items c.append_sure.new.out.items
    (rw c.limit-limit.ensures.is at c.limit-limit.ensures.some) c.mode-mode.ensures.unsure unsure tells)
