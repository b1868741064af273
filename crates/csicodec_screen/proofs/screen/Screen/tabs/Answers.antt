use Rattle.std.proofs.Common.{◌≡◌, ◌∙◌, ℕ, min, ap, sym, rules}
use Rattle.csicodec_screen.specs.{Draws.times, Private.Changes.tab_once}
use Rattle.csicodec_screen.proofs.Times.{times_done, times_more}
use Rattle.csicodec_screen.proofs.screen.Screen.tabs.Goals as goal

pub loop-i-preserved : goal.loop-i-preserved
loop-i-preserved c =
    times_more (tab_once c.args.back) c.min-most.result c.loop-i._i c.loop-i.self c.tab_once.new.self c.loop-i-test.true c.tab_once.ensures ∙ c.loop-i.invariant

pub returns : goal.returns
returns c =
    let some : c.min-most.result ≡ min c.args.count c.args.self.now.columns = search rules in
    sym (times_done (tab_once c.args.back) c.min-most.result c.loop-i._i c.loop-i.self c.loop-i-test.false) ∙ c.loop-i.invariant ∙ ap (λ (n : ℕ). times n (tab_once c.args.back) c.args.self.now) some
