use Rattle.std.proofs.Common.{◌≡◌, ◌-◌}
use Rattle.csicodec_screen.specs.{Draws.times, Private.Changes.tab_once}
use Rattle.csicodec_screen.proofs.screen.Screen.tabs.Given as goal

abbrev pub invariant-loop-i : goal.invariant-loop-i
invariant-loop-i l = times (l.most - l._i) (tab_once l.back) l.self ≡ times l.most (tab_once l.back) l.fn.self
