use Rattle.std.proofs.Common.{◌≡◌, ◌-◌}
use Rattle.csicodec_screen.specs.Draws.{placed, times}
use Rattle.csicodec_screen.proofs.screen.Screen.repeat.Given as goal

abbrev pub invariant-loop-i : goal.invariant-loop-i
invariant-loop-i l = times (l.most - l._i) (placed l.width l.char) l.self ≡ times l.most (placed l.width l.char) l.fn.self
