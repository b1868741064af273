use Rattle.std.proofs.Common.{◌≡◌, ◌-◌, ◌++◌}
use Rattle.csicodec_screen.specs.Screen.{eighths}
use Rattle.csicodec_screen.proofs.flags.Flags.eighths.Given as goal

abbrev pub invariant-loop-i : goal.invariant-loop-i
invariant-loop-i l = l.flags.items ++ eighths l.i (l.count - l.i) ≡ eighths 0 l.count
