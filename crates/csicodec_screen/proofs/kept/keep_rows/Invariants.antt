use Rattle.std.proofs.Common.{◌≡◌, drop, take}
use Rattle.csicodec_screen.specs.Lists.{onto}
use Rattle.csicodec_screen.proofs.kept.keep_rows.Given as goal

abbrev pub invariant-loop-i : goal.invariant-loop-i
invariant-loop-i l = onto (drop l.i (take l.count l.leaving)) l.back.items ≡ onto (take l.count l.leaving) l.fn.back.items
