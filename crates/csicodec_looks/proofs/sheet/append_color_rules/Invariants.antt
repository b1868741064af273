use Rattle.std.proofs.Common.{◌≡◌, ◌++◌}
use Rattle.csicodec_looks.proofs.Common.{color_rules}
use Rattle.csicodec_looks.proofs.sheet.append_color_rules.Given as goal

-- the rules of the places up to here
abbrev pub invariant-loop-place : goal.invariant-loop-place
invariant-loop-place l = l.out.items ≡ l.initial.out.items ++ color_rules l.palette l.part l.place
