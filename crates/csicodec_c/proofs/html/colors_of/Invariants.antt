use Rattle.std.proofs.Common.{◌≡◌, map, take}
use Rattle.csicodec_c.specs.Html.{color_of}
use Rattle.csicodec_c.proofs.html.colors_of.Given as goal

-- the colours of the numbers up to here
abbrev pub invariant-loop-number : goal.invariant-loop-number
invariant-loop-number l = l.colors.items ≡ map color_of (take l.number-index l.numbers)
