use Rattle.std.proofs.Common.{◌-◌, ◌≡◌, ◌≤◌, ◌+◌}
use Rattle.csicodec_looks.specs.Xterm.{distance, nearest_among, palette}
use Rattle.csicodec_looks.proofs.xterm.nearest.Given as goal

-- what is found of the places that are left is what is found of all
abbrev pub invariant-loop-place : goal.invariant-loop-place
invariant-loop-place l = record {
  within : l.place ≤ l.last;
  least : l.least ≡ distance l.color (palette l.best);
  same : nearest_among l.color l.best (l.place + 1) (l.last - l.place) ≡ nearest_among l.color l.first (l.first + 1) (l.last - l.first);
}

abbrev pub decreases-loop-place : goal.decreases-loop-place
decreases-loop-place l = l.last - l.place
