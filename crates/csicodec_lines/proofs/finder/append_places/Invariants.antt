use Rattle.std.proofs.Common.{length}
use Rattle.csicodec_lines.specs.Private.Written.{Appends, open_at}
use Rattle.csicodec_lines.proofs.Common.{longest, Finds}
use Rattle.csicodec_lines.proofs.finder.append_places.Given as goal

-- the parts in front were searched
abbrev pub invariant-loop-cut : goal.invariant-loop-cut
invariant-loop-cut l = Appends Finds (open_at (l.initial.search, l.initial.titled) longest l.fn.mode l.bytes) l.initial.out.items
    l.out.items (open_at (l.search, l.titled) longest l.mode l.rest)

abbrev pub decreases-loop-cut : goal.decreases-loop-cut
decreases-loop-cut l = length l.rest
