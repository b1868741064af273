use Rattle.std.proofs.Common.{◌+◌, cond, length}
use Rattle.csicodec_clean.proofs.Common.{GoesTo, bare_at}
use Rattle.csicodec_clean.proofs.glance.append_run.Given as goal

-- some text and sequences were taken
abbrev pub invariant-loop-more : goal.invariant-loop-more
invariant-loop-more g l = GoesTo g.T.Rule.gives l.limit (bare_at l.initial.rule l.sets l.bytes) (bare_at l.rule l.sets l.rest) l.initial.out.items l.out.items

abbrev pub decreases-loop-more : goal.decreases-loop-more
decreases-loop-more g l = length l.rest + cond l.more 1 0
