use Rattle.std.proofs.Common.{ℕ, length}
use Rattle.csicodec_clean.proofs.Common.{GoesTo, bare_at}
use Rattle.csicodec_clean.proofs.glance.append_drawn.Given as goal

-- some text was drawn
abbrev pub invariant-loop-byte : goal.invariant-loop-byte
invariant-loop-byte g l = (rule : g.row.T.Denot) → (limit : ℕ) → GoesTo g.T.Rule.gives limit (bare_at rule l.sets l.bytes) (bare_at rule l.sets l.rest) l.initial.out.items l.out.items

abbrev pub decreases-loop-byte : goal.decreases-loop-byte
decreases-loop-byte g l = length l.rest
