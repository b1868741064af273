use Rattle.std.proofs.Common.{ℕ, List, length}
use Rattle.csicodec_spans.specs.Visits.{PushesTo, Stream}
use Rattle.csicodec_spans.proofs.driver.Driver.push.Given as goal

-- what is pushed of the rest is pushed of all
abbrev pub invariant-loop-self : goal.invariant-loop-self
invariant-loop-self g l = (after : List ℕ) (t : Stream g.row.V.Denot) → PushesTo g.M.Visit.does l.self l.rest l.out.items after t
    → PushesTo g.M.Visit.does l.initial.self l.bytes l.initial.out.items after t

abbrev pub decreases-loop-self : goal.decreases-loop-self
decreases-loop-self g l = length l.rest
