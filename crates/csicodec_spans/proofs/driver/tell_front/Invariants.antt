use Rattle.std.proofs.Common.{length}
use Rattle.csicodec_spans.specs.{Visits.TellsTo, Visits.place, declared.table.Mode.Mode}
use Rattle.csicodec_spans.proofs.driver.tell_front.Given as goal

-- some of the bytes were taken
abbrev pub invariant-loop-len : goal.invariant-loop-len
invariant-loop-len g l = TellsTo g.M.Visit.does (place l.initial.visitor l.limit Mode.Text l.left.rest.now) l.initial.out l.out (place l.visitor l.limit Mode.Text l.rest)

abbrev pub decreases-loop-len : goal.decreases-loop-len
decreases-loop-len g l = length l.rest
