use Rattle.std.proofs.Common.{length}
use Rattle.csicodec_spans.specs.Visits.{TellsTo, place}
use Rattle.csicodec_spans.proofs.driver.tell_sure.Given as goal

-- some spans were told
abbrev pub invariant-loop-to : goal.invariant-loop-to
invariant-loop-to g l = TellsTo g.M.Visit.does (place l.initial.visitor l.limit l.bytes.mode l.bytes.rest.now) l.initial.out l.out (place l.visitor l.limit l.left.mode l.left.rest.now)

abbrev pub decreases-loop-to : goal.decreases-loop-to
decreases-loop-to g l = length l.left.rest.now
