use Rattle.csicodec_tool.proofs.Common.{◌≡◌, true, length, AddsFront, PassesLog}
use Rattle.csicodec_tool.proofs.log.LogTransform.take.Given as goal

-- the lines in front were taken
abbrev pub invariant-loop-line : goal.invariant-loop-line
invariant-loop-line l = (l.self.each ≡ true) × AddsFront PassesLog l.initial.self l.bytes l.rest l.initial.out.items l.out.items l.self

abbrev pub decreases-loop-line : goal.decreases-loop-line
decreases-loop-line l = length l.rest
