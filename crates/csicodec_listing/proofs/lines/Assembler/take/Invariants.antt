use Rattle.csicodec_listing.proofs.{Common.length, Joined.Goes}
use Rattle.csicodec_listing.proofs.lines.Assembler.take.Given as goal

-- a front of the bytes passed, and its lines are counted
abbrev pub invariant-loop-line : goal.invariant-loop-line
invariant-loop-line g l = Goes l.initial.self.line.items l.self.line.items l.bytes l.rest l.initial.self.over l.self.over l.initial.out.items l.out.items

abbrev pub decreases-loop-line : goal.decreases-loop-line
decreases-loop-line g l = length l.rest
