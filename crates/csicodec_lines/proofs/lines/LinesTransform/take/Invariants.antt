use Rattle.std.proofs.Common.{length}
use Rattle.csicodec_transform.specs.Transform.{AddsFront}
use Rattle.csicodec_lines.specs.Stream.{Passes}
use Rattle.csicodec_lines.proofs.lines.LinesTransform.take.Given as goal

-- the lines in front were taken
abbrev pub invariant-loop-rest : goal.invariant-loop-rest
invariant-loop-rest g l = AddsFront (Passes g.R.Anew.begins g.R.Rule.gives g.R.Rule.closes) l.initial.self l.bytes l.rest l.initial.out.items l.out.items l.self

abbrev pub decreases-loop-rest : goal.decreases-loop-rest
decreases-loop-rest g l = length l.rest
