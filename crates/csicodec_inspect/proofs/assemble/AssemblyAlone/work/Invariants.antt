use Rattle.csicodec_inspect.proofs.{Common.ℕ, Common.List, Common.Appends, Common.Consumes, Assembled.Stands}
use Rattle.csicodec_inspect.proofs.assemble.AssemblyAlone.work.Given as goal

-- what was read gives what was written, as far as its lines are over
abbrev pub invariant-loop : goal.invariant-loop
invariant-loop g l = (read : List ℕ) × (sure : List ℕ) × Consumes (g.R.Read.remaining l.initial.input) (g.R.Read.remaining l.input) read
    × Stands read sure l.lines.line.items l.lines.over × Appends (g.W.Write.contents l.initial.output) (g.W.Write.contents l.output) sure
