use Rattle.std.proofs.Common.{◌≡◌, List, ℕ, ◌++◌}
use Rattle.std.specs.Io.KnownBytes.{Appends}
use Rattle.csicodec_transform.proofs.io.send.Given as goal

-- what has gone out, and then the rest, is all there is
abbrev pub invariant-loop : goal.invariant-loop
invariant-loop g l = (sent : List ℕ) × (l.bytes ≡ sent ++ l.rest) × Appends (g.W.Write.contents l.initial.output) (g.W.Write.contents l.output) sent
