use Rattle.std.proofs.Common.{◌≡◌, ◌+◌, ◌-◌, ◌^◌, ℕ, List, length}
use Rattle.std.specs.Io.KnownBytes.{Consumes}
use Rattle.csicodec_transform.proofs.io.read_out.Given as goal

-- these bytes were read, and are counted
abbrev pub invariant-loop-read : goal.invariant-loop-read
invariant-loop-read g l = (bytes : List ℕ) × Consumes (g.R.Read.remaining l.initial.input) (g.R.Read.remaining l.input) bytes × (l.read ≡ l.fn.before + length bytes)

abbrev pub decreases-loop-read : goal.decreases-loop-read
decreases-loop-read g l = 2 ^ 63 - l.read
